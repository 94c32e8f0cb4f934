-- The log that is written to, of a store that was opened, and where the other one takes its place.
use Rattle.std.proofs.Common.{◌≡◌, ℕ, ◌+◌, ◌<◌, Bool, true, false, not, ◌||◌, Ok, List, [], ◌++◌, refl, ap, sym, subst, ◌∙◌, arith, inl, append-nil}
use Rattle.rk_outside.specs.Disks.{Files}
use Rattle.rk_pieces.specs.Pieces.{is_empty}
use Rattle.rk_model.specs.Operations.{History, last}
use Rattle.rk_log.specs.Logs.{LogsSeen, later, due_behind, begins_lower}
use Rattle.rk_log.specs.declared.group.Logged.{Logged}
use Rattle.rk_opening.specs.Stores.{StoreSeen, has_magic, store_of}
use Rattle.rk_wal.specs.Following.{IsReady, due_in, other_of}
use Rattle.rk_standing.specs.Stands.{StoreStands, is_second}
use Rattle.rk_standing.specs.Growing.{TakesMore}

or_true : (a c : Bool) → (a || true || c) ≡ true
or_true true c = refl
or_true false c = refl

-- what is due behind the later groups of a log and of an empty one, and that the empty one is taken last
due_by : (flushed : ℕ) (this other : List Logged) → other ≡ [] → due_behind (flushed + 1) (later flushed this ++ later flushed other) ≡ due_behind (flushed + 1) (later flushed other ++ later flushed this)
due_by flushed this other none =
    ap (λ gs. due_behind (flushed + 1) (later flushed this ++ later flushed gs)) none
    ∙ ap (due_behind (flushed + 1)) (append-nil (later flushed this))
    ∙ sym (ap (λ gs. due_behind (flushed + 1) (later flushed gs ++ later flushed this)) none)

last_by : (flushed : ℕ) (this other : List Logged) → other ≡ [] → (is_empty (later flushed this) || is_empty (later flushed other) || begins_lower (later flushed this) (later flushed other)) ≡ true
last_by flushed this other none =
    ap (λ gs. is_empty (later flushed this) || is_empty (later flushed gs) || begins_lower (later flushed this) (later flushed gs)) none
    ∙ or_true (is_empty (later flushed this)) (begins_lower (later flushed this) [])

switched_ready : (flushed next : ℕ) (t : Bool) (l : LogsSeen) → IsReady flushed t l next → other_of t l ≡ [] → IsReady flushed (not t) l next
switched_ready flushed next true l ready none = record { due = due_by flushed l.second l.first none ∙ ready.due; taken_last = last_by flushed l.second l.first none; joins = inl none }
switched_ready flushed next false l ready none = record { due = due_by flushed l.first l.second none ∙ ready.due; taken_last = last_by flushed l.first l.second none; joins = inl none }

pub takes_switched : (t : Bool) (files : Files) (s : StoreSeen) (h : History) → TakesMore t files s h → other_of t s.logs ≡ [] → TakesMore (not t) files s h
takes_switched t files s h takes none = record {
  head = takes.head;
  holds = takes.holds;
  stands = takes.stands;
  flushed = takes.flushed;
  ready = switched_ready s.version.flushed_upto (last h + 1) t s.logs takes.ready none;
}

-- a store that is ready from the number that is due
pub takes_opened : (files : Files) (s : StoreSeen) (h : History) → has_magic (files 0) ≡ true → store_of files ≡ Ok s → StoreStands s h →
    IsReady s.version.flushed_upto (is_second s) s.logs (due_in s.version.flushed_upto (is_second s) s.logs) → s.version.flushed_upto < due_in s.version.flushed_upto (is_second s) s.logs →
    TakesMore (is_second s) files s h
takes_opened files s h head holds stands ready above = record {
  head = head;
  holds = holds;
  stands = stands;
  flushed = omega (arith, above, stands.last_is);
  ready = subst (IsReady s.version.flushed_upto (is_second s) s.logs) (omega (arith, above, stands.last_is)) ready;
}
