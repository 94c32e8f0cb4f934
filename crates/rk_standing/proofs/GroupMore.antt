-- A store with one group more in the log that is taken last stands for the history with the group's batches.
use Rattle.std.proofs.Common.{◌≡◌, ◌⊎◌, ℕ, ◌+◌, ◌≤◌, Bool, true, false, not, ◌&&◌, ◌||◌, List, [], ◌∷◌, ◌++◌, length, IsPermutation, refl, ap, sym, subst, ◌∙◌, inl, inr, ⊎_elim, arith, append-nil, append_assoc}
use Rattle.std.specs.Prelude.{nat_lt, if◌then◌else◌}
use Rattle.std.proofs.lemmas.Bool.{lt-ltb}
use Rattle.std.proofs.lemmas.List.Elements.{filter-append, recursion_from_All}
use Rattle.std.proofs.lemmas.List.Sorted.{IsPermutation-refl}
use Rattle.rk_pieces.specs.Pieces.{is_empty}
use Rattle.rk_model.specs.Lists.{Among}
use Rattle.rk_model.specs.Operations.{History, last, numbered, operations}
use Rattle.rk_model.specs.declared.op.Entry.{Entry}
use Rattle.rk_model.proofs.Members.{among_all, among_append, among_left}
use Rattle.rk_mem.specs.Chunks.{AreNewer}
use Rattle.rk_mem.specs.Memory.{EachTwo}
use Rattle.rk_merge_laws.specs.Chunks.{all_of}
use Rattle.rk_log.specs.Groups.{group_end}
use Rattle.rk_log.specs.Logs.{LogsSeen, later, is_second_active, begins_lower}
use Rattle.rk_log.specs.declared.group.Logged.{Logged}
use Rattle.rk_opening.specs.Stores.{StoreSeen}
use Rattle.rk_wal.specs.Following.{IsReady, due_in, is_taken_last, log_of, other_of, with_group}
use Rattle.rk_memstore.proofs.Numberings.{numbered_within}
use Rattle.rk_standing.specs.Stands.{group_entries, log_entries, parts_by, store_parts, is_second, last_number, StoreStands}
use Rattle.rk_standing.proofs.Growing.{last_both, agrees_on}

-- which log is written to, by the later groups of the log that is taken last, and those of the other one
second_by : (flushed : ℕ) (t : Bool) (l : LogsSeen) → is_taken_last flushed t l ≡ true → (later flushed (log_of t l) ≡ []) ⊎ (is_second_active flushed l ≡ t)
second_by flushed true l taken = by_lists (later flushed l.first) (later flushed l.second) taken
  where
    by_lists : (other this : List Logged) → (is_empty other || is_empty this || begins_lower other this) ≡ true → (this ≡ []) ⊎ ((not (is_empty this) && (is_empty other || begins_lower other this)) ≡ true)
    by_lists other [] taken = inl refl
    by_lists [] (g ∷ gs) taken = inr refl
    by_lists (o ∷ os) (g ∷ gs) taken = inr taken
second_by flushed false l taken = by_lists (later flushed l.second) (later flushed l.first) taken
  where
    not_both : (a b : ℕ) → nat_lt a b ≡ true → nat_lt b a ≡ false
    not_both a b lt = grind (arith)

    by_lists : (other this : List Logged) → (is_empty other || is_empty this || begins_lower other this) ≡ true → (this ≡ []) ⊎ ((not (is_empty other) && (is_empty this || begins_lower this other)) ≡ false)
    by_lists other [] taken = inl refl
    by_lists [] (g ∷ gs) taken = inr refl
    by_lists (o ∷ os) (g ∷ gs) taken = inr (not_both o.group.first g.group.first taken)

log_with : (t : Bool) (g : Logged) (l : LogsSeen) → log_of t (with_group t g l) ≡ log_of t l ++ g ∷ []
log_with true g l = refl
log_with false g l = refl

other_with : (t : Bool) (g : Logged) (l : LogsSeen) → other_of t (with_group t g l) ≡ other_of t l
other_with true g l = refl
other_with false g l = refl

entries_push : (gs : List Logged) (g : Logged) → log_entries (gs ++ g ∷ []) ≡ log_entries gs ++ group_entries g.group
entries_push [] g = append-nil (group_entries g.group)
entries_push (x ∷ xs) g = ap (λ es. group_entries x.group ++ es) (entries_push xs g) ∙ sym (append_assoc (group_entries x.group) (log_entries xs) (group_entries g.group))

not_empty : (gs : List Logged) (g : Logged) → gs ++ g ∷ [] ≡ [] → ⊥
not_empty [] g e = absurd cc
not_empty (x ∷ xs) g e = absurd cc

-- where the log has no later group, it does not matter which of the two comes first
swapped : (other this : List Logged) → this ≡ [] → log_entries this ++ (log_entries other ++ []) ≡ log_entries other ++ log_entries this
swapped other this none =
    ap (λ gs. log_entries gs ++ (log_entries other ++ [])) none
    ∙ ap (λ es. es) (append-nil (log_entries other))
    ∙ sym (append-nil (log_entries other))
    ∙ ap (λ gs. log_entries other ++ log_entries gs) (sym none)

all_by : (t u : Bool) (s : StoreSeen) → later s.version.flushed_upto (log_of t s.logs) ≡ [] →
    all_of (parts_by u s) ≡ log_entries (later s.version.flushed_upto (other_of t s.logs)) ++ log_entries (later s.version.flushed_upto (log_of t s.logs))
all_by true true s none = ap (λ es. log_entries (later s.version.flushed_upto s.logs.first) ++ es) (append-nil (log_entries (later s.version.flushed_upto s.logs.second)))
all_by false false s none = ap (λ es. log_entries (later s.version.flushed_upto s.logs.second) ++ es) (append-nil (log_entries (later s.version.flushed_upto s.logs.first)))
all_by true false s none = swapped (later s.version.flushed_upto s.logs.first) (later s.version.flushed_upto s.logs.second) none
all_by false true s none = swapped (later s.version.flushed_upto s.logs.second) (later s.version.flushed_upto s.logs.first) none

module _ (t : Bool) (s : StoreSeen) (g : Logged) (h : History) (stands : StoreStands s h)
    (ready : IsReady s.version.flushed_upto t s.logs (last h + 1)) (begins : g.group.first ≡ last h + 1) (above : s.version.flushed_upto ≤ last h)
    (still : IsReady s.version.flushed_upto t (with_group t g s.logs) (group_end g.group)) where
  flushed : ℕ
  flushed = s.version.flushed_upto

  more : StoreSeen
  more = record s { logs = with_group t g s.logs }

  others : List Entry
  others = log_entries (later flushed (other_of t s.logs))

  before : List Entry
  before = log_entries (later flushed (log_of t s.logs))

  added : List Entry
  added = numbered (last h + 1) (operations g.group.batches)

  later_with : later flushed (log_of t (with_group t g s.logs)) ≡ later flushed (log_of t s.logs) ++ g ∷ []
  unfolding flushed
  later_with =
      ap (later flushed) (log_with t g s.logs)
      ∙ filter-append (λ x. nat_lt flushed x.group.first) (log_of t s.logs) (g ∷ [])
      ∙ ap (λ b. later flushed (log_of t s.logs) ++ (if b then g ∷ [] else [])) (lt-ltb flushed g.group.first (omega (arith, begins, above)))

  is_now : is_second more ≡ t
  unfolding flushed more
  is_now = ⊎_elim (λ none. absurd (not_empty (later flushed (log_of t s.logs)) g (sym later_with ∙ none))) (λ is. is) (second_by flushed t (with_group t g s.logs) still.taken_last)

  parts_now : store_parts more ≡ others ∷ (before ++ added) ∷ []
  unfolding flushed more others before added
  parts_now =
      ap (λ b. parts_by b more) is_now
      ∙ (λ i. log_entries (later flushed (other_with t g s.logs i)) ∷ log_entries (later_with i) ∷ [])
      ∙ ap (λ es. log_entries (later flushed (other_of t s.logs)) ∷ es ∷ []) (entries_push (later flushed (log_of t s.logs)) g)
      ∙ ap (λ n. log_entries (later flushed (other_of t s.logs)) ∷ (log_entries (later flushed (log_of t s.logs)) ++ numbered n (operations g.group.batches)) ∷ []) begins

  -- the log had no later group, or was written to
  was : (later flushed (log_of t s.logs) ≡ []) ⊎ (is_second s ≡ t)
  unfolding flushed
  was = second_by flushed t s.logs ready.taken_last

  all_before : all_of (store_parts s) ≡ others ++ before
  unfolding flushed others before
  all_before = ⊎_elim
      (λ none. all_by t (is_second s) s none)
      (λ is. ap (λ b. all_of (parts_by b s)) is ∙ ap (λ es. others ++ es) (append-nil before))
      was

  layered_before : AreNewer others before
  unfolding flushed others before
  layered_before e f at_e at_f = ⊎_elim
      (λ none. absurd (subst (λ gs. Among f (log_entries gs)) none at_f))
      (λ is. (subst (λ b. EachTwo AreNewer (parts_by b s)) is stands.agrees.layered).0.0 e f at_e at_f)
      was

  below : (e : Entry) → Among e others → e.seq ≤ last h
  below e at = among_all (λ x. x.seq ≤ last h) (all_of (store_parts s)) e (recursion_from_All (λ x. x.seq ≤ last h) (all_of (store_parts s)) stands.agrees.none_above)
      (subst (λ es. Among e es) (sym all_before) (among_left others before e at))

  layered_now : AreNewer others (before ++ added)
  unfolding added
  layered_now e f at_e at_f = elim (among_append before added f at_f) [
    | inl old ↦ layered_before e f at_e old
    | inr new ↦ omega (arith, below e at_e, (numbered_within (last h + 1) (operations g.group.batches) f new).0)
  ]

  same_all : all_of (store_parts s) ++ added ≡ all_of (others ∷ (before ++ added) ∷ [])
  same_all =
      ap (λ es. es ++ added) all_before
      ∙ append_assoc others before added
      ∙ ap (λ es. others ++ es) (sym (append-nil (before ++ added)))

  number : last h + length (operations g.group.batches) ≡ last_number more
  unfolding flushed more
  number = omega (arith, begins, sym (ap (λ b. due_in s.version.flushed_upto b (with_group t g s.logs)) is_now ∙ still.due))

  pub group_stands : StoreStands (record s { logs = with_group t g s.logs }) (h ++ g.group.batches)
  unfolding added more
  group_stands = record {
    last_is = last_both h g.group.batches ∙ number;
    agrees = agrees_on (store_parts s) (store_parts more) h g.group.batches [] stands.agrees (λ n at. absurd at)
        (subst (λ parts. IsPermutation (all_of (store_parts s) ++ added) (all_of parts)) (sym parts_now)
        (subst (IsPermutation (all_of (store_parts s) ++ added)) same_all (IsPermutation-refl (all_of (store_parts s) ++ added))))
        (subst (EachTwo AreNewer) (sym parts_now) ((layered_now, tt), (tt, tt)));
  }
