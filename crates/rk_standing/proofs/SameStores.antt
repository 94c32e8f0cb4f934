-- Stores that are the same but for groups that are in tables stand for the same.
use Rattle.std.proofs.Common.{◌≡◌, ℕ, ◌+◌, ◌-◌, Bool, true, false, not, ◌&&◌, ◌||◌, cond, List, [], ◌∷◌, ◌++◌, Result, Ok, Err, refl, ap, sym, subst, ◌∙◌}
use Rattle.rk_pieces.specs.Pieces.{is_empty}
use Rattle.rk_outside.specs.Disks.{Files}
use Rattle.rk_outside.specs.declared.error.StoreError.{StoreError}
use Rattle.rk_model.specs.Operations.{History}
use Rattle.rk_model.specs.declared.op.Entry.{Entry}
use Rattle.rk_log.specs.Logs.{LogsSeen, later, begins_lower, due_behind}
use Rattle.rk_log.specs.declared.group.Logged.{Logged}
use Rattle.rk_opening.specs.Stores.{StoreSeen, store_of, kept, settled, AreAlike}
use Rattle.rk_opening.specs.Openings.{IsAlike}
use Rattle.rk_wal.specs.Following.{due_in, log_of, other_of}
use Rattle.rk_memstore.specs.Agreement.{Agrees}
use Rattle.rk_standing.specs.Stands.{log_entries, is_second, store_parts, last_number, StoreStands, AreStoreOf}

later_kept : (flushed : ℕ) (log : List Logged) → later flushed (kept flushed log) ≡ later flushed log
later_kept flushed log = by_later (later flushed log) refl
  where
    by_later : (above : List Logged) → above ≡ later flushed log → later flushed (cond (is_empty above) [] log) ≡ later flushed log
    by_later [] none = none
    by_later (g ∷ gs) some = refl

-- what is read of the later groups of both logs
abbrev second_by : List Logged → List Logged → Bool
second_by first second = not (is_empty second) && (is_empty first || begins_lower first second)

abbrev parts_of : Bool → List Logged → List Logged → List (List Entry)
parts_of true first second = log_entries first ∷ log_entries second ∷ []
parts_of false first second = log_entries second ∷ log_entries first ∷ []

abbrev due_of : ℕ → Bool → List Logged → List Logged → ℕ
due_of flushed true first second = due_behind (flushed + 1) (first ++ second)
due_of flushed false first second = due_behind (flushed + 1) (second ++ first)

parts_are : (flushed : ℕ) (b : Bool) (l : LogsSeen) → log_entries (later flushed (other_of b l)) ∷ log_entries (later flushed (log_of b l)) ∷ [] ≡ parts_of b (later flushed l.first) (later flushed l.second)
parts_are flushed true l = refl
parts_are flushed false l = refl

due_is : (flushed : ℕ) (b : Bool) (l : LogsSeen) → due_in flushed b l ≡ due_of flushed b (later flushed l.first) (later flushed l.second)
due_is flushed true l = refl
due_is flushed false l = refl

parts_from : List Logged → List Logged → List (List Entry)
parts_from first second = parts_of (second_by first second) first second

number_from : ℕ → List Logged → List Logged → ℕ
number_from flushed first second = due_of flushed (second_by first second) first second - 1

store_parts_are : (s : StoreSeen) → store_parts s ≡ parts_from (later s.version.flushed_upto s.logs.first) (later s.version.flushed_upto s.logs.second)
unfolding parts_from
store_parts_are s = parts_are s.version.flushed_upto (is_second s) s.logs

number_is : (s : StoreSeen) → last_number s ≡ number_from s.version.flushed_upto (later s.version.flushed_upto s.logs.first) (later s.version.flushed_upto s.logs.second)
unfolding number_from
number_is s = ap (λ n. n - 1) (due_is s.version.flushed_upto (is_second s) s.logs)

parts_settled : (s : StoreSeen) → store_parts (settled s) ≡ store_parts s
parts_settled s =
    store_parts_are (settled s)
    ∙ (λ i. parts_from (later_kept s.version.flushed_upto s.logs.first i) (later_kept s.version.flushed_upto s.logs.second i))
    ∙ sym (store_parts_are s)

number_settled : (s : StoreSeen) → last_number (settled s) ≡ last_number s
number_settled s =
    number_is (settled s)
    ∙ (λ i. number_from s.version.flushed_upto (later_kept s.version.flushed_upto s.logs.first i) (later_kept s.version.flushed_upto s.logs.second i))
    ∙ sym (number_is s)

-- a store and one whose logs without later groups are emptied
pub stands_settled : (s : StoreSeen) (h : History) → StoreStands s h → StoreStands (settled s) h
stands_settled s h stands = record {
  last_is = stands.last_is ∙ sym (number_settled s);
  agrees = subst (λ parts. Agrees parts h []) (sym (parts_settled s)) stands.agrees;
}

pub stands_unsettled : (s : StoreSeen) (h : History) → StoreStands (settled s) h → StoreStands s h
stands_unsettled s h stands = record {
  last_is = stands.last_is ∙ number_settled s;
  agrees = subst (λ parts. Agrees parts h []) (parts_settled s) stands.agrees;
}

-- a store that is read alike
pub alike_store : (s : StoreSeen) (h : History) (r : Result StoreSeen StoreError) → AreAlike (Ok s) r → StoreStands s h → (t : StoreSeen) × (r ≡ Ok t) × StoreStands t h
alike_store s h (Ok t) same stands = (t, refl, stands_unsettled t h (subst (λ u. StoreStands u h) same (stands_settled s h stands)))
alike_store s h (Err e) same stands = absurd same

pub alike_files : (old files : Files) (h : History) → IsAlike old files → AreStoreOf old h → AreStoreOf files h
alike_files old files h is stands =
    let t = alike_store stands.store h (store_of files) (subst (λ r. AreAlike r (store_of files)) stands.holds is.alike) stands.stands in
    record { store = t.0; head = is.head; holds = t.1; stands = t.2 }
