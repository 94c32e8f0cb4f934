-- The live numbers: whether a number is live, and the steps of snapshots.
use Rattle.std.proofs.Common.{◌≡◌, ℕ, ◌<◌, ◌≤◌, Bool, true, false, not, ◌==◌, cond, List, [], ◌∷◌, ◌++◌, length, get_or, remove, position, Contains, IsPermutation, Some, None, refl, ap, sym, subst, ◌∙◌, inl, inr, nat_le, nat_lt, arith}
use Rattle.std.specs.List.{list_any, position_or_len}
use Rattle.std.proofs.lemmas.Bool.{eqb-true, ltb-false, le-leb, lt-leb}
use Rattle.std.proofs.lemmas.List.Elements.{Contains-get_or}
use Rattle.std.proofs.lemmas.List.Quantifiers.{position-Some}
use Rattle.std.proofs.lemmas.List.Sums.{fails_before_first}
use Rattle.std.proofs.lemmas.List.Sorted.{IsPermutation-append_left, length_permutation, list_any-IsPermutation}
use Rattle.rk_model.specs.Lists.{Among}
use Rattle.rk_model.specs.Operations.{History, last}
use Rattle.rk_model.specs.declared.op.Entry.{Entry}
use Rattle.rk_model.proofs.Members.{none_any, any_from, among_left, among_right, among_append, among_contained, contains_among}
use Rattle.rk_outside.specs.declared.error.StoreError.TheVariants.{NoSnap, TooManySnaps, Memory}
use Rattle.rk_machine.specs.State.{State}
use Rattle.rk_machine.specs.Events.{Snap, Release, Number, Released, Refused}
use Rattle.rk_machine.specs.Due.{answer_if}
use Rattle.rk_machine.specs.Snapshots.{if_not_live, snap_due, after_snap}
use Rattle.rk_machine.specs.declared.limits.TheConstants.{MOST_SNAPSHOTS}
use Rattle.rk_memstore.specs.Agreement.{IsSeen, Agrees}
use Rattle.rk_memstore.specs.Standing.{MemSeen, StandsInMemory, parts}
use Rattle.rk_memstore.specs.Answers.{IsStep}
use Rattle.rk_memstore.proofs.Copies.{taken}
use Rattle.rk_memstore.proofs.Steps.{step_due, step_goes_on}

-- the first place of a number has it
pub place_has : (xs : List ℕ) (n i : ℕ) → position (λ k. k == n) xs ≡ Some i → (i < length xs) × (n ≡ get_or xs i n)
place_has xs n i found = let at = position-Some (λ k. k == n) xs i n found in (at.0, sym (eqb-true (get_or xs i n) n at.1))

placed : (xs : List ℕ) (n i : ℕ) → position (λ k. k == n) xs ≡ Some i → list_any (λ k. k == n) xs ≡ true
placed xs n i found =
    let at = position-Some (λ k. k == n) xs i n found in
    any_from (λ k. k == n) xs (get_or xs i n) (among_contained xs (get_or xs i n) (Contains-get_or xs i n at.0)) at.1

not_placed : (xs : List ℕ) (n : ℕ) → position (λ k. k == n) xs ≡ None → list_any (λ k. k == n) xs ≡ false
not_placed xs n none = none_any (λ k. k == n) xs (λ a at. other a (contains_among xs a at))
  where
    past : (b : Bool) → nat_lt (position_or_len (λ k. k == n) xs) (length xs) ≡ b → cond b (Some (position_or_len (λ k. k == n) xs)) None ≡ None → length xs ≤ position_or_len (λ k. k == n) xs
    past true is same = cc
    past false is same = ltb-false (position_or_len (λ k. k == n) xs) (length xs) is

    other : (a : ℕ) → Contains xs a → (a == n) ≡ false
    other a (k, less, is) =
        let end : length xs ≤ position_or_len (λ k. k == n) xs = past (nat_lt (position_or_len (λ k. k == n) xs) (length xs)) refl none in
        sym (ap (λ (b : ℕ). b == n) is) ∙ fails_before_first (λ k. k == n) xs k a (omega (arith, less, end))

module _ (c : MemSeen) (number : ℕ) (m : State) (stands : StandsInMemory c m) where
  -- a number that has a place is live, and one that has none is refused
  pub live_is : (i : ℕ) → position (λ k. k == number) c.live ≡ Some i → if_not_live m number ≡ None
  live_is i found = ap (λ b. answer_if (not b) (Refused (NoSnap number))) (sym (list_any-IsPermutation (λ k. k == number) c.live m.live stands.live) ∙ placed c.live number i found)

  pub not_live_is : position (λ k. k == number) c.live ≡ None → if_not_live m number ≡ Some (Refused (NoSnap number))
  not_live_is none = ap (λ b. answer_if (not b) (Refused (NoSnap number))) (sym (list_any-IsPermutation (λ k. k == number) c.live m.live stands.live) ∙ not_placed c.live number none)

-- entries stand for a history with other live numbers, where none of these is new
agrees_with : (ess : List (List Entry)) (h : History) (live live' : List ℕ) → ((n : ℕ) → IsSeen h live' n → IsSeen h live n) → Agrees ess h live → Agrees ess h live'
agrees_with ess h live live' seen agrees = record {
  same = λ n at. agrees.same n (seen n at);
  once = agrees.once;
  layered = agrees.layered;
  none_above = agrees.none_above;
}

-- a store and a state whose live numbers alone change
stands_with : (c : MemSeen) (m : State) (ours theirs : List ℕ) → StandsInMemory c m → ((n : ℕ) → IsSeen m.history theirs n → IsSeen m.history m.live n) → IsPermutation ours theirs →
    StandsInMemory (record c { live = ours }) (record m { live = theirs })
stands_with c m ours theirs stands seen same = record {
  commits = stands.commits;
  keyed = stands.keyed;
  agrees = agrees_with (parts c) m.history m.live theirs seen stands.agrees;
  active = stands.active;
  frozen = stands.frozen;
  last = stands.last;
  live = same;
}

none_due : (c : MemSeen) → length c.live < MOST_SNAPSHOTS → (m : State) → StandsInMemory c m → snap_due m ≡ None
none_due c few m stands =
    ap (λ b. answer_if b (Refused (TooManySnaps (length m.live)))) (lt-leb MOST_SNAPSHOTS (length m.live) (omega (arith, few, length_permutation c.live m.live stands.live)))

among_rest : (before after : List ℕ) (number n : ℕ) → Among n (before ++ after) → Among n (before ++ number ∷ after)
among_rest before after number n at = elim (among_append before after n at) [
  | inl l ↦ among_left before (number ∷ after) n l
  | inr r ↦ among_right before (number ∷ after) n (inr r)
]

-- one more copy of the last number
pub snap_done : (c : MemSeen) → length c.live < MOST_SNAPSHOTS → IsStep c (record c { live = c.live ++ c.last ∷ [] }) Snap (Number c.last)
snap_done c few m stands = (
  after_snap m,
  step_goes_on m Snap (Number c.last) (after_snap m) refl refl tt (none_due c few m stands) (inl (ap Number stands.last, refl)),
  stands_with c m (c.live ++ c.last ∷ []) (m.live ++ last m.history ∷ []) stands seen same,
  refl,
)
  where
    seen : (n : ℕ) → IsSeen m.history (m.live ++ last m.history ∷ []) n → IsSeen m.history m.live n
    seen n (inl now) = inl now
    seen n (inr at) = elim (among_append m.live (last m.history ∷ []) n at) [
      | inl live ↦ inr live
      | inr own ↦ elim own [ inl now ↦ inl now | inr none ↦ absurd none ]
    ]

    same : IsPermutation (c.live ++ c.last ∷ []) (m.live ++ last m.history ∷ [])
    same = subst (λ n. IsPermutation (c.live ++ c.last ∷ []) (m.live ++ n ∷ [])) stands.last (IsPermutation-append_left (c.last ∷ []) c.live m.live stands.live)

pub snap_fails : (c : MemSeen) → length c.live < MOST_SNAPSHOTS → IsStep c c Snap (Refused Memory)
snap_fails c few m stands = (m, step_goes_on m Snap (Refused Memory) m refl refl tt (none_due c few m stands) (inr (refl, refl)), stands, refl)

pub snap_refused : (c : MemSeen) → MOST_SNAPSHOTS ≤ length c.live → IsStep c c Snap (Refused (TooManySnaps (length c.live)))
snap_refused c full m stands =
    let as_many : length m.live ≡ length c.live = length_permutation c.live m.live stands.live in
    let is : snap_due m ≡ Some (Refused (TooManySnaps (length c.live))) =
    ap (λ k. answer_if (nat_le MOST_SNAPSHOTS k) (Refused (TooManySnaps k))) as_many
    ∙ ap (λ b. answer_if b (Refused (TooManySnaps (length c.live)))) (le-leb MOST_SNAPSHOTS (length c.live) full) in
    (m, step_due m Snap (Refused (TooManySnaps (length c.live))) refl tt is, stands, refl)

-- one copy of a live number less
pub release_done : (c : MemSeen) (number i : ℕ) → position (λ k. k == number) c.live ≡ Some i → IsStep c (record c { live = remove c.live i }) (Release number) Released
release_done c number i found m stands =
    let (less, at) = place_has c.live number i found in
    let left = taken c.live m.live i number stands.live less at in
    let still : (n : ℕ) → Among n (left.before ++ left.after) → Among n m.live = λ n at.
    subst (λ l. Among n l) (sym left.is) (among_rest left.before left.after number n at) in (
      record m { live = left.before ++ left.after },
      step_goes_on m (Release number) Released (record m { live = left.before ++ left.after }) refl refl tt (live_is c number m stands i found) (inl (refl, ((left.before, left.after, left.is, refl), refl))),
      stands_with c m (remove c.live i) (left.before ++ left.after) stands (λ n seen. elim seen [ inl now ↦ inl now | inr at ↦ inr (still n at) ]) left.same,
      refl,
    )

pub release_refused : (c : MemSeen) (number : ℕ) → position (λ k. k == number) c.live ≡ None → IsStep c c (Release number) (Refused (NoSnap number))
release_refused c number none m stands = (m, step_due m (Release number) (Refused (NoSnap number)) refl tt (not_live_is c number m stands none), stands, refl)
