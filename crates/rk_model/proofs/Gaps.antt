-- Gaps of a list: what stands before a cut, and steps towards it.
use Prim.Native.Nat.{zero, suc}
use Rattle.std.proofs.Common.{◌≡◌, ℕ, ◌+◌, ◌<◌, ◌≤◌, Bool, true, false, cond, List, [], ◌∷◌, length, Some, None, refl, sym, ap, ◌∙◌, ◌⊎◌, inl, inr, arith}
use Rattle.std.specs.Prelude.{not}
use Rattle.std.proofs.lemmas.Bool.{cases_lt, true≢false}
use Rattle.std.specs.List.{slice_get}
use Rattle.std.specs.List.Sorted.{IsPartitionedBy}
use Rattle.std.proofs.lemmas.Option.{slice_get_within, get_or_from_slice_get}
use Rattle.rk_model.specs.Cuts.{count_before, item_from, gap_on, gap_past, is_passed}

pub cut_within : {A : Type 0} (takes : A → Bool) (xs : List A) → count_before takes xs ≤ length xs
cut_within takes [] = omega arith
cut_within takes (x ∷ xs) = go (takes x) (cut_within takes xs)
  where
    go : (b : Bool) → count_before takes xs ≤ length xs → cond b (count_before takes xs + 1) 0 ≤ length (x ∷ xs)
    go true le = omega arith
    go false le = omega arith

-- there is no item behind the last
pub past_none : {A : Type 0} (xs : List A) (g : ℕ) → slice_get xs g ≡ None → length xs ≤ g
past_none [] g is = omega arith
past_none (x ∷ xs) zero is = cc
past_none (x ∷ xs) (suc g) is = let a = past_none xs g is in omega arith

-- an item before the cut is taken
pub taken_before : {A : Type 0} (takes : A → Bool) (xs : List A) (i : ℕ) (x : A) → slice_get xs i ≡ Some x → i < count_before takes xs → takes x ≡ true
taken_before takes [] i x is low = cc
taken_before takes (y ∷ ys) i x is low = go i (takes y) refl (λ j. taken_before takes ys j x) is low
  where
    go : (i : ℕ) (b : Bool) → takes y ≡ b → ((j : ℕ) → slice_get ys j ≡ Some x → j < count_before takes ys → takes x ≡ true) → slice_get (y ∷ ys) i ≡ Some x → i < cond b (count_before takes ys + 1) 0 → takes x ≡ true
    go i false e rest is low = absurd (omega arith)
    go zero true e rest is low = cc
    go (suc i) true e rest is low = rest i is (omega arith)

-- and so is none behind it
pub before_taken : {A : Type 0} (takes : A → Bool) (xs : List A) (i : ℕ) (x : A) → IsPartitionedBy takes xs → slice_get xs i ≡ Some x → takes x ≡ true → i < count_before takes xs
before_taken takes [] i x parted is taken = cc
before_taken takes (y ∷ ys) zero x parted is taken = let e : takes y ≡ true = cc in rw e (omega arith)
before_taken takes (y ∷ ys) (suc i) x parted is taken =
    let within = slice_get_within ys i x is in
    let low = before_taken takes ys i x (λ j k d le lt. parted (suc j) (suc k) d (omega arith) (omega arith)) is taken in
    let first : takes y ≡ true = parted 0 (suc i) x (omega arith) (omega arith) (ap takes (get_or_from_slice_get ys i x x is) ∙ taken) in
    rw first (omega (arith, low))

not_flips : (b c : Bool) → not b ≡ c → b ≡ not c
not_flips true c e = ap not e
not_flips false c e = ap not e

-- an item that isn't taken stands behind the cut
pub behind_untaken : {A : Type 0} (takes : A → Bool) (xs : List A) (i : ℕ) (x : A) → slice_get xs i ≡ Some x → takes x ≡ false → count_before takes xs ≤ i
behind_untaken takes xs i x is untaken = go (cases_lt i (count_before takes xs))
  where
    go : (i < count_before takes xs) ⊎ (count_before takes xs ≤ i) → count_before takes xs ≤ i
    go (inl low) = absurd (true≢false (sym (taken_before takes xs i x is low) ∙ untaken))
    go (inr high) = high

-- a step over an item that is passed comes no further than the cut
pub step_within : {A : Type 0} (forward : Bool) (takes : A → Bool) (xs : List A) (g : ℕ) (x : A) → IsPartitionedBy takes xs → item_from forward xs g ≡ Some x → is_passed forward (takes x) ≡ true → gap_past forward (count_before takes xs) (gap_on forward g) ≡ gap_past forward (count_before takes xs) g
step_within true takes xs g x parted is passed = let low = before_taken takes xs g x parted is passed in omega arith
step_within false takes xs zero x parted is passed = omega arith
step_within false takes xs (suc g) x parted is passed = let high = behind_untaken takes xs g x is (not_flips (takes x) true passed) in omega arith

-- where the item isn't passed, or there is none, one stands at the cut or beyond
pub stays_beyond : {A : Type 0} (forward : Bool) (takes : A → Bool) (xs : List A) (g : ℕ) (x : A) → IsPartitionedBy takes xs → item_from forward xs g ≡ Some x → is_passed forward (takes x) ≡ false → gap_past forward (count_before takes xs) g ≡ g
stays_beyond true takes xs g x parted is passed = let high = behind_untaken takes xs g x is passed in omega arith
stays_beyond false takes xs zero x parted is passed = omega arith
stays_beyond false takes xs (suc g) x parted is passed = let low = before_taken takes xs g x parted is (not_flips (takes x) false passed) in omega arith

pub stays_at_end : {A : Type 0} (forward : Bool) (takes : A → Bool) (xs : List A) (g : ℕ) → g ≤ length xs → item_from forward xs g ≡ None → gap_past forward (count_before takes xs) g ≡ g
stays_at_end true takes xs g within is = let a = cut_within takes xs in let b = past_none xs g is in omega arith
stays_at_end false takes xs zero within is = omega arith
stays_at_end false takes xs (suc g) within is = let b = past_none xs g is in absurd (omega arith)
