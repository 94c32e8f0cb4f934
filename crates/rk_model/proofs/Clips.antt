-- Parts of a list: what stands at their places, and before cuts.
use Prim.Native.Nat.{zero, suc}
use Rattle.std.proofs.Common.{◌≡◌, ℕ, ◌+◌, ◌-◌, ◌<◌, ◌≤◌, min, Bool, true, false, cond, List, [], ◌∷◌, length, take, drop, Some, None, refl, ap, ◌∙◌, arith}
use Rattle.std.specs.List.{slice_get}
use Rattle.std.specs.List.Sorted.{IsPartitionedBy}
use Rattle.rk_model.specs.Cuts.{count_before}
use Rattle.rk_model.proofs.Gaps.{before_taken}

-- what takes more takes no fewer of the first items
pub count_rises : {A : Type 0} (s t : A → Bool) (xs : List A) → ((x : A) → s x ≡ true → t x ≡ true) → count_before s xs ≤ count_before t xs
count_rises s t [] more = omega arith
count_rises s t (x ∷ xs) more = go (s x) refl (count_rises s t xs more)
  where
    go : (b : Bool) → s x ≡ b → count_before s xs ≤ count_before t xs → cond b (count_before s xs + 1) 0 ≤ count_before t (x ∷ xs)
    go true e ih = rw (more x e) (omega (arith, ih))
    go false e ih = omega arith

pub count_none : {A : Type 0} (t : A → Bool) (xs : List A) → ((x : A) → t x ≡ false) → count_before t xs ≡ 0
count_none t [] none = refl
count_none t (x ∷ xs) none = rw (none x) refl

pub count_all : {A : Type 0} (t : A → Bool) (xs : List A) → ((x : A) → t x ≡ true) → count_before t xs ≡ length xs
count_all t [] all = refl
count_all t (x ∷ xs) all = rw (all x) (omega (arith, count_all t xs all))

pub count_take : {A : Type 0} (t : A → Bool) (n : ℕ) (xs : List A) → count_before t (take n xs) ≡ min (count_before t xs) n
count_take t zero xs = omega arith
count_take t (suc n) [] = omega arith
count_take t (suc n) (x ∷ xs) = go (t x) (count_take t n xs)
  where
    go : (b : Bool) → count_before t (take n xs) ≡ min (count_before t xs) n → cond b (count_before t (take n xs) + 1) 0 ≡ min (cond b (count_before t xs + 1) 0) (suc n)
    go true ih = omega (arith, ih)
    go false ih = omega arith

-- the items behind the first of a list whose first items are taken
later_parted : {A : Type 0} (t : A → Bool) (x : A) (xs : List A) → IsPartitionedBy t (x ∷ xs) → IsPartitionedBy t xs
later_parted t x xs parted = λ i j d low within taken. parted (suc i) (suc j) d (omega arith) (omega arith) taken

-- where the first item isn't taken, none is
none_taken : {A : Type 0} (t : A → Bool) (x : A) (xs : List A) (i : ℕ) (y : A) → IsPartitionedBy t (x ∷ xs) → t x ≡ false → slice_get xs i ≡ Some y → t y ≡ false
none_taken t x xs i y parted untaken is = go (t y) refl
  where
    first : count_before t (x ∷ xs) ≡ 0
    first = rw untaken refl

    go : (b : Bool) → t y ≡ b → b ≡ false
    go true e = absurd (omega (arith, before_taken t (x ∷ xs) (suc i) y parted is e, first))
    go false e = refl

none_later : {A : Type 0} (t : A → Bool) (n : ℕ) (xs : List A) → ((i : ℕ) (y : A) → slice_get xs i ≡ Some y → t y ≡ false) → count_before t (drop n xs) ≡ 0
none_later t zero [] none = refl
none_later t zero (y ∷ ys) none = rw (none 0 y refl) refl
none_later t (suc n) [] none = refl
none_later t (suc n) (y ∷ ys) none = none_later t n ys (λ i z is. none (suc i) z is)

pub count_drop : {A : Type 0} (t : A → Bool) (n : ℕ) (xs : List A) → IsPartitionedBy t xs → count_before t (drop n xs) ≡ count_before t xs - n
count_drop t zero xs parted = omega arith
count_drop t (suc n) [] parted = omega arith
count_drop t (suc n) (x ∷ xs) parted = go (t x) refl (count_drop t n xs (later_parted t x xs parted))
  where
    go : (b : Bool) → t x ≡ b → count_before t (drop n xs) ≡ count_before t xs - n → count_before t (drop n xs) ≡ cond b (count_before t xs + 1) 0 - suc n
    go true e ih = omega (arith, ih)
    go false e ih = let none = none_later t n xs (λ i y is. none_taken t x xs i y parted e is) in omega (arith, none)

pub get_drop : {A : Type 0} (n i : ℕ) (xs : List A) → slice_get (drop n xs) i ≡ slice_get xs (n + i)
get_drop zero i xs = let e : i ≡ 0 + i = omega arith in ap (slice_get xs) e
get_drop (suc n) i [] = refl
get_drop (suc n) i (x ∷ xs) = let e : suc (n + i) ≡ suc n + i = omega arith in get_drop n i xs ∙ ap (slice_get (x ∷ xs)) e

pub get_take : {A : Type 0} (n i : ℕ) (xs : List A) → i < n → slice_get (take n xs) i ≡ slice_get xs i
get_take zero i xs low = absurd (omega (arith, low))
get_take (suc n) i [] low = refl
get_take (suc n) zero (x ∷ xs) low = refl
get_take (suc n) (suc i) (x ∷ xs) low = get_take n i xs (omega (arith, low))

pub none_beyond : {A : Type 0} (n i : ℕ) (xs : List A) → n ≤ i → slice_get (take n xs) i ≡ None
none_beyond zero i xs high = refl
none_beyond (suc n) i [] high = refl
none_beyond (suc n) zero (x ∷ xs) high = absurd (omega (arith, high))
none_beyond (suc n) (suc i) (x ∷ xs) high = none_beyond n i xs (omega (arith, high))
