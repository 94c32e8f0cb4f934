-- Items of lists, and lists that ascend.
use Rattle.std.proofs.Common.{◌≡◌, ◌≢◌, ℕ, zero, suc, ◌+◌, ◌<◌, ◌≤◌, length, get_or, set, Bool, true, false, List, [], ◌∷◌, refl, ap, ◌∙◌, inl, inr, arith, Ordering, filter, cond, get_or-set_same, get_or-set_other, is_lt}
pub use Rattle.std.proofs.lemmas.Bool.{and_parts, and_from as and_true}
use Rattle.std.proofs.lemmas.Bool.{cases_eq}
pub use Rattle.std.proofs.lemmas.List.{get_or_default as any_default}
use Rattle.std.specs.List.{list_all}
use Rattle.std.specs.Cmp.{IsTotalOrder}
use Rattle.rk_key.proofs.TotalOrders.{lt_trans}
pub use Rattle.rk_model.specs.Searches.{tail_ascends as ascends_tail}
use Rattle.rk_model.specs.Sources.{ascends}
use Rattle.rk_merge.specs.Unions.{Among}
use Rattle.rk_model.proofs.Members.{filter_among, every_gives, every_from}

pub at_among : {A : Type 0} (xs : List A) (k : ℕ) (d : A) → k < length xs → Among (get_or xs k d) xs
at_among [] k d h = absurd (omega arith)
at_among (x ∷ xs) zero d h = inl refl
at_among (x ∷ xs) (suc k) d h = inr (at_among xs k d (omega arith))

module _ {A : Type 0} {cmp : A → A → Ordering} (o : IsTotalOrder cmp) where
  -- the first item stands before the others
  pub ascends_first : (x : A) (ys : List A) → ascends (λ a b. is_lt (cmp a b)) (x ∷ ys) ≡ true → (z : A) → Among z ys → is_lt (cmp x z) ≡ true
  ascends_first x [] up z m = absurd m
  ascends_first x (y ∷ ys) up z (inl e) = ap (λ a. is_lt (cmp x a)) e ∙ (and_parts (is_lt (cmp x y)) _ up).0
  ascends_first x (y ∷ ys) up z (inr m) =
      let parts = and_parts (is_lt (cmp x y)) _ up in
      lt_trans o x y z parts.0 (ascends_first y ys parts.1 z m)

  -- an item before all others of a list that ascends
  pub ascends_cons : (x : A) (ys : List A) → ascends (λ a b. is_lt (cmp a b)) ys ≡ true → ((z : A) → Among z ys → is_lt (cmp x z) ≡ true) → ascends (λ a b. is_lt (cmp a b)) (x ∷ ys) ≡ true
  ascends_cons x [] up first = refl
  ascends_cons x (y ∷ ys) up first = and_true (is_lt (cmp x y)) _ (first y (inl refl)) up

-- the items that a test takes
pub all_filter : {A : Type 0} (p t : A → Bool) (xs : List A) → list_all p xs ≡ true → list_all p (filter t xs) ≡ true
all_filter p t xs all = every_from p (filter t xs) (λ z m. every_gives p xs z all (filter_among t xs z m).0)

pub filter_ascends : {A : Type 0} {cmp : A → A → Ordering} (o : IsTotalOrder cmp) (t : A → Bool) (xs : List A) → ascends (λ a b. is_lt (cmp a b)) xs ≡ true → ascends (λ a b. is_lt (cmp a b)) (filter t xs) ≡ true
filter_ascends o t [] up = refl
filter_ascends {A} {cmp} o t (x ∷ xs) up = go (t x) (filter_ascends o t xs (ascends_tail (λ a b. is_lt (cmp a b)) x xs up))
  where
    go : (b : Bool) → ascends (λ a b. is_lt (cmp a b)) (filter t xs) ≡ true → ascends (λ a b. is_lt (cmp a b)) (cond b (x ∷ filter t xs) (filter t xs)) ≡ true
    go true ih = ascends_cons o x (filter t xs) ih (λ z m. ascends_first o x xs up z (filter_among t xs z m).0)
    go false ih = ih

-- one more of the items of a list has been replaced as it should
pub done_more : {S : Type 0} (P : S → S → Type 0) (olds nows : List S) (i : ℕ) (v e : S) → i < length nows → ((k : ℕ) (d : S) → k < i → P (get_or olds k d) (get_or nows k d)) → ((k : ℕ) (d : S) → i ≤ k → get_or nows k d ≡ get_or olds k d) → P (get_or nows i e) v
    → (k : ℕ) (d : S) → k < i + 1 → P (get_or olds k d) (get_or (set nows i v) k d)
done_more P olds nows i v e within done left here k d h =
    elim (cases_eq k i) [
      | inl q ↦ rw (q, get_or-set_same nows i v d within, ← left i d (omega arith), any_default nows i d e within) here
      | inr q ↦ rw (get_or-set_other nows i k v d q) (done k d (omega arith))
    ]

pub left_more : {S : Type 0} (olds nows : List S) (i : ℕ) (v : S) → ((k : ℕ) (d : S) → i ≤ k → get_or nows k d ≡ get_or olds k d) → (k : ℕ) (d : S) → i + 1 ≤ k → get_or (set nows i v) k d ≡ get_or olds k d
left_more olds nows i v left k d h = let q : k ≢ i = omega arith in get_or-set_other nows i k v d q ∙ left k d (omega arith)

-- some item of a list that has one
pub pick : {S : Type 0} (ss : List S) (k : ℕ) → k < length ss → S
pick [] k h = absurd (omega arith)
pick (s ∷ ss) k h = s
