-- The item next to a cut of a sorted list.
use Rattle.std.proofs.Common.{◌≡◌, Bool, true, false, not, List, [], ◌∷◌, Option, Some, None, cond, refl, ap, sym, ◌∙◌, inl, inr, Ordering, is_lt}
use Rattle.std.proofs.lemmas.Bool.{cases_Bool}
use Rattle.std.specs.Option.{option_or}
use Rattle.std.specs.Cmp.{IsTotalOrder}
use Rattle.rk_key.proofs.TotalOrders.{lt_itself, lt_back, ge_trans}
use Rattle.rk_model.specs.Sources.{ascends}
use Rattle.rk_merge.specs.Unions.{Among}
use Rattle.rk_merge.specs.Cuts.{first_behind, last_before, near_cut, is_beyond, is_nearer}
use Rattle.rk_merge.proofs.Lists.{ascends_tail, ascends_first}

pub near_is : {A : Type 0} (forward : Bool) (t : A → Bool) (xs : List A) (x : A) → near_cut forward t xs ≡ Some x → (is_beyond forward t x ≡ true) × Among x xs
near_is true t [] x e = cc
near_is {A} true t (y ∷ ys) x e = go (t y) refl e (near_is true t ys x)
  where
    go : (b : Bool) → t y ≡ b → cond b (first_behind t ys) (Some y) ≡ Some x → (first_behind t ys ≡ Some x → (not (t x) ≡ true) × Among x ys) → (not (t x) ≡ true) × Among x (y ∷ ys)
    go true q e ih = ((ih e).0, inr (ih e).1)
    go false q e ih = let h : y ≡ x = cc in (rw (← h, q) refl, inl (sym h))
near_is false t [] x e = cc
near_is {A} false t (y ∷ ys) x e = go (t y) (last_before t ys) refl e (near_is false t ys x)
  where
    go : (b : Bool) (l : Option A) → t y ≡ b → cond b (option_or l (Some y)) None ≡ Some x → (l ≡ Some x → (t x ≡ true) × Among x ys) → (t x ≡ true) × Among x (y ∷ ys)
    go true None q e ih = let h : y ≡ x = cc in (rw (← h, q) refl, inl (sym h))
    go true (Some z) q e ih = ((ih e).0, inr (ih e).1)
    go false l q e ih = cc

pub not_true : (b : Bool) → not b ≡ true → b ≡ false
not_true true e = cc
not_true false e = refl

module _ {A : Type 0} {cmp : A → A → Ordering} (o : IsTotalOrder cmp) where
  -- what takes an item takes all that don't stand behind it
  abbrev pub Falls : (A → Bool) → Type 0
  Falls t = (x y : A) → t x ≡ true → is_lt (cmp x y) ≡ false → t y ≡ true

  first_best : (t : A → Bool) → (xs : List A) → ascends (λ a b. is_lt (cmp a b)) xs ≡ true → (y : A) → Among y xs → t y ≡ false → (e : A) × (first_behind t xs ≡ Some e) × (is_lt (cmp y e) ≡ false)
  first_best t [] up y m h = absurd m
  first_best t (x ∷ xs) up y (inl e) h = rw (ap t (sym e) ∙ h) (x, refl, rw e (lt_itself o x))
  first_best t (x ∷ xs) up y (inr n) h =
      elim (cases_Bool (t x)) [
        | inl q ↦ rw q (first_best t xs (ascends_tail (λ a b. is_lt (cmp a b)) x xs up) y n h)
        | inr q ↦ rw q (x, refl, lt_back o x y (ascends_first o x xs up y n))
      ]

  last_best : (t : A → Bool) → Falls t → (xs : List A) → ascends (λ a b. is_lt (cmp a b)) xs ≡ true → (y : A) → Among y xs → t y ≡ true → (e : A) × (last_before t xs ≡ Some e) × (is_lt (cmp e y) ≡ false)
  last_best t falls [] up y m h = absurd m
  last_best t falls (x ∷ xs) up y m h = go (t x) (last_before t xs) refl (near_is false t xs) m (λ n. last_best t falls xs (ascends_tail (λ a b. is_lt (cmp a b)) x xs up) y n h)
    where
      go : (b : Bool) (l : Option A) → t x ≡ b → ((z : A) → l ≡ Some z → (t z ≡ true) × Among z xs) → Among y (x ∷ xs) → (Among y xs → (e : A) × (l ≡ Some e) × (is_lt (cmp e y) ≡ false)) → (e : A) × (cond b (option_or l (Some x)) None ≡ Some e) × (is_lt (cmp e y) ≡ false)
      go true None q seen (inl e) ih = (x, refl, rw e (lt_itself o x))
      go true (Some z) q seen (inl e) ih = (z, refl, rw e (lt_back o x z (ascends_first o x xs up z (seen z refl).1)))
      go true l q seen (inr m) ih = let found = ih m in (found.0, rw found.1 refl, found.2)
      go false l q seen (inl e) ih = let w : t x ≡ true = ap t (sym e) ∙ h in cc
      go false l q seen (inr m) ih = let w : t x ≡ true = falls y x h (lt_back o x y (ascends_first o x xs up y m)) in cc

  -- an item that is reached from the cut isn't nearer than what is seen there
  pub near_best : (forward : Bool) (t : A → Bool) → Falls t → (xs : List A) → ascends (λ a b. is_lt (cmp a b)) xs ≡ true → (y : A) → Among y xs → is_beyond forward t y ≡ true → (e : A) × (near_cut forward t xs ≡ Some e) × (is_nearer forward (λ a b. is_lt (cmp a b)) y e ≡ false)
  near_best true t falls xs up y m h = first_best t xs up y m (not_true _ h)
  near_best false t falls xs up y m h = last_best t falls xs up y m h

  -- items of a list that ascends, of which neither stands before the other, are one
  tied_same : (xs : List A) → ascends (λ a b. is_lt (cmp a b)) xs ≡ true → (x y : A) → Among x xs → Among y xs → is_lt (cmp x y) ≡ false → is_lt (cmp y x) ≡ false → x ≡ y
  tied_same [] up x y m n p q = absurd m
  tied_same (z ∷ zs) up x y (inl e) (inl f) p q = e ∙ sym f
  tied_same (z ∷ zs) up x y (inl e) (inr n) p q = let w : is_lt (cmp x y) ≡ true = rw e (ascends_first o z zs up y n) in cc
  tied_same (z ∷ zs) up x y (inr m) (inl f) p q = let w : is_lt (cmp y x) ≡ true = rw f (ascends_first o z zs up x m) in cc
  tied_same (z ∷ zs) up x y (inr m) (inr n) p q = tied_same zs (ascends_tail (λ a b. is_lt (cmp a b)) z zs up) x y m n p q

  both_tied : (forward : Bool) (xs : List A) → ascends (λ a b. is_lt (cmp a b)) xs ≡ true → (x y : A) → Among x xs → Among y xs → is_nearer forward (λ a b. is_lt (cmp a b)) x y ≡ false → is_nearer forward (λ a b. is_lt (cmp a b)) y x ≡ false → x ≡ y
  both_tied true xs up x y m n p q = tied_same xs up x y m n p q
  both_tied false xs up x y m n p q = tied_same xs up x y m n q p

  pub not_nearer : (forward : Bool) (x y z : A) → is_nearer forward (λ a b. is_lt (cmp a b)) x y ≡ false → is_nearer forward (λ a b. is_lt (cmp a b)) y z ≡ false → is_nearer forward (λ a b. is_lt (cmp a b)) x z ≡ false
  not_nearer true x y z h k = ge_trans o x y z h k
  not_nearer false x y z h k = ge_trans o z y x k h

  -- what is reached from the cut, and than which nothing that is reached is nearer, is what is seen there
  pub near_from : (forward : Bool) (t : A → Bool) → Falls t → (xs : List A) → ascends (λ a b. is_lt (cmp a b)) xs ≡ true → (p : Option A) → ((x : A) → p ≡ Some x → (is_beyond forward t x ≡ true) × Among x xs)
      → ((y : A) → Among y xs → is_beyond forward t y ≡ true → (x : A) × (p ≡ Some x) × (is_nearer forward (λ a b. is_lt (cmp a b)) y x ≡ false)) → near_cut forward t xs ≡ p
  near_from forward t falls xs up p own most = go p refl (near_cut forward t xs) refl
    where
      go : (q : Option A) → p ≡ q → (n : Option A) → near_cut forward t xs ≡ n → n ≡ q
      go None b None a = refl
      go None b (Some e) a = let is = near_is forward t xs e a in let top = (most e is.1 is.0).1 in cc
      go (Some x) b n a =
          let mine = own x b in
          let best = near_best forward t falls xs up x mine.1 mine.0 in
          let is = near_is forward t xs best.0 best.1 in
          let top = most best.0 is.1 is.0 in
          let same : top.0 ≡ x = cc (top.1) in
          sym a ∙ best.1 ∙ ap Some (both_tied forward xs up best.0 x is.1 mine.1 (ap (is_nearer forward (λ a b. is_lt (cmp a b)) best.0) (sym same) ∙ top.2) best.2)

-- tests that agree on the items of a list cut it at one place
pub first_agree : {A : Type 0} (t u : A → Bool) (xs : List A) → ((x : A) → Among x xs → t x ≡ u x) → first_behind t xs ≡ first_behind u xs
first_agree t u [] same = refl
first_agree t u (x ∷ xs) same = rw (same x (inl refl), first_agree t u xs (λ y m. same y (inr m))) refl

pub last_agree : {A : Type 0} (t u : A → Bool) (xs : List A) → ((x : A) → Among x xs → t x ≡ u x) → last_before t xs ≡ last_before u xs
last_agree t u [] same = refl
last_agree t u (x ∷ xs) same = rw (same x (inl refl), last_agree t u xs (λ y m. same y (inr m))) refl
