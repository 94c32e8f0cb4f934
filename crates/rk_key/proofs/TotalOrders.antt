-- What a total order says by its test for less.
use Rattle.std.proofs.Common.{◌≡◌, Bool, true, false, Ordering, refl, sym, ◌∙◌}
use Rattle.std.specs.declared.cmp.Ordering.TheVariants.{Less, Equal, Greater}
use Rattle.std.specs.Ordering.{is_lt, is_eq, is_gt, ordering_reverse}
use Rattle.std.specs.Cmp.{IsTotalOrder}
use Rattle.std.proofs.lemmas.Cmp.{tied_itself, upto}

module _ {K : Type 0} {R : K → K → Ordering} (o : IsTotalOrder R) where
  pub lt_itself : (x : K) → is_lt (R x x) ≡ false
  lt_itself x = rw (tied_itself o x) refl

  pub lt_back : (x y : K) → is_lt (R x y) ≡ true → is_lt (R y x) ≡ false
  lt_back x y h = rw (o.antisymm y x) (go (R x y) h)
    where
      go : (r : Ordering) → is_lt r ≡ true → is_lt (ordering_reverse r) ≡ false
      go Less h = refl
      go Equal h = cc
      go Greater h = cc

  pub less_is : (x y : K) → is_lt (R x y) ≡ true → R x y ≡ Less
  less_is x y h = go (R x y) h
    where
      go : (r : Ordering) → is_lt r ≡ true → r ≡ Less
      go Less h = refl
      go Equal h = cc
      go Greater h = cc

  pub lt_trans : (x y z : K) → is_lt (R x y) ≡ true → is_lt (R y z) ≡ true → is_lt (R x z) ≡ true
  lt_trans x y z h k = rw (o.trans x y z (less_is x y h) (less_is y z k)) refl

  pub gt_is_back : (x y : K) → is_gt (R x y) ≡ is_lt (R y x)
  gt_is_back x y = rw (o.antisymm x y) (go (R y x))
    where
      go : (r : Ordering) → is_gt (ordering_reverse r) ≡ is_lt r
      go Less = refl
      go Equal = refl
      go Greater = refl

  -- not less is transitive
  pub ge_trans : (x y z : K) → is_lt (R x y) ≡ false → is_lt (R y z) ≡ false → is_lt (R x z) ≡ false
  ge_trans x y z h k = sym (gt_is_back z x) ∙ upto o z y x (gt_is_back z y ∙ k) (gt_is_back y x ∙ h)

  pub lt_ge : (x y z : K) → is_lt (R x y) ≡ true → is_lt (R z y) ≡ false → is_lt (R x z) ≡ true
  lt_ge x y z h k = go (is_lt (R x z)) refl
    where
      go : (b : Bool) → is_lt (R x z) ≡ b → b ≡ true
      go true e = refl
      go false e = let f = ge_trans x z y e k in cc

  pub ge_lt : (x y z : K) → is_lt (R y x) ≡ false → is_lt (R y z) ≡ true → is_lt (R x z) ≡ true
  ge_lt x y z h k = go (is_lt (R x z)) refl
    where
      go : (b : Bool) → is_lt (R x z) ≡ b → b ≡ true
      go true e = refl
      go false e = let f = ge_trans y x z h e in cc

  pub eq_from : (x y : K) → is_lt (R x y) ≡ false → is_lt (R y x) ≡ false → R x y ≡ Equal
  eq_from x y h k = go (R x y) h (gt_is_back x y ∙ k)
    where
      go : (r : Ordering) → is_lt r ≡ false → is_gt r ≡ false → r ≡ Equal
      go Less h k = cc
      go Equal h k = refl
      go Greater h k = cc

  pub eq_is : (x y : K) → is_eq (R x y) ≡ true → R x y ≡ Equal
  eq_is x y h = go (R x y) h
    where
      go : (r : Ordering) → is_eq r ≡ true → r ≡ Equal
      go Less h = cc
      go Equal h = refl
      go Greater h = cc

  pub apart : (x y : K) → is_eq (R x y) ≡ false → is_lt (R x y) ≡ false → is_lt (R y x) ≡ true
  apart x y h k = sym (gt_is_back x y) ∙ go (R x y) h k
    where
      go : (r : Ordering) → is_eq r ≡ false → is_lt r ≡ false → is_gt r ≡ true
      go Less h k = cc
      go Equal h k = cc
      go Greater h k = refl
