-- The order of keys, by its test for less.
use Rattle.std.proofs.Common.{◌≡◌, ℕ, Bool, true, false, List, ap}
use Rattle.std.specs.declared.cmp.Ordering.TheVariants.{Equal}
use Rattle.std.specs.Ordering.{is_lt, is_eq}
use Rattle.std.proofs.lemmas.Cmp.{alike_right}
use Rattle.rk_key.specs.Keys.{key_cmp}
use Rattle.rk_key.specs.Laws.{key_cmp-total}
use Rattle.rk_key.proofs.TotalOrders.{lt_itself as less_itself, lt_trans as less_trans, ge_trans as not_less_trans, apart as part, eq_is as equal_is}

abbrev pub lt : List ℕ → List ℕ → Bool
lt x y = is_lt (key_cmp x y)

pub lt_itself : (x : List ℕ) → lt x x ≡ false
lt_itself = less_itself key_cmp-total

pub lt_trans : (x y z : List ℕ) → lt x y ≡ true → lt y z ≡ true → lt x z ≡ true
lt_trans = less_trans key_cmp-total

-- not less is transitive
pub ge_trans : (x y z : List ℕ) → lt x y ≡ false → lt y z ≡ false → lt x z ≡ false
ge_trans = not_less_trans key_cmp-total

-- neither less nor equal
pub apart : (x y : List ℕ) → lt x y ≡ false → is_eq (key_cmp x y) ≡ false → lt y x ≡ true
apart x y h k = part key_cmp-total x y k h

-- keys that are equal have one order to others
pub alike : (x k b : List ℕ) → key_cmp k b ≡ Equal → lt x k ≡ lt x b
alike x k b e = ap is_lt (alike_right key_cmp-total k b x e)

pub eq_is : (x y : List ℕ) → is_eq (key_cmp x y) ≡ true → key_cmp x y ≡ Equal
eq_is = equal_is key_cmp-total
