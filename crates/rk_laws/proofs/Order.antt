-- The order of keys and of suffixes.
use Rattle.std.proofs.Common.{◌≡◌, ℕ, Bool, true, false, cond, List, [], ◌∷◌, Ordering, refl, ap, sym, ◌∙◌, eqb}
use Rattle.std.specs.declared.cmp.Ordering.TheVariants.{Less, Equal, Greater}
use Rattle.std.specs.Ordering.{nat_cmp, is_lt, ordering_then}
use Rattle.std.specs.Cmp.Lexicographic.{slice_cmp}
use Rattle.rk_key.specs.Keys.{prefix, suffix, suffix_cmp, key_cmp, at_sign}
pub use Rattle.rk_key.specs.Laws.{suffix_cmp-total as suffix_total, key_cmp-total as key_total}
pub use Rattle.rk_key.proofs.TotalOrders.{lt_itself, lt_back, less_is, lt_trans, gt_is_back, ge_trans, lt_ge, ge_lt, eq_from, eq_is, apart}

pub prefix_of_prefix : (x : List ℕ) → prefix (prefix x) ≡ prefix x
prefix_of_prefix [] = refl
prefix_of_prefix (b ∷ bs) = go (eqb b at_sign) refl (prefix_of_prefix bs)
  where
    go : (t : Bool) → eqb b at_sign ≡ t → prefix (prefix bs) ≡ prefix bs → prefix (cond t [] (b ∷ prefix bs)) ≡ cond t [] (b ∷ prefix bs)
    go true e ih = refl
    go false e ih = rw e (ap (λ t. b ∷ t) ih)

pub suffix_of_prefix : (x : List ℕ) → suffix (prefix x) ≡ []
suffix_of_prefix [] = refl
suffix_of_prefix (b ∷ bs) = go (eqb b at_sign) refl (suffix_of_prefix bs)
  where
    go : (t : Bool) → eqb b at_sign ≡ t → suffix (prefix bs) ≡ [] → suffix (cond t [] (b ∷ prefix bs)) ≡ []
    go true e ih = refl
    go false e ih = rw e ih

-- a key without a suffix is compared by prefixes alone
pub lt_plain : (x k : List ℕ) → suffix k ≡ [] → is_lt (key_cmp x k) ≡ is_lt (slice_cmp nat_cmp (prefix x) (prefix k))
lt_plain x k h = rw h (go (slice_cmp nat_cmp (prefix x) (prefix k)) (suffix x))
  where
    go : (o : Ordering) (s : List ℕ) → is_lt (ordering_then o (suffix_cmp s [])) ≡ is_lt o
    go Less s = refl
    go Equal [] = refl
    go Equal (a ∷ s) = refl
    go Greater s = refl

pub lt_plain_prefix : (x k : List ℕ) → suffix k ≡ [] → is_lt (key_cmp x k) ≡ is_lt (key_cmp (prefix x) k)
lt_plain_prefix x k h = lt_plain x k h ∙ sym (lt_plain (prefix x) k h ∙ ap (λ p. is_lt (slice_cmp nat_cmp p (prefix k))) (prefix_of_prefix x))
