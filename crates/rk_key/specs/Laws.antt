-- Suffixes and keys are totally ordered. The laws of the impls of `Ord` cite these.
use Rattle.std.proofs.Common.{◌≡◌, ℕ, List, [], ◌∷◌, refl, Less, Equal}
use Rattle.std.specs.Cmp.{IsTotalOrder}
use Rattle.std.specs.Ordering.{ordering_reverse}
use Rattle.std.proofs.lemmas.Cmp.{nat_cmp_total, back_total, nat_list_cmp_total, then_total, on_total}
use Rattle.rk_key.specs.Keys.{prefix, suffix, decimal, suffix_cmp, key_cmp}

reverses : (x y : List ℕ) → suffix_cmp x y ≡ ordering_reverse (suffix_cmp y x)
reverses [] [] = refl
reverses [] (b ∷ t) = refl
reverses (a ∷ s) [] = refl
reverses (a ∷ s) (b ∷ t) = nat_cmp_total.antisymm (decimal t) (decimal s)

chains : (x y z : List ℕ) → suffix_cmp x y ≡ Less → suffix_cmp y z ≡ Less → suffix_cmp x z ≡ Less
chains [] y [] p q = elim y as (λ y. suffix_cmp [] y ≡ Less → suffix_cmp y [] ≡ Less → Equal ≡ Less) [ [] ↦ λ p q. p | b ∷ t ↦ λ p q. cc ] p q
chains [] y (c ∷ u) p q = refl
chains (a ∷ s) [] z p q = cc
chains (a ∷ s) (b ∷ t) [] p q = cc
chains (a ∷ s) (b ∷ t) (c ∷ u) p q = nat_cmp_total.trans (decimal u) (decimal t) (decimal s) q p

ties : (x y z : List ℕ) → suffix_cmp x y ≡ Equal → suffix_cmp x z ≡ suffix_cmp y z
ties [] [] z p = refl
ties [] (b ∷ t) z p = cc
ties (a ∷ s) [] z p = cc
ties (a ∷ s) (b ∷ t) [] p = refl
ties (a ∷ s) (b ∷ t) (c ∷ u) p = (back_total nat_cmp_total).congr (decimal s) (decimal t) (decimal u) p

pub suffix_cmp-total : IsTotalOrder suffix_cmp
suffix_cmp-total = record { antisymm = reverses; trans = chains; congr = ties }

pub key_cmp-total : IsTotalOrder key_cmp
key_cmp-total = then_total (on_total prefix nat_list_cmp_total) (on_total suffix suffix_cmp-total)
