-- The test of equal bytes, by its parts.
use Rattle.std.proofs.Common.{◌≡◌, ℕ, ◌&&◌, eqb, nat_eq, List, ◌∷◌, Decides, refl, arith}
use Rattle.std.specs.Cmp.Lexicographic.{pointwise}
use Rattle.std.proofs.lemmas.Bool.Decides.{nat_tests, same_from_decides}
use Rattle.std.proofs.lemmas.Slice.Eq.{compares_Decides, bytes_eq-Decides}
use Rattle.rk_model.specs.Spans.{same_bytes}

same_heads : (x y : ℕ) (xs ys : List ℕ) → same_bytes (x ∷ xs) (y ∷ ys) ≡ (eqb x y && same_bytes xs ys)
same_heads x y xs ys = grind (arith, nat_tests)

pub same_bytes-Decides : (xs ys : List ℕ) → Decides (same_bytes xs ys) (xs ≡ ys)
same_bytes-Decides =
    compares_Decides same_bytes (record { empty = refl; shorter = λ _ _. refl; longer = λ _ _. refl; heads = same_heads })

pub same_bytes_is : (xs ys : List ℕ) → pointwise nat_eq xs ys ≡ same_bytes xs ys
same_bytes_is xs ys = same_from_decides _ _ (bytes_eq-Decides xs ys) (same_bytes-Decides xs ys)
