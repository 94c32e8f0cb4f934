-- The tests of keys and suffixes answer as what they test.
use Rattle.std.proofs.Common.{◌≡◌, true, ℕ, ◌^◌, ◌≤◌, leb, List, [], ◌∷◌, length, All, Decides, refl, arith}
use Rattle.std.specs.List.{list_all}
use Rattle.std.proofs.lemmas.Bool.{false≢true}
use Rattle.std.proofs.lemmas.Bool.Decides.{nat_tests, Decides-and, Decides-eqb, Decides-ltb, Decides-like, Decides-by_and}
use Rattle.rk_key.specs.Keys.{at_sign, prefix, suffix, decimal, IsDigit, IsSuffix, IsKey}
use Rattle.rk_key.specs.KeyTests.{is_digit, is_suffix, is_key}

Decides-leb : (a b : ℕ) → Decides (leb a b) (a ≤ b)
Decides-leb a b = (λ h. grind (arith, nat_tests), λ h. grind (arith, nat_tests))

is_digit-Decides : (b : ℕ) → Decides (is_digit b) (IsDigit b)
is_digit-Decides b = Decides-and _ _ (Decides-leb 48 b) (Decides-leb b 57)

digits-Decides : (digits : List ℕ) → Decides (list_all is_digit digits) (All IsDigit digits)
digits-Decides = Decides-by_and is_digit IsDigit (list_all is_digit) is_digit-Decides refl (λ _ _. refl)

pub is_suffix-Decides : (bytes : List ℕ) → Decides (is_suffix bytes) (IsSuffix bytes)
is_suffix-Decides [] = (λ _. tt, λ _. refl)
is_suffix-Decides (at ∷ []) = (λ e. absurd (false≢true e), λ h. absurd h)
is_suffix-Decides (at ∷ first ∷ digits) =
    Decides-like _ (λ h. (h.0.0.0.0, record { all_digits = h.0.1; no_zero = (omega arith, h.0.0.0.1.1); fits = h.1 }))
    (λ h. ((((h.0, (omega arith, h.1.no_zero.1)), omega arith), h.1.all_digits), h.1.fits))
    (Decides-and _ _ (Decides-and _ _ (Decides-and _ _ (Decides-and _ _ (Decides-eqb at at_sign) (is_digit-Decides first)) (Decides-ltb 48 first)) (digits-Decides digits)) (Decides-ltb (decimal (first ∷ digits)) (2 ^ 64)))

pub is_key-Decides : (bytes : List ℕ) → Decides (is_key bytes) (IsKey bytes)
is_key-Decides bytes =
    Decides-like _ (λ h. record { some = h.0.0; few = h.0.1; suffix = h.1 }) (λ h. ((h.some, h.few), h.suffix))
    (Decides-and _ _ (Decides-and _ _ (Decides-leb 1 (length (prefix bytes))) (Decides-leb (length (prefix bytes)) 200)) (is_suffix-Decides (suffix bytes)))

-- keys by their test
pub key_by_test : (bytes : List ℕ) → is_key bytes ≡ true → IsKey bytes
key_by_test bytes e = (is_key-Decides bytes).0 e

pub key_tested : (bytes : List ℕ) → IsKey bytes → is_key bytes ≡ true
key_tested bytes k = (is_key-Decides bytes).1 k
