-- Checks all pass, or one that fails comes first.
use Rattle.std.proofs.Common.{◌≡◌, ◌≢◌, ℕ, ◌+◌, ◌-◌, ◌*◌, ◌<◌, ◌≤◌, ◌^◌, ◌⊎◌, zero, suc, List, [], ◌∷◌, length, take, get_or, inl, inr, refl, subst, arith}
use Rattle.std.proofs.lemmas.Bool.{cases_lt, cases_eq}
use Rattle.std.proofs.lemmas.List.{take_all}
use Rattle.std.proofs.lemmas.List.Elements.{All-nil}
use Rattle.std.specs.declared.cmp.Ordering.{Ordering}
use Rattle.std.specs.declared.cmp.Ordering.TheVariants.{Less, Equal, Greater}
use Rattle.rk_key.specs.Keys.{IsDigit, IsKey, IsSuffix, prefix, suffix, decimal, key_cmp, at_sign}
use Rattle.rk_key.specs.Refusals.{IsBadAt, IsDecimal}
use Rattle.rk_key.specs.declared.error.Which.TheVariants as which
use Rattle.rk_key.proofs.Places.{bad_before, bad_first_digit, bad_later_digit, suffix_from_decimal, decimal_longer, decimal_stops, bad_empty, bad_long, bad_after_prefix}
use Rattle.rk_batch.specs.declared.error.BatchError.{BatchError}
use Rattle.rk_batch.specs.declared.error.BatchError.TheVariants.{BadKey, EmptySpan, SuffixInBound, TooLong}
use Rattle.rk_batch.specs.Checks.{Check, Is_key, Is_bare, Is_below, Is_suffix, Is_at_most, Passes, Refuses, AllPass, IsFirst}

-- the bytes are one, or stop to begin one at a place
abbrev IsOrIsBad : (List ℕ → Type 0) → List ℕ → Type 0
IsOrIsBad Is bytes = Is bytes ⊎ ((at : ℕ) × IsBadAt Is bytes at)

-- the byte is a digit, and the number fits with it
abbrev FitsNext : ℕ → ℕ → Type 0
FitsNext b n = IsDigit b × (10 * n + (b - 48) < 2 ^ 64)

fits_or_not : (b n : ℕ) → FitsNext b n ⊎ ¬ FitsNext b n
fits_or_not b n = of (cases_lt b 48) (cases_lt 57 b) (cases_lt (10 * n + (b - 48)) (2 ^ 64)) where
  of : (b < 48) ⊎ (48 ≤ b) → (57 < b) ⊎ (b ≤ 57) → (10 * n + (b - 48) < 2 ^ 64) ⊎ (2 ^ 64 ≤ 10 * n + (b - 48)) → FitsNext b n ⊎ ¬ FitsNext b n
  of (inl low) high fits = inr (λ h. omega (arith, h.0.0))
  of (inr low) (inl high) fits = inr (λ h. omega (arith, h.0.1))
  of (inr low) (inr high) (inl fits) = inl ((low, high), fits)
  of (inr low) (inr high) (inr large) = inr (λ h. omega (arith, h.1))

-- the digits before a place are a number that fits, and so many bytes follow
digits_from : (bytes : List ℕ) (rest at : ℕ) → at + rest ≡ length bytes → IsDecimal (take at bytes) → IsOrIsBad IsDecimal bytes
digits_from bytes zero at whole so_far = inl (subst IsDecimal (take_all at bytes (omega arith)) so_far)
digits_from bytes (suc rest) at whole so_far =
    elim (fits_or_not (get_or bytes at 0) (decimal (take at bytes))) [
      | inl fits ↦ digits_from bytes rest (at + 1) (omega arith) (decimal_longer bytes at (omega arith) so_far fits.0 fits.1)
      | inr stops ↦ inr (at, decimal_stops bytes at (omega arith) so_far stops)
    ]

digits_or_bad : (bytes : List ℕ) → IsOrIsBad IsDecimal bytes
digits_or_bad bytes = digits_from bytes (length bytes) 0 (omega arith) (record { all_digits = All-nil IsDigit; fits = omega arith })

first_is_at : (b : ℕ) (bytes : List ℕ) → IsSuffix (b ∷ bytes) → b ≡ at_sign
first_is_at b [] is = absurd is
first_is_at b (c ∷ bytes) is = is.0

suffix_or_bad : (bytes : List ℕ) → IsOrIsBad IsSuffix bytes
suffix_or_bad [] = inl tt
suffix_or_bad (b ∷ bs) = of (cases_eq b at_sign) bs where
  number : (b first : ℕ) (rest : List ℕ) → b ≡ at_sign → 49 ≤ first → first ≤ 57 → IsOrIsBad IsDecimal (first ∷ rest) → IsOrIsBad IsSuffix (b ∷ first ∷ rest)
  number b first rest is low high (inl digits) = inl (suffix_from_decimal (b ∷ first ∷ rest) (omega arith) is low high digits)
  number b first rest is low high (inr bad) = inr (1 + bad.0, bad_later_digit (b ∷ first ∷ rest) bad.0 (omega arith) is low high bad.1)

  second : (first : ℕ) (rest : List ℕ) → b ≡ at_sign → (first < 49) ⊎ (49 ≤ first) → (57 < first) ⊎ (first ≤ 57) → IsOrIsBad IsSuffix (b ∷ first ∷ rest)
  second first rest is (inl low) high = inr (1, bad_first_digit (b ∷ first ∷ rest) (omega arith) is (λ more at_least at_most. omega arith))
  second first rest is (inr low) (inl high) = inr (1, bad_first_digit (b ∷ first ∷ rest) (omega arith) is (λ more at_least at_most. omega arith))
  second first rest is (inr low) (inr high) = number b first rest is low high (digits_or_bad (first ∷ rest))

  of : (b ≡ at_sign) ⊎ (b ≡ at_sign → ⊥) → (bs : List ℕ) → IsOrIsBad IsSuffix (b ∷ bs)
  of (inl is) [] = inr (1, bad_first_digit (b ∷ []) (omega arith) is (λ more at_least at_most. omega arith))
  of (inl is) (first ∷ rest) = second first rest is (cases_lt first 49) (cases_lt 57 first)
  of (inr other) bs = inr (0, bad_before IsSuffix (b ∷ bs) 0 (omega arith) ([], tt) (λ begun. other (first_is_at b begun.0 begun.1)))

key_or_bad : (bytes : List ℕ) → IsOrIsBad IsKey bytes
key_or_bad bytes = of (cases_lt (length (prefix bytes)) 1) (cases_lt 200 (length (prefix bytes))) (suffix_or_bad (suffix bytes)) where
  of : (length (prefix bytes) < 1) ⊎ (1 ≤ length (prefix bytes)) → (200 < length (prefix bytes)) ⊎ (length (prefix bytes) ≤ 200) → IsOrIsBad IsSuffix (suffix bytes) → IsOrIsBad IsKey bytes
  of (inl none) long back = inr (0, bad_empty bytes (omega arith))
  of (inr some) (inl long) back = inr (200, bad_long bytes 200 refl long)
  of (inr some) (inr few) (inl is) = inl (record { some = some; few = few; suffix = is })
  of (inr some) (inr few) (inr bad) = inr (length (prefix bytes) + bad.0, bad_after_prefix bytes bad.0 some few bad.1)

less_or_not : (o : Ordering) → (o ≡ Less) ⊎ (o ≢ Less)
less_or_not Less = inl refl
less_or_not Equal = inr (λ e. cc)
less_or_not Greater = inr (λ e. cc)

empty_or_not : (xs : List ℕ) → (xs ≡ []) ⊎ (xs ≢ [])
empty_or_not [] = inl refl
empty_or_not (x ∷ xs) = inr (λ e. cc)

passes_or_fails : (check : Check) → Passes check ⊎ ((error : BatchError) × Refuses check error)
passes_or_fails (Is_key which bytes) = elim (key_or_bad bytes) [ inl is ↦ inl is | inr bad ↦ inr (BadKey which bad.0, (bad.0, refl, bad.1)) ]
passes_or_fails (Is_bare which key) = elim (empty_or_not (suffix key)) [ inl is ↦ inl is | inr bad ↦ inr (SuffixInBound which, (refl, bad)) ]
passes_or_fails (Is_below start end) = elim (less_or_not (key_cmp start end)) [ inl is ↦ inl is | inr bad ↦ inr (EmptySpan, (refl, bad)) ]
passes_or_fails (Is_suffix bytes) = elim (suffix_or_bad bytes) [ inl is ↦ inl is | inr bad ↦ inr (BadKey which.Suffix bad.0, (bad.0, refl, bad.1)) ]
passes_or_fails (Is_at_most what have limit) = elim (cases_lt limit have) [ inl more ↦ inr (TooLong what have limit, (refl, more)) | inr is ↦ inl is ]

pub all_or_first : (cs : List Check) → AllPass cs ⊎ ((error : BatchError) × IsFirst cs error)
all_or_first [] = inl tt
all_or_first (c ∷ cs) = of (passes_or_fails c) (all_or_first cs) where
  of : Passes c ⊎ ((error : BatchError) × Refuses c error) → AllPass cs ⊎ ((error : BatchError) × IsFirst cs error)
      → AllPass (c ∷ cs) ⊎ ((error : BatchError) × IsFirst (c ∷ cs) error)
  of (inr fails) rest = inr (fails.0, inl fails.1)
  of (inl passes) (inl all) = inl (passes, all)
  of (inl passes) (inr first) = inr (first.0, inr (passes, first.1))
