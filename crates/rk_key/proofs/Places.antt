-- How far bytes begin a key or a suffix.
use Rattle.std.proofs.Common.{zero, ◌*◌, Bool, true, false, ◌≡◌, ℕ, ◌+◌, ◌-◌, ◌<◌, ◌≤◌, lit≤, lit<, ◌^◌, suc, List, [], ◌∷◌, ◌++◌, length, take, drop, get_or, refl, ap, sym, subst, ◌∙◌, arith, length-append}
use Rattle.std.specs.Prelude.{All, if◌then◌else◌, ◌==◌}
use Rattle.std.proofs.Math.Seq.{take-append-add}
use Rattle.std.proofs.lemmas.List.{append_assoc, append-nil, get_or-take, length-take-le, take_at, take-take, take-append-drop, take_all}
use Rattle.std.proofs.lemmas.List.Elements.{All-nil, All-cons, All-tail, All-take, All-more, All-get_or}
use Rattle.rk_key.specs.Keys.{IsDigit, IsNumber, IsSuffix, IsKey, prefix, suffix, decimal, at_sign}
use Rattle.rk_key.specs.Refusals.{Begins, IsBadAt, IsDecimal}
use Rattle.rk_key.proofs.Decimals.{all_digits, decimal_more, decimal-le-append}
use Rattle.rk_key.proofs.Parts.{prefix_within, prefix_take, prefix-append, prefix_prefix, prefix-append-suffix, suffix-append, suffix_suffix, suffix_take}
use Rattle.rk_key.proofs.Suffixes.{key_from_parts}

module _ (Is : List ℕ → Type 0) where
  pub begins_less : (xs ys : List ℕ) → Begins Is (xs ++ ys) → Begins Is xs
  begins_less xs ys b = (ys ++ b.0, subst Is (append_assoc xs ys b.0) b.1)

  pub begins_whole : (xs : List ℕ) → Is xs → Begins Is xs
  begins_whole xs is = ([], subst Is (sym (append-nil xs)) is)

  -- a shorter beginning of what begins one
  begins_take : (m n : ℕ) (bytes : List ℕ) → m ≤ n → Begins Is (take n bytes) → Begins Is (take m bytes)
  begins_take m n bytes h b =
      let shorter : take m (take n bytes) ≡ take m bytes = take-take m n bytes h in
      let parts : take m (take n bytes) ++ drop m (take n bytes) ≡ take n bytes = take-append-drop m (take n bytes) in
      subst (Begins Is) shorter
      (begins_less (take m (take n bytes)) (drop m (take n bytes)) (subst (Begins Is) (sym parts) b))

  begins_all : (n : ℕ) (bytes : List ℕ) → Is bytes → Begins Is (take n bytes)
  begins_all n bytes is = (drop n bytes, subst Is (sym (take-append-drop n bytes)) is)

  -- one byte more begins none
  pub bad_before : (bytes : List ℕ) (at : ℕ) → at < length bytes → Begins Is (take at bytes)
      → ¬ Begins Is (take (at + 1) bytes) → IsBadAt Is bytes at
  bad_before bytes at h begins stops = record {
    none = λ is. stops (begins_all (at + 1) bytes is);
    place = record {
      within = omega arith;
      begins = begins;
      longest = λ n more within b. stops (begins_take (at + 1) n bytes (omega arith) b);
    };
  }

  -- all the bytes begin one
  pub bad_at_end : (bytes : List ℕ) → Begins Is bytes → ¬ Is bytes → IsBadAt Is bytes (length bytes)
  bad_at_end bytes begins none = record {
    none = none;
    place = record {
      within = omega arith;
      begins = subst (Begins Is) (sym (take_all (length bytes) bytes (omega arith))) begins;
      longest = λ n more within b. omega arith;
    };
  }

-- suffixes

digit_one : IsNumber 49 []
digit_one = record { all_digits = λ k d h. absurd (omega arith); no_zero = (lit≤ tt, lit≤ tt); fits = lit< tt }

begins_at_sign : Begins IsSuffix (at_sign ∷ [])
begins_at_sign = (49 ∷ [], (refl, digit_one))

-- no digit from 1 to 9 after `@`
bad_second : (bs : List ℕ) → (1 ≤ length bs → 49 ≤ get_or bs 0 0 → get_or bs 0 0 ≤ 57 → ⊥)
    → IsBadAt IsSuffix (at_sign ∷ bs) 1
bad_second [] none = bad_at_end IsSuffix (at_sign ∷ []) begins_at_sign (λ suffix. suffix)
bad_second (first ∷ rest) none =
    bad_before IsSuffix (at_sign ∷ first ∷ rest) 1 (omega arith) begins_at_sign
    (λ begun. none (omega arith) begun.1.1.no_zero.0 begun.1.1.no_zero.1)

pub bad_first_digit : (bytes : List ℕ) → 1 ≤ length bytes → get_or bytes 0 0 ≡ at_sign
    → (2 ≤ length bytes → 49 ≤ get_or bytes 1 0 → get_or bytes 1 0 ≤ 57 → ⊥) → IsBadAt IsSuffix bytes 1
bad_first_digit [] some starts none = absurd (omega arith)
bad_first_digit (b ∷ bs) some starts none =
    subst (λ b. IsBadAt IsSuffix (b ∷ bs) 1) (sym starts) (bad_second bs (λ more. none (omega arith)))

decimal_from_number : (first : ℕ) (digits : List ℕ) → IsNumber first digits → IsDecimal (first ∷ digits)
decimal_from_number first digits number =
    record { all_digits = all_digits first digits number; fits = number.fits }

number_from_decimal : (first : ℕ) (digits : List ℕ) → 49 ≤ first → first ≤ 57 → IsDecimal (first ∷ digits)
    → IsNumber first digits
number_from_decimal first digits low high decimal =
    record {
      all_digits = All-tail IsDigit first digits decimal.all_digits;
      no_zero = (low, high);
      fits = decimal.fits;
    }

decimal_front : (xs ys : List ℕ) → IsDecimal (xs ++ ys) → IsDecimal xs
decimal_front xs ys decimal =
    record {
      all_digits = subst (All IsDigit) (take_at xs ys (length xs) refl) (All-take IsDigit (length xs) (xs ++ ys) decimal.all_digits);
      fits = omega (arith, decimal.fits, decimal-le-append xs ys);
    }

-- one more byte that is a digit, and with which the number fits
pub decimal_longer : (bytes : List ℕ) (at : ℕ) → at < length bytes → IsDecimal (take at bytes)
    → IsDigit (get_or bytes at 0) → 10 * decimal (take at bytes) + (get_or bytes at 0 - 48) < 2 ^ 64
    → IsDecimal (take (at + 1) bytes)
decimal_longer bytes at within so_far digit fits =
    record {
      all_digits = All-more IsDigit bytes at 0 within so_far.all_digits digit;
      fits = omega (arith, decimal_more bytes at within, fits);
    }

-- one more byte that is no digit, or with which the number does not fit
pub decimal_stops : (bytes : List ℕ) (at : ℕ) → at < length bytes → IsDecimal (take at bytes)
    → ¬ (IsDigit (get_or bytes at 0) × (10 * decimal (take at bytes) + (get_or bytes at 0 - 48) < 2 ^ 64))
    → IsBadAt IsDecimal bytes at
decimal_stops bytes at within so_far stops =
    bad_before IsDecimal bytes at within (begins_whole IsDecimal (take at bytes) so_far)
    (λ begun. let longer : IsDecimal (take (at + 1) bytes) = decimal_front (take (at + 1) bytes) begun.0 begun.1 in
    let last : get_or (take (at + 1) bytes) at 0 ≡ get_or bytes at 0 = get_or-take (at + 1) bytes at 0 (omega arith) in
    let there : at < length (take (at + 1) bytes) = omega (arith, length-take-le (at + 1) bytes (omega arith)) in
    let digit : IsDigit (get_or bytes at 0) =
    subst IsDigit last (All-get_or IsDigit (take (at + 1) bytes) at 0 there longer.all_digits) in
    stops (digit, omega (arith, decimal_more bytes at within, longer.fits)))

module _ (first : ℕ) (rest : List ℕ) (low : 49 ≤ first) (high : first ≤ 57) where
  first_alone : IsDecimal (first ∷ [])
  first_alone = record {
    all_digits = All-cons IsDigit first [] (omega arith, high) (All-nil IsDigit);
    fits = omega arith;
  }

  number_longest : (at : ℕ) → IsBadAt IsDecimal (first ∷ rest) at
      → (n : ℕ) → suc at < n → n ≤ suc (suc (length rest)) → ¬ Begins IsSuffix (take n (at_sign ∷ first ∷ rest))
  number_longest at bad zero more within begun = omega arith
  number_longest at bad (suc zero) more within begun = omega arith
  number_longest at bad (suc (suc m)) more within begun =
      let digits : IsDecimal (first ∷ (take m rest ++ begun.0)) =
      decimal_from_number first (take m rest ++ begun.0) begun.1.1 in
      bad.place.longest (suc m) (omega arith) (omega arith) (begun.0, digits)

  -- a first digit, and then what is no decimal number that fits
  pub bad_number : (at : ℕ) → IsBadAt IsDecimal (first ∷ rest) at → IsBadAt IsSuffix (at_sign ∷ first ∷ rest) (suc at)
  bad_number zero bad =
      absurd (bad.place.longest 1 (omega arith) (omega arith) (begins_whole IsDecimal (first ∷ []) first_alone))
  bad_number (suc end) bad = record {
    none = λ suffix. bad.none (decimal_from_number first rest suffix.1);
    place = record {
      within = omega (arith, bad.place.within);
      begins =
          let begun : Begins IsDecimal (first ∷ take end rest) = bad.place.begins in
          (begun.0, (refl, number_from_decimal first (take end rest ++ begun.0) low high begun.1));
      longest = number_longest (suc end) bad;
    };
  }

pub bad_later_digit : (bytes : List ℕ) (at : ℕ) → 2 ≤ length bytes → get_or bytes 0 0 ≡ at_sign
    → 49 ≤ get_or bytes 1 0 → get_or bytes 1 0 ≤ 57 → IsBadAt IsDecimal (drop 1 bytes) at
    → IsBadAt IsSuffix bytes (1 + at)
bad_later_digit [] at two starts low high bad = absurd (omega arith)
bad_later_digit (b ∷ []) at two starts low high bad = absurd (omega arith)
bad_later_digit (b ∷ first ∷ rest) at two starts low high bad =
    let next : suc at ≡ 1 + at = omega arith in
    subst (λ b. IsBadAt IsSuffix (b ∷ first ∷ rest) (1 + at)) (sym starts)
    (subst (IsBadAt IsSuffix (at_sign ∷ first ∷ rest)) next (bad_number first rest low high at bad))

pub suffix_from_decimal : (bytes : List ℕ) → 2 ≤ length bytes → get_or bytes 0 0 ≡ at_sign
    → 49 ≤ get_or bytes 1 0 → get_or bytes 1 0 ≤ 57 → IsDecimal (drop 1 bytes) → IsSuffix bytes
suffix_from_decimal [] two starts low high decimal = tt
suffix_from_decimal (b ∷ []) two starts low high decimal = absurd (omega arith)
suffix_from_decimal (b ∷ first ∷ rest) two starts low high decimal =
    (starts, number_from_decimal first rest low high decimal)

-- keys

key_a : IsKey (97 ∷ [])
key_a = record { some = lit≤ tt; few = lit≤ tt; suffix = tt }

still_empty : (b : ℕ) (bs rest : List ℕ) (here : Bool) → length (if here then [] else b ∷ prefix bs) ≡ 0
    → 1 ≤ length (if here then [] else b ∷ prefix rest) → ⊥
still_empty b bs rest true h low = omega arith
still_empty b bs rest false h low = omega arith

-- no byte before the first `@`
pub bad_empty : (bytes : List ℕ) → length (prefix bytes) ≡ 0 → IsBadAt IsKey bytes 0
bad_empty [] h = bad_at_end IsKey [] (97 ∷ [], key_a) (λ key. omega (arith, key.some))
bad_empty (b ∷ bs) h =
    bad_before IsKey (b ∷ bs) 0 (omega arith) (97 ∷ [], key_a)
    (λ begun. still_empty b bs begun.0 (b == at_sign) h begun.1.some)

-- more bytes before the first `@` than a key may have
pub bad_long : (bytes : List ℕ) (limit : ℕ) → limit ≡ 200 → limit < length (prefix bytes) → IsBadAt IsKey bytes limit
bad_long bytes limit is long =
    let within : length (prefix bytes) ≤ length bytes = prefix_within bytes in
    let front : prefix (take limit bytes) ≡ take limit bytes = prefix_take limit bytes (omega arith) in
    let more : prefix (take (limit + 1) bytes) ≡ take (limit + 1) bytes = prefix_take (limit + 1) bytes (omega arith) in
    let size : length (take limit bytes) ≡ limit = length-take-le limit bytes (omega arith) in
    let size' : length (take (limit + 1) bytes) ≡ limit + 1 = length-take-le (limit + 1) bytes (omega arith) in
    bad_before IsKey bytes limit (omega arith)
    ([], key_from_parts (take limit bytes) [] front (omega arith) (omega arith) tt)
    (λ begun. let longer : length (prefix (take (limit + 1) bytes ++ begun.0)) ≡ length (take (limit + 1) bytes) + length (prefix begun.0) =
    ap length (prefix-append (take (limit + 1) bytes) begun.0 more) ∙ length-append (take (limit + 1) bytes) (prefix begun.0) in
    omega (arith, longer, begun.1.few))

-- a prefix that a key may have, and then what is no suffix
module _ (p s : List ℕ) (at : ℕ) (front : prefix p ≡ p) (back : suffix s ≡ s) where
  key_begins : 1 ≤ length p → length p ≤ 200 → Begins IsSuffix (take at s) → Begins IsKey (take (length p + at) (p ++ s))
  key_begins low high begun =
      let key : IsKey (p ++ (take at s ++ begun.0)) = key_from_parts p (take at s ++ begun.0) front low high begun.1 in
      let key' : IsKey ((p ++ take at s) ++ begun.0) = subst IsKey (sym (append_assoc p (take at s) begun.0)) key in
      subst (Begins IsKey) (sym (take-append-add p s at)) (begun.0, key')

  key_longest : IsBadAt IsSuffix s at → (n : ℕ) → length p + at < n → n ≤ length (p ++ s) → ¬ Begins IsKey (take n (p ++ s))
  key_longest bad n more within begun =
      let m : ℕ = n - length p in
      let split : n ≡ length p + m = omega arith in
      let until : take n (p ++ s) ≡ p ++ take m s = ap (λ k. take k (p ++ s)) split ∙ take-append-add p s m in
      let begun' : Begins IsKey (p ++ take m s) = subst (Begins IsKey) until begun in
      let inside : m ≤ length s = omega (arith, length-append p s) in
      let rest : suffix ((p ++ take m s) ++ begun'.0) ≡ take m s ++ begun'.0 =
      ap suffix (append_assoc p (take m s) begun'.0) ∙ suffix-append p (take m s ++ begun'.0) front
      ∙ suffix_take s m begun'.0 back (omega arith) inside in
      bad.place.longest m (omega arith) inside (begun'.0, subst IsSuffix rest begun'.1.suffix)

  bad_after : 1 ≤ length p → length p ≤ 200 → IsBadAt IsSuffix s at → IsBadAt IsKey (p ++ s) (length p + at)
  bad_after low high bad = record {
    none = λ key. bad.none (subst IsSuffix (suffix-append p s front ∙ back) key.suffix);
    place = record {
      within = omega (arith, length-append p s, bad.place.within);
      begins = key_begins low high bad.place.begins;
      longest = key_longest bad;
    };
  }

pub bad_after_prefix : (bytes : List ℕ) (at : ℕ) → 1 ≤ length (prefix bytes) → length (prefix bytes) ≤ 200
    → IsBadAt IsSuffix (suffix bytes) at → IsBadAt IsKey bytes (length (prefix bytes) + at)
bad_after_prefix bytes at low high bad =
    subst (λ whole. IsBadAt IsKey whole (length (prefix bytes) + at)) (prefix-append-suffix bytes)
    (bad_after (prefix bytes) (suffix bytes) at (prefix_prefix bytes) (suffix_suffix bytes) low high bad)
