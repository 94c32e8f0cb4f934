-- The numbers that digits spell: their size, what more digits make of them, and that they tell digits apart.
use Rattle.std.proofs.Common.{suc, ◌≡◌, ℕ, ◌+◌, ◌-◌, ◌*◌, ◌^◌, ◌<◌, ◌≤◌, List, [], ◌∷◌, ◌++◌, length, take, drop, get_or, refl, ap, sym, ◌∙◌, arith, lit≤}
use Rattle.std.specs.Prelude.{All, fold}
use Rattle.std.proofs.lemmas.Grind.{fold-append}
use Rattle.std.proofs.lemmas.List.Elements.{All-cons, All-head, All-tail}
use Rattle.std.proofs.lemmas.List.{take_more, take-append-drop}
use Rattle.std.proofs.Math.Nat.{pow-suc, one-le-pow, pow-le-pow_right, mul-le-mul_left, mul-le-mul_right}
use Rattle.rk_key.specs.Keys.{IsDigit, IsNumber, decimal}

-- the number once more digits follow
abbrev after : ℕ → List ℕ → ℕ
after n digits = fold (λ n digit. 10 * n + (digit - 48)) n digits

shifted : (n digit power : ℕ) → (10 * n + digit) * power ≡ n * (power * 10) + digit * power
shifted n digit power = omega arith

after_is : (n : ℕ) (digits : List ℕ) → after n digits ≡ n * 10 ^ length digits + decimal digits
after_is n [] = omega arith
after_is n (d ∷ ds) =
    let more : after (10 * n + (d - 48)) ds ≡ (10 * n + (d - 48)) * 10 ^ length ds + decimal ds = after_is (10 * n + (d - 48)) ds in
    let alone : after (10 * 0 + (d - 48)) ds ≡ (10 * 0 + (d - 48)) * 10 ^ length ds + decimal ds = after_is (10 * 0 + (d - 48)) ds in
    let power : n * 10 ^ suc (length ds) ≡ n * (10 ^ length ds * 10) = ap (λ p. n * p) (pow-suc 10 (length ds)) in
    omega (arith, more, alone, power, shifted n (d - 48) (10 ^ length ds), shifted 0 (d - 48) (10 ^ length ds))

pub decimal-cons : (d : ℕ) (ds : List ℕ) → decimal (d ∷ ds) ≡ (d - 48) * 10 ^ length ds + decimal ds
decimal-cons d ds =
    let alone : after (10 * 0 + (d - 48)) ds ≡ (10 * 0 + (d - 48)) * 10 ^ length ds + decimal ds = after_is _ ds in
    omega (arith, alone)

pub decimal_push : (ds : List ℕ) (d : ℕ) → decimal (ds ++ d ∷ []) ≡ 10 * decimal ds + (d - 48)
decimal_push ds d = fold-append (λ n digit. 10 * n + (digit - 48)) 0 ds (d ∷ [])

pub decimal_more : (ds : List ℕ) (i : ℕ) → i < length ds
    → decimal (take (i + 1) ds) ≡ 10 * decimal (take i ds) + (get_or ds i 0 - 48)
decimal_more ds i h = ap decimal (take_more ds i 0 h) ∙ decimal_push (take i ds) (get_or ds i 0)

-- more digits make no smaller number
pub decimal-le-append : (ds more : List ℕ) → decimal ds ≤ decimal (ds ++ more)
decimal-le-append ds more =
    let joined : decimal (ds ++ more) ≡ after (decimal ds) more = fold-append (λ n digit. 10 * n + (digit - 48)) 0 ds more in
    let size : 1 ≤ 10 ^ length more = one-le-pow (length more) 10 (lit≤ tt) in
    let product : decimal ds * 1 ≤ decimal ds * 10 ^ length more = mul-le-mul_left (decimal ds) size in
    omega (arith, joined, after_is (decimal ds) more, product)

pub decimal_take-le : (n : ℕ) (ds : List ℕ) → decimal (take n ds) ≤ decimal ds
decimal_take-le n ds =
    let whole : decimal (take n ds ++ drop n ds) ≡ decimal ds = ap decimal (take-append-drop n ds) in
    omega (arith, whole, decimal-le-append (take n ds) (drop n ds))

pub decimal-lt : (ds : List ℕ) → All IsDigit ds → decimal ds < 10 ^ length ds
decimal-lt [] all = omega arith
decimal-lt (d ∷ ds) all =
    let digit : IsDigit d = All-head IsDigit d ds all in
    let rest : decimal ds < 10 ^ length ds = decimal-lt ds (All-tail IsDigit d ds all) in
    let largest : (d - 48) * 10 ^ length ds ≤ 9 * 10 ^ length ds = mul-le-mul_right (10 ^ length ds) (omega arith) in
    omega (arith, decimal-cons d ds, pow-suc 10 (length ds))

same_quotient : (x y p r q : ℕ) → r < p → q < p → x * p + r ≡ y * p + q → x ≡ y
same_quotient x y p r q small small' e =
    let not_less : x < y → ⊥ = λ h. omega (arith, mul-le-mul_right p h) in
    let not_more : y < x → ⊥ = λ h. omega (arith, mul-le-mul_right p h) in
    omega (arith, not_less, not_more)

same_digit : (d e : ℕ) → IsDigit d → IsDigit e → d - 48 ≡ e - 48 → d ≡ e
same_digit d e p q h = omega arith

same_digits : (s t : List ℕ) → All IsDigit s → All IsDigit t → length s ≡ length t → decimal s ≡ decimal t → s ≡ t
same_digits [] [] p q l e = refl
same_digits [] (b ∷ t) p q l e = absurd (omega arith)
same_digits (a ∷ s) [] p q l e = absurd (omega arith)
same_digits (a ∷ s) (b ∷ t) p q l e =
    let lengths : length s ≡ length t = omega arith in
    let powers : 10 ^ length s ≡ 10 ^ length t = ap (λ n. 10 ^ n) lengths in
    let small : decimal s < 10 ^ length s = decimal-lt s (All-tail IsDigit a s p) in
    let small' : decimal t < 10 ^ length s = omega (arith, decimal-lt t (All-tail IsDigit b t q), powers) in
    let numbers : (a - 48) * 10 ^ length s + decimal s ≡ (b - 48) * 10 ^ length s + decimal t =
    sym (decimal-cons a s) ∙ e ∙ decimal-cons b t ∙ ap (λ n. (b - 48) * n + decimal t) (sym powers) in
    let first : a - 48 ≡ b - 48 = same_quotient _ _ _ _ _ small small' numbers in
    let heads : a ≡ b = same_digit a b (All-head IsDigit a s p) (All-head IsDigit b t q) first in
    let rest : decimal s ≡ decimal t = omega (arith, numbers, ap (λ n. n * 10 ^ length s) first) in
    let tails : s ≡ t = same_digits s t (All-tail IsDigit a s p) (All-tail IsDigit b t q) lengths rest in
    cc

-- a first digit that is no zero makes the number as large as its length allows
pub pow-le-decimal : (first : ℕ) (digits : List ℕ) → 49 ≤ first → 10 ^ length digits ≤ decimal (first ∷ digits)
pow-le-decimal first digits no_zero =
    let product : 1 * 10 ^ length digits ≤ (first - 48) * 10 ^ length digits = mul-le-mul_right (10 ^ length digits) (omega arith) in
    omega (arith, product, decimal-cons first digits)

pub length-number : (first : ℕ) (digits : List ℕ) → IsNumber first digits → length digits ≤ 19
length-number first digits number =
    let large : 10 ^ length digits ≤ decimal (first ∷ digits) = pow-le-decimal first digits number.no_zero.0 in
    let longer : 20 ≤ length digits → 10 ^ 20 ≤ 10 ^ length digits = λ h. pow-le-pow_right (lit≤ tt) h in
    let short : 20 ≤ length digits → ⊥ = λ h. omega (arith, large, longer h, number.fits) in
    omega (arith, short)

-- a step of reading digits whose number fits
pub step_fits : (ds : List ℕ) (i : ℕ) → i < length ds → decimal ds < 2 ^ 64
    → 10 * decimal (take i ds) + (get_or ds i 0 - 48) < 2 ^ 64
step_fits ds i h fits = omega (arith, decimal_take-le (i + 1) ds, decimal_more ds i h)

pub all_digits : (first : ℕ) (digits : List ℕ) → IsNumber first digits → All IsDigit (first ∷ digits)
all_digits first digits number =
    let digit : IsDigit first = (omega (arith, number.no_zero.0), number.no_zero.1) in
    All-cons IsDigit first digits digit number.all_digits

-- a number is spelled in one way
pub same_number : (a : ℕ) (s : List ℕ) (b : ℕ) (t : List ℕ) → IsNumber a s → IsNumber b t
    → decimal (a ∷ s) ≡ decimal (b ∷ t) → a ∷ s ≡ b ∷ t
same_number a s b t p q e =
    let small : decimal (a ∷ s) < 10 ^ suc (length s) = decimal-lt (a ∷ s) (all_digits a s p) in
    let small' : decimal (b ∷ t) < 10 ^ suc (length t) = decimal-lt (b ∷ t) (all_digits b t q) in
    let large : 10 ^ length s ≤ decimal (a ∷ s) = pow-le-decimal a s p.no_zero.0 in
    let large' : 10 ^ length t ≤ decimal (b ∷ t) = pow-le-decimal b t q.no_zero.0 in
    let not_shorter : suc (length s) ≤ length t → ⊥ =
    λ h. let power : 10 ^ suc (length s) ≤ 10 ^ length t = pow-le-pow_right (lit≤ tt) h in
    omega (arith, small, large', e) in
    let not_longer : suc (length t) ≤ length s → ⊥ =
    λ h. let power : 10 ^ suc (length t) ≤ 10 ^ length s = pow-le-pow_right (lit≤ tt) h in
    omega (arith, small', large, e) in
    let lengths : length (a ∷ s) ≡ length (b ∷ t) = omega (arith, not_shorter, not_longer) in
    same_digits (a ∷ s) (b ∷ t) (all_digits a s p) (all_digits b t q) lengths e
