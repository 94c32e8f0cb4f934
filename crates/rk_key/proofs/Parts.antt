-- The two parts of a key's bytes, by their places.
use Rattle.std.proofs.Common.{Bool, zero, suc, sym, subst, eqb-true, ◌≡◌, ℕ, ◌+◌, ◌≤◌, List, [], ◌∷◌, ◌++◌, length, take, drop, refl, ap, arith, true, false, cond, Some, None, unwrap_or}
use Rattle.std.specs.List.{position, position_or_len}
use Rattle.std.specs.Prelude.{◌==◌, not, if◌then◌else◌, nat_lt}
use Rattle.std.proofs.lemmas.Bool.Decides.{nat_tests}
use Rattle.std.proofs.lemmas.List.Sums.{prefix_len-le-length}
use Rattle.rk_key.specs.Keys.{prefix, suffix, at_sign}

at_most : (n m : ℕ) → n ≤ m → unwrap_or (cond (nat_lt n m) (Some n) None) m ≡ n
at_most n m h = grind (arith, nat_tests)

pub prefix_length : (bytes : List ℕ) → length (prefix bytes) ≡ position_or_len (λ b. b == at_sign) bytes
prefix_length [] = refl
prefix_length (b ∷ bs) =
    elim (b == at_sign) as (λ here. length (if here then [] else b ∷ prefix bs) ≡ cond (not here) (1 + position_or_len (λ x. x == at_sign) bs) 0)
    [ true ↦ refl | false ↦ omega (arith, prefix_length bs) ]

pub prefix_within : (bytes : List ℕ) → length (prefix bytes) ≤ length bytes
prefix_within bytes = omega (arith, prefix_length bytes, prefix_len-le-length (λ b. not (b == at_sign)) bytes)

pub take_prefix : (bytes : List ℕ) → take (length (prefix bytes)) bytes ≡ prefix bytes
take_prefix [] = refl
take_prefix (b ∷ bs) =
    elim (b == at_sign) as (λ here. take (length (if here then [] else b ∷ prefix bs)) (b ∷ bs) ≡ if here then [] else b ∷ prefix bs)
    [ true ↦ refl | false ↦ ap (λ rest. b ∷ rest) (take_prefix bs) ]

pub drop_prefix : (bytes : List ℕ) → drop (length (prefix bytes)) bytes ≡ suffix bytes
drop_prefix [] = refl
drop_prefix (b ∷ bs) =
    elim (b == at_sign) as (λ here. drop (length (if here then [] else b ∷ prefix bs)) (b ∷ bs) ≡ if here then b ∷ bs else suffix bs)
    [ true ↦ refl | false ↦ drop_prefix bs ]

pub prefix-append-suffix : (bytes : List ℕ) → prefix bytes ++ suffix bytes ≡ bytes
prefix-append-suffix [] = refl
prefix-append-suffix (b ∷ bs) =
    elim (b == at_sign) as (λ here. (if here then [] else b ∷ prefix bs) ++ (if here then b ∷ bs else suffix bs) ≡ b ∷ bs)
    [ true ↦ refl | false ↦ ap (λ rest. b ∷ rest) (prefix-append-suffix bs) ]

-- bytes without `@` before others
pub prefix-append : (xs ys : List ℕ) → prefix xs ≡ xs → prefix (xs ++ ys) ≡ xs ++ prefix ys
prefix-append [] ys h = refl
prefix-append (b ∷ bs) ys h =
    elim (b == at_sign) as (λ here. (if here then [] else b ∷ prefix bs) ≡ b ∷ bs → (if here then [] else b ∷ prefix (bs ++ ys)) ≡ b ∷ (bs ++ prefix ys)) [
      | true ↦ λ e. cc
      | false ↦ λ e. let rest : prefix bs ≡ bs = cc in ap (λ more. b ∷ more) (prefix-append bs ys rest)
    ] h

pub suffix-append : (xs ys : List ℕ) → prefix xs ≡ xs → suffix (xs ++ ys) ≡ suffix ys
suffix-append [] ys h = refl
suffix-append (b ∷ bs) ys h =
    elim (b == at_sign) as (λ here. (if here then [] else b ∷ prefix bs) ≡ b ∷ bs → (if here then b ∷ (bs ++ ys) else suffix (bs ++ ys)) ≡ suffix ys) [
      | true ↦ λ e. cc
      | false ↦ λ e. let rest : prefix bs ≡ bs = cc in suffix-append bs ys rest
    ] h

pub prefix_take : (n : ℕ) (xs : List ℕ) → n ≤ length (prefix xs) → prefix (take n xs) ≡ take n xs
prefix_take zero xs h = refl
prefix_take (suc n) [] h = refl
prefix_take (suc n) (b ∷ bs) h =
    elim (b == at_sign) as (λ here. suc n ≤ length (if here then [] else b ∷ prefix bs) → (if here then [] else b ∷ prefix (take n bs)) ≡ b ∷ take n bs) [
      | true ↦ λ h. absurd (omega arith)
      | false ↦ λ h. ap (λ more. b ∷ more) (prefix_take n bs (omega arith))
    ] h

pub prefix_prefix : (xs : List ℕ) → prefix (prefix xs) ≡ prefix xs
prefix_prefix xs =
    let bounded : length (prefix xs) ≤ length (prefix xs) = omega arith in
    let whole : prefix (take (length (prefix xs)) xs) ≡ take (length (prefix xs)) xs = prefix_take _ xs bounded in
    rw take_prefix at whole

starts_here : (b c : ℕ) (bs cs : List ℕ) (here : Bool) → (b == at_sign) ≡ here
    → (if here then b ∷ bs else suffix bs) ≡ c ∷ cs → (suffix bs ≡ c ∷ cs → c ≡ at_sign) → c ≡ at_sign
starts_here b c bs cs true here e later =
    let first : b ≡ at_sign = eqb-true b at_sign here in
    cc
starts_here b c bs cs false differs e later = later e

-- a suffix that is not empty starts with `@`
pub suffix_starts : (bytes : List ℕ) (c : ℕ) (cs : List ℕ) → suffix bytes ≡ c ∷ cs → c ≡ at_sign
suffix_starts [] c cs e = cc
suffix_starts (b ∷ bs) c cs e = starts_here b c bs cs (b == at_sign) refl e (suffix_starts bs c cs)

starts_whole : (s : List ℕ) → ((c : ℕ) (cs : List ℕ) → s ≡ c ∷ cs → c ≡ at_sign) → suffix s ≡ s
starts_whole [] starts = refl
starts_whole (c ∷ cs) starts = subst (λ b. suffix (b ∷ cs) ≡ b ∷ cs) (sym (starts c cs refl)) refl

pub suffix_suffix : (bytes : List ℕ) → suffix (suffix bytes) ≡ suffix bytes
suffix_suffix bytes = starts_whole (suffix bytes) (suffix_starts bytes)

pub suffix_take : (s : List ℕ) (n : ℕ) (rest : List ℕ) → suffix s ≡ s → 1 ≤ n → n ≤ length s
    → suffix (take n s ++ rest) ≡ take n s ++ rest
suffix_take s zero rest h low high = absurd (omega arith)
suffix_take [] (suc n) rest h low high = absurd (omega arith)
suffix_take (c ∷ cs) (suc n) rest h low high =
    let same : c ≡ at_sign = suffix_starts (c ∷ cs) c cs h in
    subst (λ b. suffix (b ∷ (take n cs ++ rest)) ≡ b ∷ (take n cs ++ rest)) (sym same) refl

-- what is left of a search for the first `@`, with the length where there is none
pub place_or_length : (bytes : List ℕ)
    → unwrap_or (position (λ b. b == at_sign) bytes) (length bytes) ≡ length (prefix bytes)
place_or_length bytes =
    let within : position_or_len (λ b. b == at_sign) bytes ≤ length bytes = prefix_len-le-length _ bytes in
    rw prefix_length (at_most _ _ within)
