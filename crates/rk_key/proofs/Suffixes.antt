-- What follows from a list of bytes being a suffix.
use Rattle.std.proofs.Common.{◌≡◌, ℕ, ◌≤◌, List, [], ◌∷◌, ◌++◌, length, refl, ap, sym, subst, ◌∙◌, arith}
use Rattle.std.proofs.lemmas.List.{append-nil}
use Rattle.rk_key.specs.Keys.{IsKey, IsSuffix, prefix, suffix}
use Rattle.rk_key.proofs.Decimals.{length-number}
use Rattle.rk_key.proofs.Parts.{prefix-append, suffix-append}

-- so that a copy needs no memory
pub length_suffix : (s : List ℕ) → IsSuffix s → length s ≤ 21
length_suffix [] h = omega arith
length_suffix (at ∷ []) h = absurd h
length_suffix (at ∷ first ∷ digits) h = omega (arith, length-number first digits h.1)

pub suffix_parts : (s : List ℕ) → IsSuffix s → (prefix s ≡ []) × (suffix s ≡ s)
suffix_parts [] h = (refl, refl)
suffix_parts (at ∷ []) h = absurd h
suffix_parts (at ∷ first ∷ digits) h =
    subst (λ b. (prefix (b ∷ first ∷ digits) ≡ []) × (suffix (b ∷ first ∷ digits) ≡ b ∷ first ∷ digits)) (sym h.0) (refl, refl)

-- a key from its parts
pub key_from_parts : (p s : List ℕ) → prefix p ≡ p → 1 ≤ length p → length p ≤ 200 → IsSuffix s → IsKey (p ++ s)
key_from_parts p s whole low high is =
    let parts : (prefix s ≡ []) × (suffix s ≡ s) = suffix_parts s is in
    let front : prefix (p ++ s) ≡ p = prefix-append p s whole ∙ ap (λ more. p ++ more) parts.0 ∙ append-nil p in
    let back : suffix (p ++ s) ≡ s = suffix-append p s whole ∙ parts.1 in
    record {
      some = rw front low;
      few = rw front high;
      suffix = subst IsSuffix (sym back) is;
    }
