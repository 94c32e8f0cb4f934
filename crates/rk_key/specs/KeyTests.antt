-- Tests of the form of a key that compute. They answer as `IsSuffix` and `IsKey` do.
use Rattle.std.specs.Prelude.{ℕ, ◌==◌, ◌^◌, nat_le, nat_lt, Bool, true, false, ◌&&◌, List, [], ◌∷◌, length}
use Rattle.std.specs.List.{list_all}
use Rattle.rk_key.specs.Keys.{at_sign, prefix, suffix, decimal}

abbrev pub is_digit : ℕ → Bool
is_digit b = nat_le 48 b && nat_le b 57

-- empty, or '@' and a number from 1 to 2^64 - 1 without a leading zero
abbrev pub is_suffix : List ℕ → Bool
is_suffix [] = true
is_suffix (at ∷ []) = false
is_suffix (at ∷ first ∷ digits) =
    (at == at_sign) && is_digit first && nat_lt 48 first && list_all is_digit digits && nat_lt (decimal (first ∷ digits)) (2 ^ 64)

abbrev pub is_key : List ℕ → Bool
is_key bytes = nat_le 1 (length (prefix bytes)) && nat_le (length (prefix bytes)) 200 && is_suffix (suffix bytes)
