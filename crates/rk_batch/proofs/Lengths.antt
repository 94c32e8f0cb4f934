-- How long keys and suffixes may be.
use Rattle.std.proofs.Common.{ℕ, ◌≤◌, List, length, ap, length-append, arith}
use Rattle.rk_key.specs.Keys.{IsKey, IsSuffix, prefix, suffix}
use Rattle.rk_key.proofs.Suffixes.{length_suffix as length_is_suffix}
use Rattle.rk_key.proofs.Parts.{prefix-append-suffix}

pub length_suffix : (s : List ℕ) → IsSuffix s → length s ≤ 21
length_suffix s h = length_is_suffix s h

pub length_key : (key : List ℕ) → IsKey key → length key ≤ 221
length_key key h =
    omega (arith, ap length (prefix-append-suffix key), length-append (prefix key) (suffix key), length_is_suffix (suffix key) h.suffix, h.few)
