-- How long keys may be.
use Rattle.std.proofs.Common.{ℕ, ◌≤◌, List, length, ap, length-append, arith}
use Rattle.rk_key.specs.Keys.{IsKey, prefix, suffix}
use Rattle.rk_key.proofs.Suffixes.{length_suffix}
use Rattle.rk_key.proofs.Parts.{prefix-append-suffix}

pub length_key : (key : List ℕ) → IsKey key → length key ≤ 221
length_key key h =
    omega (arith, ap length (prefix-append-suffix key), length-append (prefix key) (suffix key), length_suffix (suffix key) h.suffix, h.few)
