-- Batches read from bytes, by tests that compute. They answer as `IsBatchOf` does: that law is `one_spelling`.
use Rattle.std.specs.Prelude.{ℕ, zero, suc, nat_le, Bool, ◌&&◌, Option, Some, List, [], ◌∷◌, length}
use Rattle.std.specs.Ordering.{is_lt}
use Rattle.rk_key.specs.Keys.{suffix, key_cmp}
use Rattle.rk_key.specs.KeyTests.{is_key, is_suffix}
use Rattle.rk_model.specs.declared.op.Op.{Op}
use Rattle.rk_model.specs.declared.op.Op.TheVariants.{Put, Del, RangeSet, RangeUnset, RangeDel}
use Rattle.rk_batch.specs.Reading.{op_at, head_at}
use Rattle.rk_pieces.specs.Pieces.{◌>>=◌, whole, tested, is_empty}

-- a key without a suffix
abbrev pub is_bare : List ℕ → Bool
is_bare key = is_key key && is_empty (suffix key)

-- two of them, the start below the end
abbrev pub is_span : List ℕ → List ℕ → Bool
is_span start end = is_bare start && is_bare end && is_lt (key_cmp start end)

abbrev pub is_value : List ℕ → Bool
is_value value = nat_le (length value) 32768

-- an operation that a batch can hold
abbrev pub is_op : Op → Bool
is_op (Put key value) = is_key key && is_value value
is_op (Del key) = is_key key
is_op (RangeSet start end suffix value) = is_span start end && is_suffix suffix && is_value value
is_op (RangeUnset start end suffix) = is_span start end && is_suffix suffix
is_op (RangeDel start end) = is_span start end

-- so many operations, and the bytes after them
unfoldable pub ops_at : ℕ → List ℕ → Option (List Op × List ℕ)
ops_at zero bytes = Some ([], bytes)
ops_at (suc n) bytes = do
  op ← op_at bytes
  first ← tested is_op op.0
  more ← ops_at n op.1
  Some (first ∷ more.0, more.1)

-- the operations of a batch that the bytes spell, all of the bytes
unfoldable pub batch_of : List ℕ → Option (List Op)
batch_of bytes = do
  head ← head_at bytes
  short ← tested (λ bytes. nat_le (length bytes) 1048576) bytes
  ops ← ops_at head.0 head.1
  whole ops
