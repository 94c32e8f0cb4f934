-- Groups of batches, which are the payloads of a log: their bytes, and which bytes are one.
use Rattle.std.specs.Prelude.{◌≡◌, ℕ, zero, suc, ◌+◌, ◌<◌, ◌≤◌, ◌^◌, nat_lt, Option, Some, List, [], ◌∷◌, ◌++◌, length, flat_map, All}
use Rattle.byteorder.specs.Endian.{big_bytes}
use Rattle.rk_pieces.specs.Pieces.{◌>>=◌, cut, big_at, whole, tested}
use Rattle.rk_model.specs.Operations.{operations}
use Rattle.rk_model.specs.declared.op.Op.{Op}
use Rattle.rk_batch.specs.Encoding.{batch_bytes}
use Rattle.rk_batch.specs.Grammar.{IsBatch}
use Rattle.rk_log.specs.Batches.{batch_of}

-- Batches that were written together, and the number of their first operation
pub record GroupSeen : Type 0 where
  pub first : ℕ
  pub batches : List (List Op)

-- a batch behind its length
abbrev pub framed : List Op → List ℕ
framed ops = big_bytes 4 (length (batch_bytes ops)) ++ batch_bytes ops

-- the number, the count of the batches, and the batches
abbrev pub group_bytes : GroupSeen → List ℕ
group_bytes g = big_bytes 8 g.first ++ big_bytes 4 (length g.batches) ++ flat_map framed g.batches

-- the payload is that of the group
pub record IsGroupOf (payload : List ℕ) (g : GroupSeen) : Type 0 where
  pub first : g.first < 2 ^ 64
  pub some : 1 ≤ length g.batches
  pub few : length g.batches < 2 ^ 32
  pub each : All IsBatch g.batches
  pub spelled : payload ≡ group_bytes g

-- a batch behind its length, and the bytes after it
unfoldable pub framed_at : List ℕ → Option (List Op × List ℕ)
framed_at bytes = do
  n ← big_at 4 bytes
  piece ← cut n.0 n.1
  ops ← batch_of piece.0
  Some (ops, piece.1)

-- so many of them
unfoldable pub batches_at : ℕ → List ℕ → Option (List (List Op) × List ℕ)
batches_at zero bytes = Some ([], bytes)
batches_at (suc n) bytes = do
  batch ← framed_at bytes
  more ← batches_at n batch.1
  Some (batch.0 ∷ more.0, more.1)

-- the group that a payload spells
unfoldable pub group_of : List ℕ → Option GroupSeen
group_of bytes = do
  first ← big_at 8 bytes
  count ← big_at 4 first.1
  some ← tested (nat_lt 0) count.0
  batches ← batches_at some count.1
  all ← whole batches
  Some (record { first = first.0; batches = all })

-- the number behind that of its last operation
abbrev pub group_end : GroupSeen → ℕ
group_end g = g.first + length (operations g.batches)
