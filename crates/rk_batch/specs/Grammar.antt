-- Which bytes are a batch, and where other bytes stop to be one.
use Rattle.std.specs.Prelude.{◌≡◌, ◌≢◌, ℕ, ◌<◌, ◌≤◌, List, [], ◌∷◌, ◌++◌, length, flat_map, ◌⊎◌}
use Rattle.std.specs.List.{All}
use Rattle.rk_model.specs.declared.op.Op.{Op}
use Rattle.rk_batch.specs.declared.error.BatchError.{BatchError}
use Rattle.rk_batch.specs.declared.error.BatchError.TheVariants.{Memory, BadBatch}
use Rattle.rk_batch.specs.Encoding.{op_bytes, head, batch_bytes}
use Rattle.rk_batch.specs.Checks.{IsOp}

-- operations that are as they must be, at least one, within the limits
pub record IsBatch (ops : List Op) : Type 0 where
  pub each : All IsOp ops
  pub some : 1 ≤ length ops
  pub few : length ops ≤ 1000
  pub short : length (batch_bytes ops) ≤ 1048576

-- the bytes are the batch of these operations
pub record IsBatchOf (bytes : List ℕ) (ops : List Op) : Type 0 where
  pub batch : IsBatch ops
  pub spelled : bytes ≡ batch_bytes ops

-- the bytes begin with a head that counts at least one operation and not too many
pub record HasHead (bytes : List ℕ) (count : ℕ) (rest : List ℕ) : Type 0 where
  pub some : 1 ≤ count
  pub few : count ≤ 1000
  pub spelled : bytes ≡ head count ++ rest

-- behind a head stand these operations, which are as they must be, and then the rest
pub record BeginsWith (bytes : List ℕ) (count : ℕ) (ops : List Op) (rest : List ℕ) : Type 0 where
  pub head : HasHead bytes count (flat_map op_bytes ops ++ rest)
  pub within : length ops ≤ count
  pub each : All IsOp ops
  pub short : length (batch_bytes ops) ≤ 1048576

-- behind these operations stands one more, which is as it must be and ends within the limit, and then the rest
pub record HasNext (ops : List Op) (bytes : List ℕ) (op : Op) (rest : List ℕ) : Type 0 where
  pub form : IsOp op
  pub short : length (batch_bytes (ops ++ op ∷ [])) ≤ 1048576
  pub spelled : bytes ≡ op_bytes op ++ rest

pub record IsBadHead (bytes : List ℕ) (at : ℕ) : Type 0 where
  pub none : (count : ℕ) (rest : List ℕ) → ¬ HasHead bytes count rest
  pub place : at ≡ 0

-- the first operation that is none begins at a place
pub record IsBadOp (bytes : List ℕ) (at : ℕ) : Type 0 where
  pub count : ℕ
  pub ops : List Op
  pub rest : List ℕ
  pub begins : BeginsWith bytes count ops rest
  pub more : length ops < count
  pub none : (op : Op) (after : List ℕ) → ¬ HasNext ops rest op after
  pub place : at ≡ length (batch_bytes ops)

-- behind all operations that the head counts stand bytes, from a place on
pub record IsTrailing (bytes : List ℕ) (at : ℕ) : Type 0 where
  pub ops : List Op
  pub rest : List ℕ
  pub begins : BeginsWith bytes (length ops) ops rest
  pub some : rest ≢ []
  pub place : at ≡ length (batch_bytes ops)

-- the bytes are no batch, which shows at this place
abbrev pub IsBadBatch : List ℕ → ℕ → Type 0
IsBadBatch bytes at = IsBadHead bytes at ⊎ IsBadOp bytes at ⊎ IsTrailing bytes at

-- memory ran out, which says nothing of the bytes, or they are no batch
abbrev pub IsDecodeRefusal : List ℕ → BatchError → Type 0
IsDecodeRefusal bytes e = (e ≡ Memory) ⊎ ((at : ℕ) × (e ≡ BadBatch at) × IsBadBatch bytes at)
