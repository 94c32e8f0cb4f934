-- A group that is being filled.
use Rattle.std.specs.Prelude.{◌≡◌, ℕ, List, length, flat_map, sum_by, All}
use Rattle.rk_model.specs.declared.op.Op.{Op}
use Rattle.rk_batch.specs.Encoding.{batch_bytes}
use Rattle.rk_batch.specs.Grammar.{IsBatch}
use Rattle.rk_log.specs.Groups.{framed}

-- the number of the first operation, how many batches there are, how many bytes they have, and these bytes, each batch behind its
-- length
pub record PendingSeen : Type 0 where
  pub first : ℕ
  pub count : ℕ
  pub size : ℕ
  pub bytes : List ℕ

-- the bytes of batches
abbrev pub batches_size : List (List Op) → ℕ
batches_size batches = sum_by (λ ops. length (batch_bytes ops)) batches

-- what is pending has these batches
pub record Holds (pending : PendingSeen) (batches : List (List Op)) : Type 0 where
  pub count : pending.count ≡ length batches
  pub size : pending.size ≡ batches_size batches
  pub each : All IsBatch batches
  pub bytes : pending.bytes ≡ flat_map framed batches
