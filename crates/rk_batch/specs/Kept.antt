-- What a batch keeps: operations that are as they must be, within the limits, and the length of its bytes.
use Rattle.std.specs.Prelude.{◌≡◌, ℕ, ◌≤◌, List, length}
use Rattle.std.specs.List.{All}
use Rattle.rk_model.specs.declared.op.Op.{Op}
use Rattle.rk_batch.specs.Encoding.{batch_bytes}
use Rattle.rk_batch.specs.Checks.{IsOp}

pub record IsBatch (ops : List Op) (size : ℕ) : Type 0 where
  pub each : All IsOp ops
  pub few : length ops ≤ 1000
  pub size_is : size ≡ length (batch_bytes ops)
  pub short : size ≤ 1048576
