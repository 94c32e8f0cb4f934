use Rattle.std.proofs.Common.{◌≡◌, ◌++◌, length, take}
use Rattle.std.specs.Prelude.{flat_map}
use Rattle.rk_batch.specs.Encoding.{head, op_bytes}
use Rattle.rk_batch.proofs.batch.Batch.encode.Given as goal

abbrev pub invariant-loop-op : goal.invariant-loop-op
invariant-loop-op l = l.out.items ≡ head (length l.op-items) ++ flat_map op_bytes (take l.op-index l.op-items)
