use Rattle.std.proofs.Common.{◌≡◌, ◌+◌, ◌*◌, ◌^◌, ◌≤◌, length, take}
use Rattle.rk_model.specs.Operations.{operations}
use Rattle.rk_log.proofs.group.Group.end.Given as goal

abbrev pub invariant-loop-batch : goal.invariant-loop-batch
invariant-loop-batch l =
    (l.end ≡ l.self.first + length (operations (take l.batch-index l.batch-items))) × (l.end ≤ 2 ^ 64 + 2 ^ 64 * l.batch-index)
