use Rattle.std.proofs.Common.{◌≡◌, ◌++◌, take}
use Rattle.rk_mem.proofs.merge.share_all.Given as goal

abbrev pub invariant-loop-point : goal.invariant-loop-point
invariant-loop-point l = l.all.items ≡ l.fn.all.items ++ take l.point-index l.points
