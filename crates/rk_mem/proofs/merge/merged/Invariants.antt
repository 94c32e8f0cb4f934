use Rattle.std.proofs.Common.{◌≡◌, ◌++◌, drop}
use Rattle.rk_mem.proofs.Merging.{merge}
use Rattle.rk_mem.proofs.merge.merged.Given as goal

abbrev pub invariant-loop-point : goal.invariant-loop-point
invariant-loop-point l = l.points.items ++ merge (drop l.point-index l.older) l.rest ≡ merge l.older l.newer
