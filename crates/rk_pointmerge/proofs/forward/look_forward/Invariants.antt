use Rattle.std.proofs.Common.{None, true}
use Rattle.rk_pointmerge.specs.Visibles.{Skips}
use Rattle.rk_pointmerge.proofs.Ways.{Way}
use Rattle.rk_pointmerge.proofs.forward.look_forward.Given as goal

abbrev pub invariant-loop-entry : goal.invariant-loop-entry
invariant-loop-entry g l = Way true l.n (λ es at. Skips l.n es l.key at) None (g.P.Sorted.listing l.fn.points) (g.P.Sorted.listing l.points) (g.P.Sorted.standing l.fn.points) (g.P.Sorted.standing l.points) (g.R.Counting.counts l.fn.reader) (g.R.Counting.counts l.reader)

abbrev pub decreases-loop-entry : goal.decreases-loop-entry
decreases-loop-entry g l = (g.P.Sorted.standing l.points).left
