use Rattle.std.proofs.Common.{false}
use Rattle.rk_pointmerge.proofs.Ways.{Way}
use Rattle.rk_pointmerge.proofs.Looking.{Keeps}
use Rattle.rk_pointmerge.proofs.backward.look_backward.Given as goal

abbrev pub invariant-loop-entry : goal.invariant-loop-entry
invariant-loop-entry g l = Way false l.n (Keeps l.n l.kept) l.kept (g.P.Sorted.listing l.fn.points) (g.P.Sorted.listing l.points) (g.P.Sorted.standing l.fn.points) (g.P.Sorted.standing l.points) (g.R.Counting.counts l.fn.reader) (g.R.Counting.counts l.reader)

abbrev pub decreases-loop-entry : goal.decreases-loop-entry
decreases-loop-entry g l = (g.P.Sorted.standing l.points).left
