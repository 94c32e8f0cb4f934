use Rattle.std.proofs.Common.{◌≡◌, map}
use Rattle.rk_fragment.specs.Fragments.{written}
use Rattle.rk_fragment.specs.Intervals.{ArePlaces}
use Rattle.rk_fragment.proofs.Parts.{painted}
use Rattle.rk_fragment.proofs.intervals.intervals_of.Given as goal

abbrev pub invariant-loop-rank : goal.invariant-loop-rank
invariant-loop-rank l = (l.intervals.items ≡ map (painted l.entries l.yielded) (written l.entries)) × ArePlaces l.entries l.rank-iterator
