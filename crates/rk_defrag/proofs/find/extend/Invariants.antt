use Rattle.rk_defrag.specs.Moves.{Extends}
use Rattle.rk_defrag.proofs.Walks.{Walks}
use Rattle.rk_defrag.proofs.find.extend.Given as goal

abbrev pub invariant-loop-span : goal.invariant-loop-span
invariant-loop-span g l = Walks l.forward g.S.Sorted.listing g.S.Sorted.standing l.fn.source l.source (g.R.Counting.counts l.fn.reader) (g.R.Counting.counts l.reader) (λ xs at at'. Extends l.forward l.n xs l.fn.run l.wide at at')

abbrev pub decreases-loop-span : goal.decreases-loop-span
decreases-loop-span g l = (g.S.Sorted.standing l.source.source).left
