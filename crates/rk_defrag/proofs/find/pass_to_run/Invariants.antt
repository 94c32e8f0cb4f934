use Rattle.rk_defrag.proofs.Walks.{Walks, PassesBare}
use Rattle.rk_defrag.proofs.find.pass_to_run.Given as goal

abbrev pub invariant-loop-span : goal.invariant-loop-span
invariant-loop-span g l = Walks l.forward g.S.Sorted.listing g.S.Sorted.standing l.fn.source l.source (g.R.Counting.counts l.fn.reader) (g.R.Counting.counts l.reader) (PassesBare l.forward l.n)

abbrev pub decreases-loop-span : goal.decreases-loop-span
decreases-loop-span g l = (g.S.Sorted.standing l.source.source).left
