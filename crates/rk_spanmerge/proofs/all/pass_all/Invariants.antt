use Rattle.rk_spanmerge.specs.Moves.{Passed}
use Rattle.rk_spanmerge.proofs.Calls.{Passes}
use Rattle.rk_spanmerge.proofs.all.pass_all.Given as goal

abbrev pub invariant-loop-source : goal.invariant-loop-source
invariant-loop-source g l =
    Passes g.S.Sorted.listing g.S.Sorted.standing (λ s t. Passed l.fn.forward l.fn.key (g.S.Sorted.listing s) (g.S.Sorted.standing s) (g.S.Sorted.standing t)) l.fn.sources l.sources l.source-index (g.R.Counting.counts l.fn.reader) (g.R.Counting.counts l.reader)
