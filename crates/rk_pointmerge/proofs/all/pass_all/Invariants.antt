use Rattle.rk_model.specs.Cuts.{cut_copied}
use Rattle.rk_model.specs.Items.{point_takes}
use Rattle.rk_model.specs.Standings.{walked, pass_to}
use Rattle.rk_pointmerge.specs.Moves.{PassesCut}
use Rattle.rk_pointmerge.proofs.Calls.{Called}
use Rattle.rk_pointmerge.proofs.all.pass_all.Given as goal

abbrev pub invariant-loop-source : goal.invariant-loop-source
invariant-loop-source g l =
    let takes = point_takes (cut_copied l.fn.cut) in
    Called g.S.Sorted.listing g.S.Sorted.standing (λ s t. PassesCut (g.S.Sorted.listing s) (g.S.Sorted.standing s) (g.S.Sorted.standing t) l.fn.forward takes)
    (λ s. walked (g.S.Sorted.listing s) l.fn.forward (g.S.Sorted.standing s).gap) (λ s. pass_to (g.S.Sorted.listing s) l.fn.forward takes (g.S.Sorted.standing s))
    l.fn.sources l.sources l.source-index (g.R.Counting.counts l.fn.reader) (g.R.Counting.counts l.reader)
