use Rattle.std.proofs.Common.{Some}
use Rattle.rk_model.specs.Cuts.{cut_copied, count_before}
use Rattle.rk_model.specs.Items.{point_takes}
use Rattle.rk_pointmerge.specs.Moves.{Reaches}
use Rattle.rk_pointmerge.proofs.Calls.{Called}
use Rattle.rk_pointmerge.proofs.all.seek_all.Given as goal

abbrev pub invariant-loop-source : goal.invariant-loop-source
invariant-loop-source g l =
    Called g.S.Sorted.listing g.S.Sorted.standing (λ s t. Reaches (g.S.Sorted.listing s) (g.S.Sorted.standing t) l.fn.forward (λ xs. Some (count_before (point_takes (cut_copied l.fn.cut)) xs))) (λ s. 0) (λ s. (g.S.Sorted.listing s).seek_price l.fn.forward (cut_copied l.fn.cut))
    l.fn.sources l.sources l.source-index (g.R.Counting.counts l.fn.reader) (g.R.Counting.counts l.reader)
