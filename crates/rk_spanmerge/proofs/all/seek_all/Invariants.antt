use Rattle.rk_model.specs.Cuts.{cut_copied}
use Rattle.rk_model.specs.Items.{span_takes}
use Rattle.rk_spanmerge.specs.Moves.{IsFacing, StandsAt}
use Rattle.rk_spanmerge.proofs.Calls.{Passes}
use Rattle.rk_spanmerge.proofs.all.seek_all.Given as goal

abbrev pub invariant-loop-source : goal.invariant-loop-source
invariant-loop-source g l =
    Passes g.S.Sorted.listing g.S.Sorted.standing (λ s t. IsFacing l.fn.forward (g.S.Sorted.standing t) × StandsAt (span_takes l.fn.forward (cut_copied l.fn.cut)) (g.S.Sorted.listing t) (g.S.Sorted.standing t)) l.fn.sources l.sources l.source-index (g.R.Counting.counts l.fn.reader) (g.R.Counting.counts l.reader)
