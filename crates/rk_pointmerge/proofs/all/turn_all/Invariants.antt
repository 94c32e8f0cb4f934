use Rattle.std.specs.Option.{option_map}
use Rattle.rk_model.specs.Standings.{step_gap, step_from, step_to}
use Rattle.rk_pointmerge.specs.Moves.{Reaches}
use Rattle.rk_pointmerge.proofs.Calls.{Called}
use Rattle.rk_pointmerge.proofs.all.turn_all.Given as goal

abbrev pub invariant-loop-source : goal.invariant-loop-source
invariant-loop-source g l =
    Called g.S.Sorted.listing g.S.Sorted.standing (λ s t. Reaches (g.S.Sorted.listing s) (g.S.Sorted.standing t) l.fn.forward (λ xs. option_map (step_gap l.fn.forward (g.S.Sorted.standing s)) (g.S.Sorted.standing s).gap)) (λ s. step_from (g.S.Sorted.listing s) l.fn.forward (g.S.Sorted.standing s)) (λ s. step_to (g.S.Sorted.listing s) l.fn.forward (g.S.Sorted.standing s))
    l.fn.sources l.sources l.source-index (g.R.Counting.counts l.fn.reader) (g.R.Counting.counts l.reader)
