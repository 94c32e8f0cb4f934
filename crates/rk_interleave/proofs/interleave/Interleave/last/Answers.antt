use Rattle.rk_model.specs.Moves.{Last}
use Rattle.rk_interleave.proofs.Arriving.{goes_moves, from_end}
use Rattle.rk_interleave.proofs.interleave.Interleave.last.Goals as goal

pub returns-clause-moves : goal.returns-clause-moves
returns-clause-moves g c = goes_moves g.P.Sorted.listing g.S.Sorted.listing _ _ _ Last _ (λ es. from_end es c.args.self.now.options) c.go.ensures.goes
