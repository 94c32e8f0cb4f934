use Rattle.rk_model.specs.Moves.{First}
use Rattle.rk_interleave.proofs.Arriving.{goes_moves, from_start}
use Rattle.rk_interleave.proofs.interleave.Interleave.first.Goals as goal

pub returns-clause-moves : goal.returns-clause-moves
returns-clause-moves g c = goes_moves g.P.Sorted.listing g.S.Sorted.listing _ _ _ First _ (λ es. from_start es c.args.self.now.options) c.go.ensures.goes
