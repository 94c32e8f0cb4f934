use Rattle.std.proofs.Common.{◌∙◌, ap}
use Rattle.rk_model.specs.Moves.{Prev}
use Rattle.rk_interleave.proofs.Arriving.{goes_moves, steps_back}
use Rattle.rk_interleave.proofs.interleave.Interleave.prev.Goals as goal

pub returns-in_default : goal.returns-in_default
returns-in_default g c =
    record {
      moves = goes_moves g.P.Sorted.listing g.S.Sorted.listing _ _ _ Prev _ (λ es. steps_back es c.args.self.now.options c.args.self.now.cursor (λ e. c.in_default.not-Start (c.cursor.ensures ∙ ap (λ v. v.cursor) c.self.view_is ∙ e))) c.go.ensures.goes;
      reads = c.go.ensures.reads;
    }
