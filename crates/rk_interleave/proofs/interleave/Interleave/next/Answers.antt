use Rattle.std.proofs.Common.{◌∙◌, ap}
use Rattle.rk_model.specs.Moves.{Next}
use Rattle.rk_interleave.proofs.Arriving.{goes_moves, steps_on}
use Rattle.rk_interleave.proofs.interleave.Interleave.next.Goals as goal

pub returns-in_default : goal.returns-in_default
returns-in_default g c =
    record {
      moves = goes_moves g.P.Sorted.listing g.S.Sorted.listing _ _ _ Next _ (λ es. steps_on es c.args.self.now.options c.args.self.now.cursor (λ e. c.in_default.not-End (c.cursor.ensures ∙ ap (λ v. v.cursor) c.self.view_is ∙ e))) c.go.ensures.goes;
      reads = c.go.ensures.reads;
    }
