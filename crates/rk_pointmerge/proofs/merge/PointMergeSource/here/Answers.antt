use Rattle.std.proofs.Common.{◌∙◌, sym, ap, refl, List}
use Rattle.rk_pointmerge.specs.Merges.{shown}
use Rattle.rk_pointmerge.proofs.Methods.{merge_here}
use Rattle.rk_pointmerge.proofs.merge.PointMergeSource.here.Goals as goal

pub returns : goal.returns
returns g c =
    rw (← c.self.view_is) (c.shown_at.ensures ∙ ap (λ (ss : List g.row.S.Denot). shown g.S.Sorted.standing ss c.self.inside.at) c.deref.ensures.value
    ∙ sym (merge_here g.S.Sorted.listing g.S.Sorted.standing g.met.S.Source.ordered g.met.S.Source.told refl c.self.invariant))
