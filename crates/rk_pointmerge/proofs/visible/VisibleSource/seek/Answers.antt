use Rattle.rk_model.specs.Cuts.{cut_copied}
use Rattle.rk_model.proofs.Paying.{costs_handed}
use Rattle.rk_pointmerge.proofs.visible.VisibleSource.seek.Goals as goal
use Rattle.rk_pointmerge.proofs.Viewings.{seek_skips, seek_leads, seek_costs}

pub look-requires-clause-skips : goal.look-requires-clause-skips
look-requires-clause-skips g c = λ forward. seek_skips _ (cut_copied c.args.cut) c.in_ok-seek.ensures.leads (g.met.P.Source.ordered c.self.inside.merge) _ c.clear.ensures

pub returns-in_err-look-clause-costs : goal.returns-in_err-look-clause-costs
returns-in_err-look-clause-costs g c =
    rw (← c.self.view_is) (costs_handed _ _ _ _ _ _ _ _ _ (seek_costs _ (cut_copied c.args.cut) c.in_ok-seek.ensures.leads (g.met.P.Source.ordered c.self.inside.merge) _ _ _ _ _ _ _ c.in_ok-seek.ensures.costs c.in_err-look.ensures.costs) c.from_residual-in_err-look.ensures.1)

pub returns-clause-leads : goal.returns-clause-leads
returns-clause-leads g c = rw (← c.self.view_is) (seek_leads _ (cut_copied c.args.cut) c.in_ok-seek.ensures.leads (g.met.P.Source.ordered c.self.inside.merge) _ _ _ _ c.in_ok-look.ensures.looks)

pub returns-clause-costs : goal.returns-clause-costs
returns-clause-costs g c = rw (← c.self.view_is) (seek_costs _ (cut_copied c.args.cut) c.in_ok-seek.ensures.leads (g.met.P.Source.ordered c.self.inside.merge) _ _ _ _ _ _ _ c.in_ok-seek.ensures.costs c.in_ok-look.ensures.costs)
