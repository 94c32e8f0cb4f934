use Rattle.std.proofs.lemmas.Bool.{and_parts}
use Rattle.rk_model.proofs.Paying.{paid_from, paid_ok, costs_handed}
use Rattle.rk_pointmerge.proofs.Methods.{before, new_is, step_leads, step_costs}
use Rattle.rk_pointmerge.proofs.merge.PointMergeSource.step.Goals as goal

pub returns-in_err-self-inside-clause-costs : goal.returns-in_err-self-inside-clause-costs
returns-in_err-self-inside-clause-costs g c =
    let made = c.in_err-self-inside.ensures.arrives in
    let was = before g.S.Sorted.listing g.S.Sorted.standing c.self.view_is c.deref_mut.ensures.value (and_parts _ _ c.requires).0 in
    step_costs g.S.Sorted.listing g.S.Sorted.standing c.args.self.now c.args.forward was (new_is g.S.Sorted.listing g.S.Sorted.standing c.self.inside.sources c.deref_mut.result.now c.step_all.new.sources made.same c.deref_mut.ensures.len)
    (costs_handed _ _ _ _ _ _ _ c.in_err-self-inside.field-0.0 c.from_residual.result made.costs c.from_residual.ensures.1)

pub returns-clause-leads : goal.returns-clause-leads
returns-clause-leads g c =
    let made = c.in_ok-self-inside.ensures.arrives in
    let was = before g.S.Sorted.listing g.S.Sorted.standing c.self.view_is c.deref_mut.ensures.value (and_parts _ _ c.requires).0 in
    step_leads g.S.Sorted.listing g.S.Sorted.standing c.args.self.now was (new_is g.S.Sorted.listing g.S.Sorted.standing c.self.inside.sources c.deref_mut.result.now c.step_all.new.sources made.same c.deref_mut.ensures.len) made

pub returns-clause-costs : goal.returns-clause-costs
returns-clause-costs g c =
    let made = c.in_ok-self-inside.ensures.arrives in
    let was = before g.S.Sorted.listing g.S.Sorted.standing c.self.view_is c.deref_mut.ensures.value (and_parts _ _ c.requires).0 in
    step_costs g.S.Sorted.listing g.S.Sorted.standing c.args.self.now c.args.forward was (new_is g.S.Sorted.listing g.S.Sorted.standing c.self.inside.sources c.deref_mut.result.now c.step_all.new.sources made.same c.deref_mut.ensures.len)
    (paid_ok _ _ _ _ _ _ _ tt (paid_from _ _ _ _ _ _ _ _ made.costs))
