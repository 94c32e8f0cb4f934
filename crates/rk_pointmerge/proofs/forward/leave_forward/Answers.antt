use Rattle.std.proofs.Common.{◌∙◌, ap, sym, Some, option_copied}
use Rattle.rk_pointmerge.proofs.Looking.{leave_memory, leave_refused, leave_skips, leave_nothing}
use Rattle.rk_pointmerge.proofs.forward.leave_forward.Goals as goal

pub returns-in_err-keep-clause-costs : goal.returns-in_err-keep-clause-costs
returns-in_err-keep-clause-costs g c =
    let p = c.args.points.now in
    leave_memory _ (g.met.P.Source.told p) c.requires.known c.requires.faces c.requires.shown (g.met.P.Source.rise p) _ _ _ c.in_err-keep.ensures.memory c.from_residual.ensures.1

pub returns-in_err-step-clause-costs : goal.returns-in_err-step-clause-costs
returns-in_err-step-clause-costs g c =
    let p = c.args.points.now in
    leave_refused _ (g.met.P.Source.told p) c.requires.known c.requires.faces c.requires.shown (g.met.P.Source.rise p) _ _ c.in_err-step.ensures c.from_residual-in_err-step.ensures.1

pub look_forward-requires-clause-skips : goal.look_forward-requires-clause-skips
look_forward-requires-clause-skips g c =
    let p = c.args.points.now in
    leave_skips _ (g.met.P.Source.told p) c.requires.known c.requires.faces c.requires.shown (g.met.P.Source.ordered p) c.in_ok-step.ensures
    _ (sym c.here.ensures ∙ ap option_copied c.in-Some.is) _ (c.in_ok-keep.ensures.ok ∙ ap (λ k. Some k) c.key.ensures)

pub returns-in_default : goal.returns-in_default
returns-in_default g c = leave_nothing _ (g.met.P.Source.told c.args.points.now) c.requires.known c.requires.faces c.requires.shown _ _ (sym c.here.ensures ∙ ap option_copied c.in_default.is)
