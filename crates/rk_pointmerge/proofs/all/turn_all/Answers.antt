use Rattle.std.proofs.Common.{Ok, arith, get_or}
use Rattle.rk_pointmerge.proofs.Calls.{one_called, one_refused, all_called, reaches_if, step_nothing}
use Rattle.rk_pointmerge.proofs.all.turn_all.Goals as goal

pub loop-source-preserved : goal.loop-source-preserved
loop-source-preserved g c =
    let made = c.in_ok-step.ensures in
    one_called c.step.new.self c.source-item.result c.in_ok-step.field-0 c.loop-source.invariant (omega arith) (reaches_if (Ok c.in_ok-step.field-0) made.leads) made.leads.same made.costs

pub returns-in_err-step : goal.returns-in_err-step
returns-in_err-step g c =
    let made = c.in_err-step.ensures in
    one_refused {T = Unit {0}} c.step.new.self c.source-item.result c.in_err-step.field-0.0 c.from_residual.result c.loop-source.invariant (omega arith) made.leads.same
    (λ told k d h.
    let s = get_or c.args.sources.now k d in
    let none = step_nothing (g.S.Sorted.listing s) c.args.forward (g.S.Sorted.standing s) (c.requires k d h).1 in
    omega arith) made.costs c.from_residual.ensures.1

pub returns : goal.returns
returns g c = all_called tt c.loop-source.invariant (omega arith)
