use Rattle.std.proofs.Common.{Ok, arith}
use Rattle.rk_pointmerge.proofs.Calls.{one_called, one_refused, all_called, reaches_if}
use Rattle.rk_pointmerge.proofs.all.seek_all.Goals as goal

pub loop-source-preserved : goal.loop-source-preserved
loop-source-preserved g c =
    let made = c.in_ok-seek.ensures in
    one_called c.seek.new.self c.source-item.result c.in_ok-seek.field-0 c.loop-source.invariant (omega arith) (reaches_if (Ok c.in_ok-seek.field-0) made.leads) made.leads.same made.costs

pub returns-in_err-seek : goal.returns-in_err-seek
returns-in_err-seek g c =
    let made = c.in_err-seek.ensures in
    one_refused {T = Unit {0}} c.seek.new.self c.source-item.result c.in_err-seek.field-0.0 c.from_residual.result c.loop-source.invariant (omega arith) made.leads.same
    (λ told k d h. omega arith) made.costs c.from_residual.ensures.1

pub returns : goal.returns
returns g c = all_called tt c.loop-source.invariant (omega arith)
