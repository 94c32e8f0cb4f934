use Rattle.std.proofs.Common.{Ok, arith, get_or, map}
use Rattle.rk_model.specs.Cuts.{cut_copied}
use Rattle.rk_model.specs.Items.{point_takes}
use Rattle.rk_pointmerge.specs.MergeLaws.{told_at, united_told}
use Rattle.rk_pointmerge.proofs.Calls.{one_called, one_refused, all_called, reaches_if, walk_on}
use Rattle.rk_pointmerge.proofs.all.pass_all.Goals as goal

pub loop-source-preserved : goal.loop-source-preserved
loop-source-preserved g c =
    let made = c.in_ok-pass.ensures in
    one_called c.pass.new.self c.source-item.result c.in_ok-pass.field-0 c.loop-source.invariant (omega arith) (record { reaches = reaches_if (Ok c.in_ok-pass.field-0) made.leads; beyond = made.beyond; left = made.left; fewer = made.fewer }) made.leads.same made.costs

pub returns-in_err-pass : goal.returns-in_err-pass
returns-in_err-pass g c =
    let made = c.in_err-pass.ensures in
    one_refused {T = Unit {0}} c.pass.new.self c.source-item.result c.in_err-pass.field-0.0 c.from_residual.result c.loop-source.invariant (omega arith) made.leads.same
    (λ told k d h.
    let s = get_or c.args.sources.now k d in
    walk_on (g.S.Sorted.listing s) c.args.forward (point_takes (cut_copied c.args.cut)) (g.S.Sorted.standing s) (g.met.S.Source.rise s) (told_at g.S.Sorted.listing c.args.sources.now k d h (united_told (map g.S.Sorted.listing c.args.sources.now) told))) made.costs c.from_residual.ensures.1

pub returns : goal.returns
returns g c = all_called tt c.loop-source.invariant (omega arith)
