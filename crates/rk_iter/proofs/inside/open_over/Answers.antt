use Rattle.std.proofs.Common.{ap}
use Rattle.std.proofs.lemmas.Result.{IfOk-weaker}
use Rattle.rk_iter.proofs.Opened.{seen_opened}
use Rattle.rk_iter.proofs.inside.open_over.Goals as goal

pub returns-clause-points : goal.returns-clause-points
returns-clause-points g c =
    IfOk-weaker c.new-5.result _ _
    (λ m e. seen_opened g.P.Sorted.listing c.args.options.now c.args.number c.args.points.items c.in_ok-bounded.field-0.items c.in_ok-points.points c.in_ok-points-2.points m.points
    (ap (λ k. k.points) e) c.in_ok-points-2.ensures.listing c.in_ok-points.ensures.listing c.in_ok-bounded.ensures)
    c.new-5.ensures
