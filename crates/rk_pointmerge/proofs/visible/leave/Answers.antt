use Rattle.rk_pointmerge.proofs.Viewings.{seen_shown, seen_here}
use Rattle.rk_pointmerge.proofs.visible.leave.Goals as goal

pub returns-then-forward-clause-left : goal.returns-then-forward-clause-left
returns-then-forward-clause-left g c =
    let f = c.if-forward.true in
    rw f (c.leave_forward.ensures.left (seen_here _ _ _ _ (g.met.P.Source.told c.args.points.now) (rw f at c.requires.stands) (rw f at c.requires.seen)))

pub leave_forward-requires-clause-shown : goal.leave_forward-requires-clause-shown
leave_forward-requires-clause-shown g c =
    let f = c.if-forward.true in
    seen_shown _ _ _ _ (g.met.P.Source.told c.args.points.now) (rw f at c.requires.stands) (rw f at c.requires.seen)
