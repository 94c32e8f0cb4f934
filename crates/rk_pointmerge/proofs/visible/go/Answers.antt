use Rattle.std.proofs.Common.{◌≡◌, not}
use Rattle.rk_pointmerge.proofs.visible.go.Goals as goal
use Rattle.rk_pointmerge.proofs.Viewings.{leave_arrives, leave_walks, turn_walks, facing_is}

pub returns-then-facing-forward-clause-arrives : goal.returns-then-facing-forward-clause-arrives
returns-then-facing-forward-clause-arrives g c =
    let same : c.args.facing ≡ c.args.forward = rw c.if-facing-forward.true at (facing_is c.args.facing c.args.forward) in
    rw same (leave_arrives _ _ _ _ _ (g.met.P.Source.told c.args.points.now) (rw same at c.requires.stands) (rw same at c.requires.can) _ _ _ _ c.leave.ensures.looks)

pub returns-then-facing-forward-clause-costs : goal.returns-then-facing-forward-clause-costs
returns-then-facing-forward-clause-costs g c =
    let same : c.args.facing ≡ c.args.forward = rw c.if-facing-forward.true at (facing_is c.args.facing c.args.forward) in
    rw same (leave_walks _ _ _ _ _ (g.met.P.Source.told c.args.points.now) (rw same at c.requires.stands) (rw same at c.requires.can) _ _ _ _ c.leave.ensures.costs)

pub returns-else-facing-forward-clause-costs : goal.returns-else-facing-forward-clause-costs
returns-else-facing-forward-clause-costs g c =
    let other : c.args.facing ≡ not c.args.forward = rw c.if-facing-forward.false at (facing_is c.args.facing c.args.forward) in
    rw other (turn_walks _ _ _ _ _ (g.met.P.Source.told c.args.points.now) (rw other at c.requires.stands) _ _ _ _ c.turn.ensures.costs)
