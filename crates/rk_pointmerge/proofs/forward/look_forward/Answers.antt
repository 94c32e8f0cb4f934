use Rattle.std.proofs.Common.{◌∙◌, None, ap, sym, option_copied}
use Rattle.rk_pointmerge.specs.Visibles.{Skips}
use Rattle.rk_pointmerge.proofs.Ways.{way_on, way_refused, way_memory, way_ends}
use Rattle.rk_pointmerge.proofs.Looking.{next_ends, next_more, next_shown}
use Rattle.rk_pointmerge.proofs.forward.look_forward.Goals as goal

pub loop-entry-preserved : goal.loop-entry-preserved
loop-entry-preserved g c =
    let was = c.loop-entry.invariant in
    way_on was _ _ (g.met.P.Source.told c.step.new.self) c.in_ok-step.ensures
    (next_more (g.met.P.Source.ordered c.args.points.now) was _ (sym c.here.ensures ∙ ap option_copied c.in-Some.is) _ (rw c.if-not-branch.false at c.in_ok-is_passed.ensures.ok))

pub returns-in_err-step-clause-costs : goal.returns-in_err-step-clause-costs
returns-in_err-step-clause-costs g c =
    let was = c.loop-entry.invariant in
    let here = sym c.here.ensures ∙ ap option_copied c.in-Some.is in
    way_refused was _ _ None (λ es at. Skips c.args.n es c.is_passed.new.key at) (g.met.P.Source.rise c.args.points.now) c.in_err-step.ensures
    (next_more (g.met.P.Source.ordered c.args.points.now) was _ here _ (rw c.if-not-branch.false at c.in_ok-is_passed.ensures.ok)) _ here c.from_residual-in_err-step.ensures.1

pub returns-in_err-is_passed-clause-costs : goal.returns-in_err-is_passed-clause-costs
returns-in_err-is_passed-clause-costs g c = way_memory c.loop-entry.invariant _ _ (g.met.P.Source.rise c.args.points.now) c.in_err-is_passed.ensures.memory c.from_residual.ensures.1

pub returns-then-not-branch : goal.returns-then-not-branch
returns-then-not-branch g c =
    let was = c.loop-entry.invariant in
    way_ends was _ (next_shown (g.met.P.Source.ordered c.args.points.now) was _ (sym c.here.ensures ∙ ap option_copied c.in-Some.is) _ (rw c.if-not-branch.true at c.in_ok-is_passed.ensures.ok))

pub returns-in_default : goal.returns-in_default
returns-in_default g c =
    let was = c.loop-entry.invariant in
    way_ends was _ (next_ends (g.met.P.Source.ordered c.args.points.now) was (sym c.here.ensures ∙ ap option_copied c.in_default.is))
