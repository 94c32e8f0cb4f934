use Rattle.std.proofs.Common.{◌∙◌, ap, sym, option_copied}
use Rattle.rk_pointmerge.specs.Visibles.{kept_from}
use Rattle.rk_pointmerge.proofs.Ways.{way_on, way_refused, way_memory, way_ends}
use Rattle.rk_pointmerge.proofs.Looking.{Keeps, back_ends, back_more, back_shown}
use Rattle.rk_pointmerge.proofs.backward.look_backward.Goals as goal

pub loop-entry-preserved : goal.loop-entry-preserved
loop-entry-preserved g c =
    let was = c.loop-entry.invariant in
    rw c.in_ok-keep_from.ensures.ok (way_on was _ _ (g.met.P.Source.told c.step.new.self) c.in_ok-step.ensures
    (back_more (g.met.P.Source.ordered c.args.points.now) was _ (sym c.here.ensures ∙ ap option_copied c.in-Some.is) (sym c.is_settled.ensures ∙ c.if-is_settled.false)))

pub returns-in_err-step-clause-costs : goal.returns-in_err-step-clause-costs
returns-in_err-step-clause-costs g c =
    let was = c.loop-entry.invariant in
    let here = sym c.here.ensures ∙ ap option_copied c.in-Some.is in
    way_refused was _ _ _ (Keeps c.args.n (kept_from c.args.n c.in-Some.entry.now)) (g.met.P.Source.rise c.args.points.now) c.in_err-step.ensures
    (back_more (g.met.P.Source.ordered c.args.points.now) was _ here (sym c.is_settled.ensures ∙ c.if-is_settled.false)) _ here c.from_residual-in_err-step.ensures.1

pub returns-in_err-keep_from-clause-costs : goal.returns-in_err-keep_from-clause-costs
returns-in_err-keep_from-clause-costs g c = way_memory c.loop-entry.invariant _ _ (g.met.P.Source.rise c.args.points.now) c.in_err-keep_from.ensures.memory c.from_residual.ensures.1

pub returns-then-is_settled : goal.returns-then-is_settled
returns-then-is_settled g c =
    let was = c.loop-entry.invariant in
    way_ends was _ (back_shown (g.met.P.Source.ordered c.args.points.now) was _ (sym c.here.ensures ∙ ap option_copied c.in-Some.is) (sym c.is_settled.ensures ∙ c.if-is_settled.true))

pub returns-in_default : goal.returns-in_default
returns-in_default g c =
    let was = c.loop-entry.invariant in
    way_ends was _ (back_ends (g.met.P.Source.ordered c.args.points.now) was (sym c.here.ensures ∙ ap option_copied c.in_default.is))
