use Rattle.std.proofs.Common.{◌∙◌, sym, refl, ap, subst}
use Rattle.std.specs.Option.{option_copied}
use Rattle.rk_spanmerge.specs.Moves.{takes, Outlasts}
use Rattle.rk_spanmerge.proofs.Calls.{costs_free, pass_free}
use Rattle.rk_spanmerge.proofs.Gaps.{passed_stays, passed_goes}
use Rattle.rk_spanmerge.proofs.all.pass_one.Goals as goal

pub returns-in_default-clause-passed : goal.returns-in_default-clause-passed
returns-in_default-clause-passed g c =
    let s = c.args.source.now in
    let out = subst (Outlasts c.args.forward c.args.key.now) (sym (ap option_copied c.in_default.is) ∙ c.here.ensures) tt in
    passed_stays c.args.forward c.args.key.now (g.S.Sorted.listing s) (g.S.Sorted.standing s) (g.met.S.Source.ordered s) (g.met.S.Source.told s) c.requires out

pub returns-then-outlasts-clause-passed : goal.returns-then-outlasts-clause-passed
returns-then-outlasts-clause-passed g c =
    let s = c.args.source.now in
    let out = subst (Outlasts c.args.forward c.args.key.now) (sym (ap option_copied c.in-Some.is) ∙ c.here.ensures) (sym c.outlasts.ensures ∙ c.if-outlasts.true) in
    passed_stays c.args.forward c.args.key.now (g.S.Sorted.listing s) (g.S.Sorted.standing s) (g.met.S.Source.ordered s) (g.met.S.Source.told s) c.requires out

pub returns-clause-passed : goal.returns-clause-passed
returns-clause-passed g c =
    let s = c.args.source.now in
    passed_goes c.args.forward c.args.key.now (g.S.Sorted.listing s) (g.S.Sorted.listing c.pass.new.self) (g.S.Sorted.standing s) (g.S.Sorted.standing c.pass.new.self) c.in-Some.span.now c.pass.result c.pass.ensures.leads c.pass.ensures.beyond c.pass.ensures.fewer (sym c.here.ensures ∙ ap option_copied c.in-Some.is) (sym c.outlasts.ensures ∙ c.if-outlasts.false)

pub returns-clause-costs : goal.returns-clause-costs
returns-clause-costs g c =
    let s = c.args.source.now in
    costs_free _ _ _ _ _ _ _ _ (pass_free (g.S.Sorted.listing s) c.args.forward (takes c.args.forward c.args.key.now) (g.S.Sorted.standing s) (g.met.S.Source.once s refl)) c.pass.ensures.costs
