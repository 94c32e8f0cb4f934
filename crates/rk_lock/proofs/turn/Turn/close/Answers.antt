use Rattle.std.proofs.Common.{sym, ap, ◌∙◌, subst}
use Rattle.std.specs.Option.{unwrap_or}
use mathlib.Core.Option.{some-injective}
use Rattle.rk_lock.specs.Plays.{StandsFrom}
use Rattle.rk_lock.proofs.Passing.{ends}
use Rattle.rk_lock.proofs.turn.Turn.close.Goals as goal

pub unreachable-requires : goal.unreachable-requires
unreachable-requires g c =
    let e = ends g.T.Kept.ticket g.T.Kept.stands _ _ _ _ c.close_with-closed.ensures.values.2 c.requires.pass.1.0 c.requires.alone.0 c.requires.alone.1 in
    c.in_default.not-Some e.0.0 (some-injective _ _ (sym c.take.ensures.value ∙ e.0.1))

pub returns-clause-stands : goal.returns-clause-stands
returns-clause-stands g c =
    let e = ends g.T.Kept.ticket g.T.Kept.stands _ _ _ _ c.close_with-closed.ensures.values.2 c.requires.pass.1.0 c.requires.alone.0 c.requires.alone.1 in
    let is = some-injective _ _ (sym e.0.1 ∙ c.take.ensures.value) ∙ c.in-Some.is in
    subst (λ x. StandsFrom g.T.Kept.stands c.args.pass.seat.me.0.origin x c.args.pass.seat.me.0.seen) (ap (λ o. unwrap_or o e.0.0) is) e.0.2

pub returns-clause-tickets : goal.returns-clause-tickets
returns-clause-tickets g c = (ends g.T.Kept.ticket g.T.Kept.stands _ _ _ _ c.close_with-closed.ensures.values.2 c.requires.pass.1.0 c.requires.alone.0 c.requires.alone.1).1

pub returns-clause-events : goal.returns-clause-events
returns-clause-events g c = (ends g.T.Kept.ticket g.T.Kept.stands _ _ _ _ c.close_with-closed.ensures.values.2 c.requires.pass.1.0 c.requires.alone.0 c.requires.alone.1).2

pub returns-clause-numbered : goal.returns-clause-numbered
returns-clause-numbered g c = (ends g.T.Kept.ticket g.T.Kept.stands _ _ _ _ c.close_with-closed.ensures.values.2 c.requires.pass.1.0 c.requires.alone.0 c.requires.alone.1).3
