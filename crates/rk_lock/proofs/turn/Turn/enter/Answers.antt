use Rattle.std.proofs.Common.{rules, ap, ◌∙◌, subst}
use Rattle.rk_lock.specs.declared.view.View.{View}
use Rattle.rk_lock.specs.declared.view.Stage.TheVariants.{Inside}
use Rattle.rk_lock.specs.Histories.{IsPrefix}
use Rattle.rk_lock.specs.Views.{at, kept_of, ticket_of}
use Rattle.rk_lock.specs.Plays.{StandsFrom}
use Rattle.rk_lock.proofs.Steps.{entering}
use Rattle.rk_lock.proofs.turn.Turn.enter.Goals as goal

pub returns : goal.returns
returns g c =
    let V = View g.row.T.Denot g.row.T-Event.Denot g.row.T-Origin.Denot in
    let t = c.draw-ticket.result in let d = c.draw-ticket.ensures.drawn in let w = c.wait_for.ensures.called in let s = c.take.ensures in let history = w.0 in
    let e = entering g.T.Kept.ticket g.T.Kept.stands c.args.pass.now.seat.me.0 c.take.new.pass.seat.me.0 c.take.result t history
    (s.inside ∙ (ap (λ (v : V). at (Inside (ticket_of v.stage) (kept_of v.stage)) v) w.1 ∙ ap (at (Inside t history)) d.0))
    (subst (λ (v : V). IsPrefix v.seen history) d.0 w.2)
    (subst (λ (v : V). StandsFrom g.T.Kept.stands v.origin c.take.result history) d.0 (subst (λ (v : V). StandsFrom g.T.Kept.stands v.origin c.take.result (kept_of v.stage)) w.1 s.stands))
    w.3 w.4 d.1 in
    record { pass = search rules; entered = e.0; stands = e.2; begins = e.1; numbered = e.4; ticket = (e.3, e.5) }
