use Rattle.std.proofs.Common.{rules, ◌≡◌, ℕ, ◌<◌, ap, ◌∙◌, subst}
use Rattle.rk_lock.specs.declared.view.View.{View}
use Rattle.rk_lock.specs.Histories.{Among}
use Rattle.rk_lock.specs.Views.{drawn}
use Rattle.rk_lock.proofs.turn.Turn.draw.Goals as goal

pub returns-then-found-next-clause-drawn : goal.returns-then-found-next-clause-drawn
returns-then-found-next-clause-drawn g c =
    let e : c.draw_once-found.result ≡ c.loop.next = search rules in let h = c.draw_once-found.ensures.hit e in let same = c.loop.invariant.3 in
    (h.0 ∙ ap (drawn c.loop.next) same, subst (λ (v : View g.row.T.Denot g.row.T-Event.Denot g.row.T-Origin.Denot). (u : ℕ) → Among u v.tickets → u < c.loop.next) same h.1)
