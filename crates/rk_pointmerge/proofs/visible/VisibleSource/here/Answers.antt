use Rattle.std.proofs.Common.{◌≡◌, ◌∙◌, sym, true, false, Some}
use Rattle.rk_pointmerge.proofs.visible.VisibleSource.here.Goals as goal
use Rattle.rk_pointmerge.proofs.Viewings.{viewed_shown}

pub returns-then-branch : goal.returns-then-branch
returns-then-branch g c =
    let is : c.self.inside.facing ≡ Some true = rw c.if-branch.true at c.in_ok-self.was in
    rw (← c.self.view_is, is) (c.here.ensures ∙ sym (viewed_shown true _ _ _ _ (g.met.P.Source.told c.self.inside.merge) (rw is at c.self.invariant)))

pub returns-else-branch : goal.returns-else-branch
returns-else-branch g c =
    let is : c.self.inside.facing ≡ Some false = rw c.if-branch.false at c.in_ok-self.was in
    rw (← c.self.view_is, is) (c.get.ensures ∙ sym (viewed_shown false _ _ _ _ (g.met.P.Source.told c.self.inside.merge) (rw is at c.self.invariant)))
