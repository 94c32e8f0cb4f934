use denote.Ref.{Bor}
use Rattle.std.proofs.Common.{◌≡◌, Option, Some, None, refl, sym, ap, ◌∙◌, inl, inr, subst}
use Rattle.std.specs.Prelude.{IsTrue, is_some}
use Rattle.std.specs.Option.{option_copied, option_and_then}
use Rattle.rk_model.specs.Standings.{can_step}
use Rattle.rk_sources.specs.Bounds.{stands_between, here_between}
use Rattle.rk_sources.proofs.Bounding.{must_see, must_face, inside_costs}
use Rattle.rk_sources.proofs.bounded.BoundedSource.step.Goals as goal

some_copied : {A : Type 0} (o : Option (Bor A)) → is_some (option_copied o) ≡ is_some o
some_copied None = refl
some_copied (Some x) = refl

pub returns-else-turns-clause-costs : goal.returns-else-turns-clause-costs
returns-else-turns-clause-costs g c =
    let b = c.self.inside in
    let l = g.S.Sorted.listing b.source in
    let s = g.S.Sorted.standing b.source in
    let takes = g.S.Item.Item.takes in
    let asked = subst (λ v. IsTrue (can_step c.args.forward (stands_between takes v.lower v.upper v.facing (g.S.Sorted.listing v.source).held (g.S.Sorted.standing v.source)))) (sym c.self.view_is) c.requires in
    let (b', is) = must_face takes b.lower b.upper b.facing c.args.forward l.held s asked in
    let here = subst (λ v. option_copied c.here.result ≡ option_and_then (λ forward. here_between takes v.lower v.upper forward (g.S.Sorted.listing v.source).held (g.S.Sorted.standing v.source)) v.facing) (sym c.self.view_is) c.here.ensures in
    let seen : option_copied c.here.result ≡ here_between takes b.lower b.upper b' l.held s = rw is at here in
    let sees = must_see b' c.args.forward _ (here_between takes b.lower b.upper b' l.held s) (rw is at asked) (elim c.else-turns.either [
      | inl both ↦ inl (ap is_some (sym seen) ∙ some_copied c.here.result ∙ sym c.is_some-sees.ensures ∙ both.1)
      | inr stays ↦ inr (sym (rw is at c.ne-turns.ensures) ∙ stays)
    ]) in
    let costs = inside_costs takes b.lower b.upper g.met.S.Item.Item.rise l s b' c.args.forward sees.0 _ _ _ c.step.result (rw is at c.self.invariant) sees.1 c.step.ensures.costs in
    rw (← c.self.view_is, is) costs
