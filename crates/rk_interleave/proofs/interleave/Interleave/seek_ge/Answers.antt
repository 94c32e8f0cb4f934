use Rattle.std.proofs.Common.{◌∙◌, refl, sym}
use Rattle.rk_model.specs.Moves.{SeekGe}
use Rattle.rk_interleave.proofs.Arriving.{lost, reaches, goes_of, goes_moves}
use Rattle.rk_interleave.proofs.interleave.Interleave.seek_ge.Goals as goal

pub invariant_of-self : goal.invariant_of-self
invariant_of-self g c = lost g.P.Sorted.listing g.P.Sorted.standing g.S.Sorted.listing g.S.Sorted.standing _ _ _ _ _ _ _ c.in_err-inside.ensures.kept c.in_err-inside.ensures.same c.self.invariant

pub invariant_of-self-in_err-there : goal.invariant_of-self-in_err-there
invariant_of-self-in_err-there g c =
    rw (c.in_err-there.ensures.stays) (lost g.P.Sorted.listing g.P.Sorted.standing g.S.Sorted.listing g.S.Sorted.standing _ _ _ _ _ _ _ c.in_ok-inside.ensures.kept c.in_ok-inside.ensures.same c.self.invariant)

pub invariant_of-self-2 : goal.invariant_of-self-2
invariant_of-self-2 g c =
    let went = reaches g.P.Sorted.listing g.P.Sorted.standing g.S.Sorted.listing g.S.Sorted.standing g.met.P.Source.ordered g.met.P.Source.told g.met.S.Source.ordered g.met.S.Source.told c.self.inside.points c.travel_to.new.points c.self.inside.spans c.travel_to.new.spans c.self.inside.options c.self.inside.lent c.arrive_to.new.lent c.self.inside.facing c.args.key.now c.in_ok-inside.inside
    c.is_in_bounds.ensures.is_key (sym c.is_in_bounds.ensures.inside ∙ c.if-not-is_in_bounds.false) c.in_ok-inside.ensures.kept c.in_ok-inside.ensures.same c.in_ok-inside.ensures.stands c.self.invariant c.in_ok-inside.ensures.reaches c.in_ok-there.ensures.shown in
    rw (c.facing_if-self-inside.ensures, c.in_ok-there.ensures.answer) went.stays

pub returns-clause-moves : goal.returns-clause-moves
returns-clause-moves g c =
    let went = reaches g.P.Sorted.listing g.P.Sorted.standing g.S.Sorted.listing g.S.Sorted.standing g.met.P.Source.ordered g.met.P.Source.told g.met.S.Source.ordered g.met.S.Source.told c.self.inside.points c.travel_to.new.points c.self.inside.spans c.travel_to.new.spans c.self.inside.options c.self.inside.lent c.arrive_to.new.lent c.self.inside.facing c.args.key.now c.in_ok-inside.inside
    c.is_in_bounds.ensures.is_key (sym c.is_in_bounds.ensures.inside ∙ c.if-not-is_in_bounds.false) c.in_ok-inside.ensures.kept c.in_ok-inside.ensures.same c.in_ok-inside.ensures.stands c.self.invariant c.in_ok-inside.ensures.reaches c.in_ok-there.ensures.shown in
    let went' = rw (← c.in_ok-there.ensures.answer, ← c.facing_if-self-inside.ensures) at went in
    rw (← c.self.view_is) (goes_moves g.P.Sorted.listing g.S.Sorted.listing _ _ _ (SeekGe c.args.key.now) _ (λ es. refl) (goes_of g.P.Sorted.listing g.P.Sorted.standing g.S.Sorted.listing g.S.Sorted.standing _ _ _ _ _ _ _ _ _ _ _ c.in_ok-inside.ensures.kept c.in_ok-inside.ensures.same c.in_ok-there.ensures.answer went'))
