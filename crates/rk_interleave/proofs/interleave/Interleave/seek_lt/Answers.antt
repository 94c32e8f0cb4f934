use Rattle.std.proofs.Common.{refl, sym, false}
use Rattle.std.proofs.lemmas.Bool.{true≢false}
use Rattle.rk_model.specs.Moves.{SeekLt, lowered}
use Rattle.rk_model.specs.declared.cut.Cut.TheVariants.{Below}
use Rattle.rk_interleave.proofs.Arriving.{lost, arrives, goes_of, goes_moves}
use Rattle.rk_interleave.proofs.interleave.Interleave.seek_lt.Goals as goal

pub invariant_of-self : goal.invariant_of-self
invariant_of-self g c = lost g.P.Sorted.listing g.P.Sorted.standing g.S.Sorted.listing g.S.Sorted.standing _ _ _ _ _ _ _ c.in_err-begun.ensures.kept c.in_err-begun.ensures.same c.self.invariant

pub invariant_of-self-in_err-there : goal.invariant_of-self-in_err-there
invariant_of-self-in_err-there g c =
    rw (c.in_err-there.ensures.stays) (lost g.P.Sorted.listing g.P.Sorted.standing g.S.Sorted.listing g.S.Sorted.standing _ _ _ _ _ _ _ c.in_ok-begun.ensures.kept c.in_ok-begun.ensures.same c.self.invariant)

pub invariant_of-self-2 : goal.invariant_of-self-2
invariant_of-self-2 g c =
    let went = arrives g.P.Sorted.listing g.P.Sorted.standing g.S.Sorted.listing g.S.Sorted.standing g.met.P.Source.ordered g.met.P.Source.told g.met.S.Source.ordered g.met.S.Source.told c.self.inside.points c.travel_below.new.points c.self.inside.spans c.travel_below.new.spans c.self.inside.options c.self.inside.lent c.arrive.new.lent c.self.inside.facing false false c.in_ok-begun.begun (Below (lowered c.self.inside.options.upper c.args.key.now)) tt
    (λ e. absurd (true≢false (sym e))) c.in_ok-begun.ensures.kept c.in_ok-begun.ensures.same c.in_ok-begun.ensures.stands c.self.invariant c.in_ok-begun.ensures.travels c.in_ok-there.ensures.shown in
    rw (c.facing_if-self-inside.ensures, c.in_ok-there.ensures.answer) went.stays

pub returns-clause-moves : goal.returns-clause-moves
returns-clause-moves g c =
    let went = arrives g.P.Sorted.listing g.P.Sorted.standing g.S.Sorted.listing g.S.Sorted.standing g.met.P.Source.ordered g.met.P.Source.told g.met.S.Source.ordered g.met.S.Source.told c.self.inside.points c.travel_below.new.points c.self.inside.spans c.travel_below.new.spans c.self.inside.options c.self.inside.lent c.arrive.new.lent c.self.inside.facing false false c.in_ok-begun.begun (Below (lowered c.self.inside.options.upper c.args.key.now)) tt
    (λ e. absurd (true≢false (sym e))) c.in_ok-begun.ensures.kept c.in_ok-begun.ensures.same c.in_ok-begun.ensures.stands c.self.invariant c.in_ok-begun.ensures.travels c.in_ok-there.ensures.shown in
    let went' = rw (← c.in_ok-there.ensures.answer, ← c.facing_if-self-inside.ensures) at went in
    rw (← c.self.view_is) (goes_moves g.P.Sorted.listing g.S.Sorted.listing _ _ _ (SeekLt c.args.key.now) _ (λ es. refl) (goes_of g.P.Sorted.listing g.P.Sorted.standing g.S.Sorted.listing g.S.Sorted.standing _ _ _ _ _ _ _ _ _ _ _ c.in_ok-begun.ensures.kept c.in_ok-begun.ensures.same c.in_ok-there.ensures.answer went'))
