use Rattle.std.proofs.Common.{ap}
use Rattle.rk_interleave.specs.Standing.{cut_from, step_key}
use Rattle.rk_interleave.proofs.Arriving.{lost, arrives, goes_of, fits}
use Rattle.rk_interleave.proofs.interleave.Interleave.go.Goals as goal

pub invariant_of-self : goal.invariant_of-self
invariant_of-self g c = lost g.P.Sorted.listing g.P.Sorted.standing g.S.Sorted.listing g.S.Sorted.standing _ _ _ _ _ _ _ c.in_err-begun.ensures.kept c.in_err-begun.ensures.same c.self.invariant

pub invariant_of-self-in_err-there : goal.invariant_of-self-in_err-there
invariant_of-self-in_err-there g c =
    rw (c.in_err-there.ensures.stays) (lost g.P.Sorted.listing g.P.Sorted.standing g.S.Sorted.listing g.S.Sorted.standing _ _ _ _ _ _ _ c.in_ok-begun.ensures.kept c.in_ok-begun.ensures.same c.self.invariant)

pub invariant_of-self-2 : goal.invariant_of-self-2
invariant_of-self-2 g c =
    let went = arrives g.P.Sorted.listing g.P.Sorted.standing g.S.Sorted.listing g.S.Sorted.standing g.met.P.Source.ordered g.met.P.Source.told g.met.S.Source.ordered g.met.S.Source.told c.self.inside.points c.travel_from.new.points c.self.inside.spans c.travel_from.new.spans c.self.inside.options c.self.inside.lent c.arrive.new.lent c.self.inside.facing c.args.forward c.goes_on-passes.result c.in_ok-begun.begun (cut_from c.args.forward (step_key c.args.steps c.self.inside.lent.cursor)) (fits c.args.forward (step_key c.args.steps c.self.inside.lent.cursor))
    (λ on. let e = c.goes_on-passes.ensures on in (e.1, ap (λ b. cut_from c.args.forward (step_key b c.self.inside.lent.cursor)) e.0))
    c.in_ok-begun.ensures.kept c.in_ok-begun.ensures.same c.in_ok-begun.ensures.stands c.self.invariant (rw c.step_key-from.ensures at c.in_ok-begun.ensures.travels) c.in_ok-there.ensures.shown in
    rw (c.facing_if-self-inside.ensures, c.in_ok-there.ensures.answer) went.stays

pub returns-clause-goes : goal.returns-clause-goes
returns-clause-goes g c =
    let went = arrives g.P.Sorted.listing g.P.Sorted.standing g.S.Sorted.listing g.S.Sorted.standing g.met.P.Source.ordered g.met.P.Source.told g.met.S.Source.ordered g.met.S.Source.told c.self.inside.points c.travel_from.new.points c.self.inside.spans c.travel_from.new.spans c.self.inside.options c.self.inside.lent c.arrive.new.lent c.self.inside.facing c.args.forward c.goes_on-passes.result c.in_ok-begun.begun (cut_from c.args.forward (step_key c.args.steps c.self.inside.lent.cursor)) (fits c.args.forward (step_key c.args.steps c.self.inside.lent.cursor))
    (λ on. let e = c.goes_on-passes.ensures on in (e.1, ap (λ b. cut_from c.args.forward (step_key b c.self.inside.lent.cursor)) e.0))
    c.in_ok-begun.ensures.kept c.in_ok-begun.ensures.same c.in_ok-begun.ensures.stands c.self.invariant (rw c.step_key-from.ensures at c.in_ok-begun.ensures.travels) c.in_ok-there.ensures.shown in
    let went' = rw (← c.in_ok-there.ensures.answer, ← c.facing_if-self-inside.ensures) at went in
    rw (← c.self.view_is) (goes_of g.P.Sorted.listing g.P.Sorted.standing g.S.Sorted.listing g.S.Sorted.standing _ _ _ _ _ _ _ _ _ _ _ c.in_ok-begun.ensures.kept c.in_ok-begun.ensures.same c.in_ok-there.ensures.answer went')
