use Rattle.rk_pointmerge.proofs.Arriving.{one_arrives, one_refuses, one_fewer}
use Rattle.rk_pointmerge.proofs.moves.go_on.Goals as goal

pub returns-in_err-step_one-clause-arrives : goal.returns-in_err-step_one-clause-arrives
returns-in_err-step_one-clause-arrives g c =
    let stands = rw c.in-Some.is at c.requires.stands in
    let shows = rw c.in-Some.is at c.requires.shows in
    one_refuses g.S.Sorted.listing g.S.Sorted.standing g.met.S.Source.ordered g.met.S.Source.told stands shows c.in_err-step_one.field-0.0 c.from_residual.result c.in_err-step_one.ensures c.from_residual.ensures.1

pub returns-clause-arrives : goal.returns-clause-arrives
returns-clause-arrives g c =
    let stands = rw c.in-Some.is at c.requires.stands in
    let shows = rw c.in-Some.is at c.requires.shows in
    one_arrives g.S.Sorted.listing g.S.Sorted.standing g.met.S.Source.ordered g.met.S.Source.told stands shows c.in_ok-step_one.field-0 c.in_ok-step_one.ensures c.nearest.ensures

pub returns-clause-fewer : goal.returns-clause-fewer
returns-clause-fewer g c =
    let stands = rw c.in-Some.is at c.requires.stands in
    let shows = rw c.in-Some.is at c.requires.shows in
    one_fewer g.S.Sorted.listing g.S.Sorted.standing g.met.S.Source.ordered g.met.S.Source.told stands shows c.in_ok-step_one.field-0 c.in_ok-step_one.ensures
