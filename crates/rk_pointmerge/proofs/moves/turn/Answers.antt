use Rattle.rk_pointmerge.proofs.Arriving.{all_arrive, refuses, turn_goes}
use Rattle.rk_pointmerge.proofs.moves.turn.Goals as goal

pub returns-in_err-turn_all : goal.returns-in_err-turn_all
returns-in_err-turn_all g c =
    let made = c.in_err-turn_all.ensures in
    let going = turn_goes g.S.Sorted.listing g.S.Sorted.standing g.met.S.Source.ordered c.args.sources.now g.met.S.Source.told c.requires.shares c.args.forward c.requires.faces in
    refuses g.S.Sorted.listing g.S.Sorted.standing c.in_err-turn_all.field-0.0 c.from_residual.result made.same going.price made.costs c.from_residual.ensures.1

pub returns : goal.returns
returns g c =
    let going = turn_goes g.S.Sorted.listing g.S.Sorted.standing g.met.S.Source.ordered c.args.sources.now g.met.S.Source.told c.requires.shares c.args.forward c.requires.faces in
    all_arrive g.S.Sorted.listing g.S.Sorted.standing g.met.S.Source.ordered c.in_ok-turn_all.field-0 c.in_ok-turn_all.ensures (λ s r m. m) c.nearest.ensures going
