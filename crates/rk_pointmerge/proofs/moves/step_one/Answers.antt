use Rattle.rk_pointmerge.proofs.Calls.{one_moves}
use Rattle.rk_pointmerge.proofs.moves.step_one.Goals as goal

pub returns : goal.returns
returns g c =
    let e = c.index-sources-at.result in
    let among = c.requires.among in
    one_moves g.S.Sorted.listing g.S.Sorted.standing c.args.sources.now c.args.at c.step.new.self e c.args.forward _ _ c.step.result among (c.requires.faces c.args.at e among).1 c.step.ensures.leads c.step.ensures.fewer c.step.ensures.costs
