use Rattle.rk_model.specs.Cuts.{cut_copied}
use Rattle.rk_pointmerge.proofs.Arriving.{all_arrive, refuses, pass_goes, pass_beyond, pass_left, pass_fewer}
use Rattle.rk_pointmerge.proofs.moves.pass_to.Goals as goal

pub returns-in_err-pass_all-clause-arrives : goal.returns-in_err-pass_all-clause-arrives
returns-in_err-pass_all-clause-arrives g c =
    let made = c.in_err-pass_all.ensures in
    let going = pass_goes g.S.Sorted.listing g.S.Sorted.standing g.met.S.Source.ordered c.args.sources.now g.met.S.Source.told c.requires.shares c.args.forward (cut_copied c.args.cut) in
    refuses g.S.Sorted.listing g.S.Sorted.standing c.in_err-pass_all.field-0.0 c.from_residual.result made.same going.price made.costs c.from_residual.ensures.1

pub returns-clause-arrives : goal.returns-clause-arrives
returns-clause-arrives g c =
    let going = pass_goes g.S.Sorted.listing g.S.Sorted.standing g.met.S.Source.ordered c.args.sources.now g.met.S.Source.told c.requires.shares c.args.forward (cut_copied c.args.cut) in
    all_arrive g.S.Sorted.listing g.S.Sorted.standing g.met.S.Source.ordered c.in_ok-pass_all.field-0 c.in_ok-pass_all.ensures (λ s r m. m.reaches) c.nearest.ensures going

pub returns-clause-beyond : goal.returns-clause-beyond
returns-clause-beyond g c = let moved = c.in_ok-pass_all.ensures in pass_beyond g.S.Sorted.listing g.S.Sorted.standing c.args.sources.now c.pass_all.new.sources moved.same moved.ok c.nearest.result

pub returns-clause-left : goal.returns-clause-left
returns-clause-left g c = let moved = c.in_ok-pass_all.ensures in pass_left g.S.Sorted.listing g.S.Sorted.standing c.args.sources.now c.pass_all.new.sources moved.same moved.ok

pub returns-clause-fewer : goal.returns-clause-fewer
returns-clause-fewer g c = let moved = c.in_ok-pass_all.ensures in pass_fewer g.S.Sorted.listing g.S.Sorted.standing c.args.sources.now c.pass_all.new.sources moved.same moved.ok
