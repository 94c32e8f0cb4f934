use Rattle.rk_model.specs.Cuts.{cut_copied}
use Rattle.rk_pointmerge.proofs.Arriving.{all_arrive, refuses, seek_goes}
use Rattle.rk_pointmerge.proofs.moves.seek_to.Goals as goal

pub returns-in_err-seek_all : goal.returns-in_err-seek_all
returns-in_err-seek_all g c =
    let made = c.in_err-seek_all.ensures in
    let going = seek_goes g.S.Sorted.listing g.S.Sorted.standing g.met.S.Source.ordered c.args.sources.now c.args.forward (cut_copied c.args.cut) in
    refuses g.S.Sorted.listing g.S.Sorted.standing c.in_err-seek_all.field-0.0 c.from_residual.result made.same going.price made.costs c.from_residual.ensures.1

pub returns : goal.returns
returns g c =
    let going = seek_goes g.S.Sorted.listing g.S.Sorted.standing g.met.S.Source.ordered c.args.sources.now c.args.forward (cut_copied c.args.cut) in
    all_arrive g.S.Sorted.listing g.S.Sorted.standing g.met.S.Source.ordered c.in_ok-seek_all.field-0 c.in_ok-seek_all.ensures (λ s r m. m) c.nearest.ensures going
