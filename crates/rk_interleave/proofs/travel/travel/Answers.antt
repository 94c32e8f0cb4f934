use Rattle.rk_model.specs.Cuts.{cut_copied}
use Rattle.rk_interleave.specs.Settling.{inner_listing, inner_standing}
use Rattle.rk_interleave.proofs.Travelling.{travels_of}
use Rattle.rk_interleave.proofs.travel.travel.Goals as goal

pub returns-clause-travels : goal.returns-clause-travels
returns-clause-travels g c =
    let points = inner_listing g.P.Sorted.listing in
    let point = inner_standing g.P.Sorted.listing g.P.Sorted.standing in
    let span = g.S.Sorted.standing in
    travels_of c.args.forward c.args.passes (cut_copied c.args.cut) c.args.options.now
    (points c.args.points.now) (points c.place.new.points) (points c.settle.new.points) (g.S.Sorted.listing c.args.spans.now) (g.S.Sorted.listing c.place.new.spans) (g.S.Sorted.listing c.settle.new.spans)
    (point c.args.points.now) (point c.place.new.points) (point c.settle.new.points) (span c.args.spans.now) (span c.place.new.spans) (span c.settle.new.spans)
    c.in_ok-place.ensures.points c.in_ok-place.ensures.spans (g.met.S.Source.told c.place.new.spans) c.settle.result c.settle.ensures.points c.settle.ensures.spans c.settle.ensures.begun
