use Rattle.std.proofs.Common.{◌∙◌, ◌≡◌, sym, ap, true, false}
use Rattle.rk_model.specs.declared.cut.Cut.TheVariants.{Below, Past}
use Rattle.rk_interleave.specs.Settling.{inner_listing, inner_standing, has_begun}
use Rattle.rk_interleave.proofs.Travelling.{travelled, at_key}
use Rattle.rk_interleave.proofs.travel.travel_to.Goals as goal

pub returns-then-has_begun-clause-reaches : goal.returns-then-has_begun-clause-reaches
returns-then-has_begun-clause-reaches g c =
    let points = inner_listing g.P.Sorted.listing in
    let point = inner_standing g.P.Sorted.listing g.P.Sorted.standing in
    let span = g.S.Sorted.standing in
    rw (← c.raised-key.ensures) (at_key c.raised-key.result.now (points c.args.points.now) (points c.place.new.points) (g.S.Sorted.listing c.args.spans.now) (g.S.Sorted.listing c.place.new.spans)
    (point c.args.points.now) (point c.place.new.points) (span c.args.spans.now) (span c.place.new.spans) c.in_ok-place.ensures.points c.in_ok-place.ensures.spans (rw (← c.here.ensures) (sym c.has_begun.ensures ∙ c.if-has_begun.true)))

pub returns-clause-reaches : goal.returns-clause-reaches
returns-clause-reaches g c =
    let points = inner_listing g.P.Sorted.listing in
    let point = inner_standing g.P.Sorted.listing g.P.Sorted.standing in
    let span = g.S.Sorted.standing in
    let key = c.raised-key.result.now in
    let o = c.args.options.now in
    let travels = travelled true false (Below key) o
    (points c.args.points.now) (points c.place.new.points) (points c.settle.new.points) (g.S.Sorted.listing c.args.spans.now) (g.S.Sorted.listing c.place.new.spans) (g.S.Sorted.listing c.settle.new.spans)
    (point c.args.points.now) (point c.place.new.points) (point c.settle.new.points) (span c.args.spans.now) (span c.place.new.spans) (span c.settle.new.spans)
    c.in_ok-place.ensures.points c.in_ok-place.ensures.spans (g.met.S.Source.told c.place.new.spans) c.in_ok-settle.field-0 c.in_ok-settle.ensures.points c.in_ok-settle.ensures.spans c.in_ok-settle.ensures.begun in
    let off : has_begun true (Past key) (span c.place.new.spans).here ≡ false = ap (λ p. has_begun true (Past key) p) (sym c.here.ensures) ∙ sym c.has_begun.ensures ∙ c.if-has_begun.false in
    rw (← c.raised-key.ensures) (record { begun = c.in_ok-settle.field-0; travels = travels; off = off })
