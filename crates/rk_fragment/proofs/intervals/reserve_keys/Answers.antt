use Rattle.std.proofs.Common.{◌∙◌, ap, set, get_or}
use Rattle.std.proofs.lemmas.List.{set-get_or}
use Rattle.rk_fragment.specs.declared.intervals.Interval.{Interval}
use Rattle.rk_fragment.proofs.intervals.reserve_keys.Goals as goal

pub loop-i-preserved : goal.loop-i-preserved
loop-i-preserved c =
    let items = c.loop-i.intervals in
    let i = c.loop-i.i in
    let x = get_or items i c.index-intervals-i.result in
    ap (λ keys. let y : Interval = record { start = x.start; keys = keys } in set items i y) c.in_ok-reserve.ensures
    ∙ set-get_or items i c.index-intervals-i.result
    ∙ c.loop-i.invariant
