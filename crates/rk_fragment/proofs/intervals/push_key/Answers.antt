use Rattle.std.proofs.Common.{◌≡◌, ◌∙◌, [], ◌∷◌, ◌++◌, ap, set, arith, get_or}
use Rattle.std.proofs.lemmas.List.{get_or_default}
use Rattle.std.proofs.lemmas.List.Edits.{map_over_more}
use Rattle.rk_fragment.specs.Intervals.{with_key}
use Rattle.rk_fragment.specs.declared.intervals.Interval.{Interval}
use Rattle.rk_fragment.proofs.intervals.push_key.Goals as goal

pub loop-interval-preserved : goal.loop-interval-preserved
loop-interval-preserved c =
    let key = c.args.key.now in
    let items = c.loop-interval.interval-items in
    let i = c.loop-interval.interval-index in
    let x = get_or items i c.interval-item.result in
    let put : c.push.new.self ≡ x.keys ++ key ∷ [] = c.in_ok-push.ensures ∙ ap (λ k. x.keys ++ k ∷ []) c.in_ok-copy.ensures in
    ap (λ keys. let y : Interval = record { start = x.start; keys = keys } in set items i y) put
    ∙ map_over_more (with_key key) c.args.intervals.now items i x (omega arith) c.loop-interval.invariant (get_or_default items i c.interval-item.result x (omega arith))
