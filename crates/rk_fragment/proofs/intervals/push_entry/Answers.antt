use Rattle.std.proofs.Common.{◌≡◌, ◌∙◌, [], ◌∷◌, Some, sym, get_or}
use Rattle.rk_model.specs.Spans.{op_ends}
use Rattle.rk_fragment.specs.Fragments.{range_key}
use Rattle.rk_fragment.specs.Intervals.{with_entry}
use Rattle.rk_fragment.proofs.Parts.{same_map, without_key, point_has_no_key, put_between, put_nowhere}
use Rattle.rk_fragment.proofs.intervals.push_entry.Goals as goal
use Rattle.rk_fragment.proofs.intervals.push_entry.Goals.{then-from-to+in_ok-push_key, else-from-to}

pub returns-in_default : goal.returns-in_default
returns-in_default c =
    let e = c.args.entry.now in
    sym (same_map (λ i. i) (with_entry e) c.args.intervals.now (λ k d l. without_key e (get_or c.args.intervals.now k d) (point_has_no_key e.seq e.op c.in_default.ensures)))

pub returns : goal.returns
returns c =
    let e = c.args.entry.now in
    let all = c.args.intervals.now in
    let s = c.in-Some.start.now in
    let t = c.in-Some.end.now in
    let key = c.in-Some-2.key in
    let from = c.first_from-from in
    let to = c.first_from-to in
    let span : op_ends e.op ≡ s ∷ t ∷ [] = c.in-Some.ensures in
    let has : range_key e.seq e.op ≡ Some key = sym c.in_ok-key.ensures ∙ c.in-Some-2.is in
    elim c.if-from-to.branch [
      | then-from-to+in_ok-push_key w ↦ w.intervals-is ∙ put_between e s t span all from.result to.result from.ensures.point to.ensures.point key w.push_key.new.intervals has w.if-from-to.true w.in_ok-push_key.ensures
      | else-from-to w ↦ w.intervals-is ∙ sym (put_nowhere e s t span all from.result to.result from.ensures.point to.ensures.point w.if-from-to.false)
    ]
