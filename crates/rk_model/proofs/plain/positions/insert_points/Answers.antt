use Rattle.std.proofs.Common.{◌∙◌, drop, sym, ap, arith}
use Rattle.std.specs.Prelude.{◌&&◌, filter, is_some}
use Rattle.rk_model.specs.Spans.{in_bounds}
use Rattle.rk_model.specs.Positions.{put_key, shown}
use Rattle.rk_model.specs.Plain.{shown_points, put_in}
use Rattle.rk_model.proofs.Positions.{points_more}
use Rattle.rk_model.proofs.Walks.{drop_before}
use Rattle.rk_model.proofs.plain.positions.insert_points.Goals as goal

pub loop-i-preserved : goal.loop-i-preserved
loop-i-preserved c =
    let es = c.args.entries.now in
    let o = c.args.options.now in
    let keys = c.args.keys.now.items in
    let e = c.index-entries-i.result in
    c.in_ok-insert_point.ensures
    ∙ ap (put_in (filter (λ x. in_bounds o x && is_some (shown es o x)) (put_key e.op))) c.loop-i.invariant
    ∙ sym (points_more es o e (drop c.loop-i.i es) keys)
    ∙ sym (ap (λ part. put_in (shown_points es o part) keys) (drop_before es c.loop-i.i e (omega arith) (omega arith) c.index-entries-i.is))
