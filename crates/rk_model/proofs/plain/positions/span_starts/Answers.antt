use Rattle.std.proofs.Common.{◌-◌, ◌∙◌, get_or, drop, map, sym, ap, arith}
use Rattle.std.specs.Prelude.{◌&&◌, if◌then◌else◌}
use Rattle.rk_model.specs.Spans.{in_bounds, insert_key, sorted_keys}
use Rattle.rk_model.specs.Positions.{begins_span}
use Rattle.rk_model.specs.Plain.{starts_among}
use Rattle.rk_model.proofs.Positions.{start_more}
use Rattle.rk_model.proofs.Walks.{drop_before_at}
use Rattle.rk_model.proofs.plain.positions.span_starts.Goals as goal

pub loop-i-preserved : goal.loop-i-preserved
loop-i-preserved c =
    let es = c.args.entries.now in
    let o = c.args.options.now in
    let ends = c.args.ends.now in
    let a = get_or ends (c.loop-i.i - 1) c.index-ends-i.result in
    c.in_ok-insert_start.ensures
    ∙ ap (λ keys. if in_bounds o a.key && begins_span es o a.key then insert_key a.key keys else keys) c.loop-i.invariant
    ∙ sym (start_more es o a (drop c.loop-i.i ends))
    ∙ sym (ap (λ part. sorted_keys (starts_among es o (map (λ a. a.key) part))) (drop_before_at ends c.loop-i.i c.index-ends-i.result (omega arith) (omega arith)))
