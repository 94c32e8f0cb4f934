use Rattle.std.proofs.Common.{◌-◌, get_or, ◌∙◌, sym, ap, drop, arith}
use Rattle.rk_model.proofs.Ends.{ends_from, with_end, two_ends_more}
use Rattle.rk_model.proofs.Walks.{drop_before_at}
use Rattle.rk_model.proofs.plain.ends.written_ends.Goals as goal

pub loop-i-preserved-in-Continue-branch-2 : goal.loop-i-preserved-in-Continue-branch-2
loop-i-preserved-in-Continue-branch-2 c =
    let es = c.args.entries.now in
    let o = c.args.options.now in
    let e = get_or es (c.loop-i.i - 1) c.index-entries-i.result in
    c.in_ok-insert_inside-2.ensures
    ∙ ap (with_end o c.in-Some.start.now) (c.in_ok-insert_inside.ensures ∙ ap (with_end o c.in-Some.end.now) c.loop-i.invariant)
    ∙ sym (two_ends_more o e (drop c.loop-i.i es) _ _ c.in-Some.ensures)
    ∙ sym (ap (ends_from o) (drop_before_at es c.loop-i.i c.index-entries-i.result (omega arith) (omega arith)))
