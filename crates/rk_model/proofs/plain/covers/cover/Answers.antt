use Rattle.std.proofs.Common.{◌∙◌, sym, ap, drop, arith}
use Rattle.rk_model.specs.Covers.{insert_pair}
use Rattle.rk_model.proofs.Pairs.{cover_of_part, one_pair_more}
use Rattle.rk_model.proofs.Walks.{drop_before}
use Rattle.rk_model.proofs.plain.covers.cover.Goals as goal

pub loop-i-preserved-in-Continue-branch-3 : goal.loop-i-preserved-in-Continue-branch-3
loop-i-preserved-in-Continue-branch-3 c =
    let es = c.args.entries.now in
    let x = c.args.x.now in
    c.in_ok-insert.ensures
    ∙ ap (insert_pair c.in-Some.pair) c.loop-i.invariant
    ∙ sym (one_pair_more es x c.index-entries-i.result (drop c.loop-i.i es) c.in-Some.pair (sym c.is_over.ensures ∙ c.if-is_over.true) (sym c.in_ok-pair.ensures ∙ c.in-Some.is))
    ∙ sym (ap (cover_of_part es x) (drop_before es c.loop-i.i c.index-entries-i.result (omega arith) (omega arith) c.index-entries-i.is))
