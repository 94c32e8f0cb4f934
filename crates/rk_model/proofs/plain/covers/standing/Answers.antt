use Rattle.std.proofs.Common.{◌∙◌, sym}
use Rattle.rk_model.specs.Covers.{over}
use Rattle.rk_model.proofs.Pairs.{standing_is}
use Rattle.rk_model.proofs.plain.covers.standing.Goals as goal

pub returns-then-is_ended : goal.returns-then-is_ended
returns-then-is_ended c =
    sym (standing_is (over c.args.x.now c.args.entries.now) c.args.e.now.seq _ _ _ _ _ _ c.in-RangeSet.is (sym c.if-is_ended.true ∙ c.is_ended.ensures))

pub returns-in_ok-copy-in-RangeSet : goal.returns-in_ok-copy-in-RangeSet
returns-in_ok-copy-in-RangeSet c =
    let e = standing_is (over c.args.x.now c.args.entries.now) c.args.e.now.seq _ _ _ _ _ _ c.in-RangeSet.is (sym c.if-is_ended.false ∙ c.is_ended.ensures) in
    rw (c.copy.ensures, c.in_ok-copy-in-RangeSet.ensures) (sym e)
