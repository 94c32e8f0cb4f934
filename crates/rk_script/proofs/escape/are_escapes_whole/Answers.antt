use Rattle.rk_script.proofs.Escapes.{whole_more}
use Rattle.rk_script.proofs.escape.are_escapes_whole.Goals as goal

pub loop-after-preserved : goal.loop-after-preserved
loop-after-preserved c =
    whole_more c.loop-after.rest.now c.in-Some.after.now c.args.word.now c.in-Some.field-0-0 c.in-Some.ensures.first c.loop-after.invariant
