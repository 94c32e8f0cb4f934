use Rattle.std.proofs.Common.{◌∙◌, Some, sym, ap}
use Rattle.rk_script.proofs.Escapes.{unescaped_done, unescaped_more}
use Rattle.rk_script.proofs.escape.unescape.Goals as goal

pub returns : goal.returns
returns c =
    unescaped_done c.loop-byte.bytes.items c.loop-byte.rest.now c.args.word.now c.requires (sym c.is_word.ensures ∙ c.if-is_word.false) c.in_default.ensures.none c.loop-byte.invariant
    ∙ ap Some (sym c.from_vec-2.ensures)

pub loop-byte-preserved : goal.loop-byte-preserved
loop-byte-preserved c =
    unescaped_more c.loop-byte.bytes.items c.push.new.self.items c.loop-byte.rest.now c.in-Some.after.now c.args.word.now c.in-Some.byte c.in_ok-push.ensures.items c.in-Some.ensures.first c.loop-byte.invariant
