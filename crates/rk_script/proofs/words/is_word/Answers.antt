use Rattle.std.proofs.Common.{◌∙◌}
use Rattle.rk_script.proofs.Texts.{same_bytes_is}
use Rattle.rk_script.proofs.words.is_word.Goals as goal

pub returns : goal.returns
returns c = c.eq.ensures ∙ same_bytes_is c.args.word.now c.args.text.now
