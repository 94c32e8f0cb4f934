use Rattle.rk_program.proofs.EndLemmas.{one_word}
use Rattle.rk_program.proofs.program.is_run.Goals as goal

pub returns-in-len1 : goal.returns-in-len1
returns-in-len1 c =
    rw (c.eq.ensures, c.as_slice.ensures)
    (one_word c.args.words.now c.word-item.result c.as_bytes.result.now c.in-len1.len_at_least c.in-len1.len_below c.word-item.is c.as_bytes.ensures.value)
