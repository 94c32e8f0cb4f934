use Rattle.rk_script.proofs.Printing.{reads_back}
use Rattle.rk_script.proofs.escape.reads_back_what_is_printed.Goals as goal

pub returns : goal.returns
returns c = reads_back
