use Rattle.rk_machine.proofs.Runs.{goes_on}
use Rattle.rk_machine.proofs.laws.the_history_goes_on.Goals as goal

pub returns : goal.returns
returns c = goes_on
