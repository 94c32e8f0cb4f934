use Rattle.rk_iter_laws.proofs.Showing.{moves_alike}
use Rattle.rk_iter_laws.proofs.laws.an_iterator_moves_as_the_machine_does.Goals as goal

pub returns : goal.returns
returns c = moves_alike
