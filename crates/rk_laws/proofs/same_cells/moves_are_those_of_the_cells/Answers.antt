use Rattle.rk_laws.proofs.Moved.{moves_of_cells}
use Rattle.rk_laws.proofs.same_cells.moves_are_those_of_the_cells.Goals as goal

pub returns : goal.returns
returns c = moves_of_cells
