use Rattle.rk_laws.proofs.Moved.{positions_of_cells}
use Rattle.rk_laws.proofs.same_cells.positions_are_those_of_the_cells.Goals as goal

pub returns : goal.returns
returns c = positions_of_cells
