use Rattle.rk_laws.proofs.Moved.{reports_of_cells}
use Rattle.rk_laws.proofs.same_cells.reports_are_those_of_the_cells.Goals as goal

pub returns : goal.returns
returns c = reports_of_cells
