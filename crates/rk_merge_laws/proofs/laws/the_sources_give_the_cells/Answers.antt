use Rattle.rk_merge_laws.proofs.Cells.{given_has_the_cells}
use Rattle.rk_merge_laws.proofs.laws.the_sources_give_the_cells.Goals as goal

pub returns : goal.returns
returns c = given_has_the_cells
