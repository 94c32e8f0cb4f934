use Rattle.rk_laws.proofs.Moved.{views_of_cells}
use Rattle.rk_laws.proofs.same_cells.an_iterator_shows_the_cells_alone.Goals as goal

pub returns : goal.returns
returns c = views_of_cells
