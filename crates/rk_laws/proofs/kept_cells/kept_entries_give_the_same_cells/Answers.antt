use Rattle.rk_laws.proofs.Keeping.{kept_gives_cells}
use Rattle.rk_laws.proofs.kept_cells.kept_entries_give_the_same_cells.Goals as goal

pub returns : goal.returns
returns c = kept_gives_cells
