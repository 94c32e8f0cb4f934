use Rattle.rk_laws.proofs.Keeping.{kept_at_bottom_gives_cells}
use Rattle.rk_laws.proofs.kept_cells.entries_kept_at_the_bottom_give_the_same_cells.Goals as goal

pub returns : goal.returns
returns c = kept_at_bottom_gives_cells
