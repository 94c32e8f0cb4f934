use Rattle.rk_laws.proofs.Moved.{changes_of_covers}
use Rattle.rk_laws.proofs.same_cells.changes_of_span_are_those_of_the_covers.Goals as goal

pub returns : goal.returns
returns c = changes_of_covers
