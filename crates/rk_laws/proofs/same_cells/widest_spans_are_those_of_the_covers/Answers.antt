use Rattle.rk_laws.proofs.Agree.{spans_of_covers}
use Rattle.rk_laws.proofs.same_cells.widest_spans_are_those_of_the_covers.Goals as goal

pub returns : goal.returns
returns c = spans_of_covers
