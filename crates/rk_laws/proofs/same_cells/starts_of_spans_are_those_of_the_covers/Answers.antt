use Rattle.rk_laws.proofs.Agree.{span_starts_of_covers}
use Rattle.rk_laws.proofs.same_cells.starts_of_spans_are_those_of_the_covers.Goals as goal

pub returns : goal.returns
returns c = span_starts_of_covers
