use Rattle.rk_laws.proofs.Widest.{span_end_differs}
use Rattle.rk_laws.proofs.neighbours.at_the_end_of_a_span_the_cover_is_another.Goals as goal

pub returns : goal.returns
returns c = span_end_differs
