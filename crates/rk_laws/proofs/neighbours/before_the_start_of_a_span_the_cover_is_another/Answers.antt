use Rattle.rk_laws.proofs.Widest.{before_span_differs}
use Rattle.rk_laws.proofs.neighbours.before_the_start_of_a_span_the_cover_is_another.Goals as goal

pub returns : goal.returns
returns c = before_span_differs
