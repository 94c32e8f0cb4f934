use Rattle.rk_laws.proofs.Widest.{span_of_each_cover}
use Rattle.rk_laws.proofs.neighbours.each_cover_has_a_span.Goals as goal

pub returns : goal.returns
returns c = span_of_each_cover
