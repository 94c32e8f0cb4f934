use Rattle.rk_laws.proofs.Widest.{span_has_one_cover}
use Rattle.rk_laws.proofs.neighbours.each_key_of_a_span_has_its_cover.Goals as goal

pub returns : goal.returns
returns c = span_has_one_cover
