use Rattle.rk_laws.proofs.Widest.{span_of_its_keys}
use Rattle.rk_laws.proofs.neighbours.each_key_of_a_span_has_this_span.Goals as goal

pub returns : goal.returns
returns c = span_of_its_keys
