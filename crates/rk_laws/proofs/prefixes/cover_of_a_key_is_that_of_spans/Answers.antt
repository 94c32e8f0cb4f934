use Rattle.rk_laws.proofs.Plain.{cover_of_spans}
use Rattle.rk_laws.proofs.prefixes.cover_of_a_key_is_that_of_spans.Goals as goal

pub returns : goal.returns
returns c = cover_of_spans
