use Rattle.rk_laws.proofs.Plain.{spans_over_prefix}
use Rattle.rk_laws.proofs.prefixes.spans_over_a_key_are_those_over_its_prefix.Goals as goal

pub returns : goal.returns
returns c = spans_over_prefix
