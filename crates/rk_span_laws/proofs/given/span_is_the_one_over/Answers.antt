use Rattle.rk_span_laws.proofs.Giving.{span_is_the_one_over}
use Rattle.rk_span_laws.proofs.given.span_is_the_one_over.Goals as goal

pub returns : goal.returns
returns c = span_is_the_one_over
