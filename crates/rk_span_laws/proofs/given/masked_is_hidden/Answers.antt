use Rattle.rk_span_laws.proofs.Giving.{masked_is_hidden}
use Rattle.rk_span_laws.proofs.given.masked_is_hidden.Goals as goal

pub returns : goal.returns
returns c = masked_is_hidden
