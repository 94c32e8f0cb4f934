use Rattle.rk_span_laws.proofs.Joining.{joined_stay_joined}
use Rattle.rk_span_laws.proofs.joined.joined_spans_stay_joined.Goals as goal

pub returns : goal.returns
returns c = joined_stay_joined
