use Rattle.rk_span_laws.proofs.Joining.{joined_are_in_order}
use Rattle.rk_span_laws.proofs.joined.joined_spans_are_in_order.Goals as goal

pub returns : goal.returns
returns c = joined_are_in_order
