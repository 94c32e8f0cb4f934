use Rattle.rk_span_laws.proofs.Joining.{joined_have_the_covers}
use Rattle.rk_span_laws.proofs.joined.joined_spans_have_the_covers.Goals as goal

pub returns : goal.returns
returns c = joined_have_the_covers
