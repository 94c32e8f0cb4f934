use Rattle.rk_span_laws.proofs.Covers.{span_has_its_cover}
use Rattle.rk_span_laws.proofs.joined.spans_have_their_covers.Goals as goal

pub returns : goal.returns
returns c = span_has_its_cover
