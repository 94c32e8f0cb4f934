use Rattle.rk_span_laws.proofs.Covers.{no_span_no_cover}
use Rattle.rk_span_laws.proofs.joined.a_key_of_no_span_has_no_cover.Goals as goal

pub returns : goal.returns
returns c = no_span_no_cover
