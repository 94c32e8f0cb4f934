use Rattle.rk_merge_laws.proofs.Covers.{merged_span_has_the_cover}
use Rattle.rk_merge_laws.proofs.laws.a_merged_span_has_the_cover.Goals as goal

pub returns : goal.returns
returns c = merged_span_has_the_cover
