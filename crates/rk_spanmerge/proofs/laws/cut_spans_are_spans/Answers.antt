use Rattle.rk_spanmerge.proofs.Cutting.{cut_spans-sound}
use Rattle.rk_spanmerge.proofs.laws.cut_spans_are_spans.Goals as goal

pub returns : goal.returns
returns c = cut_spans-sound
