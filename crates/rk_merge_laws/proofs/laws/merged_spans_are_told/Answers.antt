use Rattle.rk_merge_laws.proofs.Told.{spans_told}
use Rattle.rk_merge_laws.proofs.laws.merged_spans_are_told.Goals as goal

pub returns : goal.returns
returns c = spans_told
