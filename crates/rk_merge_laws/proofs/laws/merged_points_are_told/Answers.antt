use Rattle.rk_merge_laws.proofs.Told.{points_told}
use Rattle.rk_merge_laws.proofs.laws.merged_points_are_told.Goals as goal

pub returns : goal.returns
returns c = points_told
