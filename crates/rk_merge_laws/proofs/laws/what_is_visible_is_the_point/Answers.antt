use Rattle.rk_merge_laws.proofs.PointValues.{visible_is_the_point}
use Rattle.rk_merge_laws.proofs.laws.what_is_visible_is_the_point.Goals as goal

pub returns : goal.returns
returns c = visible_is_the_point
