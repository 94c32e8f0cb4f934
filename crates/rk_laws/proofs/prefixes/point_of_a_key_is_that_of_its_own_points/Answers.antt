use Rattle.rk_laws.proofs.Plain.{point_of_its_own}
use Rattle.rk_laws.proofs.prefixes.point_of_a_key_is_that_of_its_own_points.Goals as goal

pub returns : goal.returns
returns c = point_of_its_own
