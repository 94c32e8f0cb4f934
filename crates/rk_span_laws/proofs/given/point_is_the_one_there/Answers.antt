use Rattle.rk_span_laws.proofs.Giving.{point_is_the_one_there}
use Rattle.rk_span_laws.proofs.given.point_is_the_one_there.Goals as goal

pub returns : goal.returns
returns c = point_is_the_one_there
