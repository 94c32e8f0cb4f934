use Rattle.rk_laws.proofs.After.{point_after_entry}
use Rattle.rk_laws.proofs.newer.point_after_an_entry_is_that_of_the_point_before.Goals as goal

pub returns : goal.returns
returns c = point_after_entry
