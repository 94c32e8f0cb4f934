use Rattle.rk_laws.proofs.Alike.{point_of_elements}
use Rattle.rk_laws.proofs.same_entries.point_is_that_of_its_operations_in_any_order.Goals as goal

pub returns : goal.returns
returns c = point_of_elements
