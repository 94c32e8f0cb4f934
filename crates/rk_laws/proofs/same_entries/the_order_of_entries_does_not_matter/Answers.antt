use Rattle.rk_laws.proofs.Alike.{cells_in_any_order}
use Rattle.rk_laws.proofs.same_entries.the_order_of_entries_does_not_matter.Goals as goal

pub returns : goal.returns
returns c = cells_in_any_order
