use Rattle.rk_laws.proofs.Moved.{moves_to_keys}
use Rattle.rk_laws.proofs.same_cells.a_move_leads_to_a_key_within_the_bounds.Goals as goal

pub returns : goal.returns
returns c = moves_to_keys
