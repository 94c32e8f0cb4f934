use Rattle.rk_laws.proofs.Places.{cursor_within_bounds}
use Rattle.rk_laws.proofs.neighbours.a_cursor_at_a_key_is_within_the_bounds.Goals as goal

pub returns : goal.returns
returns c = cursor_within_bounds
