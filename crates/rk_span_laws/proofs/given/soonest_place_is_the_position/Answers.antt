use Rattle.rk_span_laws.proofs.Places.{soonest_place_is_the_position}
use Rattle.rk_span_laws.proofs.given.soonest_place_is_the_position.Goals as goal

pub returns : goal.returns
returns c = soonest_place_is_the_position
