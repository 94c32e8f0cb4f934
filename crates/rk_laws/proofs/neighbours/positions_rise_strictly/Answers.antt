use Rattle.rk_laws.proofs.Places.{positions_rise}
use Rattle.rk_laws.proofs.neighbours.positions_rise_strictly.Goals as goal

pub returns : goal.returns
returns c = positions_rise
