use Rattle.rk_lock.proofs.Passing.{one_history}
use Rattle.rk_lock.proofs.laws.passes_see_one_history.Goals as goal

pub returns : goal.returns
returns g c = one_history g.T.Kept.ticket g.T.Kept.stands
