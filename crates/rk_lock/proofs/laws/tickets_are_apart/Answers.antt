use Rattle.rk_lock.proofs.Passing.{tickets_apart}
use Rattle.rk_lock.proofs.laws.tickets_are_apart.Goals as goal

pub returns : goal.returns
returns g c = tickets_apart g.T.Kept.ticket g.T.Kept.stands
