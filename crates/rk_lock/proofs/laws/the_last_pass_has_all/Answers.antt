use Rattle.rk_lock.proofs.Passing.{last_has_all}
use Rattle.rk_lock.proofs.laws.the_last_pass_has_all.Goals as goal

pub returns : goal.returns
returns g c = last_has_all g.T.Kept.ticket g.T.Kept.stands
