use Rattle.std.proofs.Common.{rules}
use Rattle.rk_lock.proofs.Steps.{looks}
use Rattle.rk_lock.proofs.turn.Turn.look.Goals as goal

pub load-requires : goal.load-requires
load-requires g c = (search rules, search rules, looks _ _ _ _ _ _ c.requires.1)
