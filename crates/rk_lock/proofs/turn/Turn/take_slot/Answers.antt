use Rattle.std.proofs.Common.{rules}
use Rattle.rk_lock.proofs.Steps.{takes_value}
use Rattle.rk_lock.proofs.turn.Turn.take_slot.Goals as goal

pub load-requires : goal.load-requires
load-requires g c = (search rules, search rules, takes_value _ _ _ _ _ _ _ c.requires.1)
