use Rattle.std.proofs.Common.{rules}
use Rattle.rk_lock.proofs.Passing.{compares}
use Rattle.rk_lock.proofs.turn.Turn.compare.Goals as goal

pub load-requires : goal.load-requires
load-requires g c = (search rules, search rules, compares _ _ _ _ _ c.requires.2)
