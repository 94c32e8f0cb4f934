use Rattle.std.proofs.Common.{rules}
use Rattle.rk_lock.proofs.Steps.{gives_back}
use Rattle.rk_lock.proofs.turn.Turn.give_back.Goals as goal

pub load-requires : goal.load-requires
load-requires g c = (search rules, search rules, gives_back _ _ _ _ _ _ _ c.requires.pass.1 c.requires.value.1 c.requires.value.2)
