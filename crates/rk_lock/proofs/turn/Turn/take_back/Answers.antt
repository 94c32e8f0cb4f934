use Rattle.std.proofs.Common.{rules}
use Rattle.rk_lock.proofs.Passing.{joins}
use Rattle.rk_lock.proofs.turn.Turn.take_back.Goals as goal

pub join_seat-requires : goal.join_seat-requires
join_seat-requires g c = (search rules, search rules, search rules, search rules, joins _ _ _ _ _ _ c.requires.pass.1.0 c.requires.other.1.0 c.requires.split)
