use Rattle.std.proofs.Common.{rules}
use Rattle.rk_lock.proofs.Passing.{splits}
use Rattle.rk_lock.proofs.turn.Turn.split.Goals as goal

pub split_seat-seat-requires : goal.split_seat-seat-requires
split_seat-seat-requires g c = (search rules, search rules, splits _ _ _ _ c.requires.1.0)
