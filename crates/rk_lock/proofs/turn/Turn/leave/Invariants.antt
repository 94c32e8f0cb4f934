use Rattle.std.proofs.Common.{◌≡◌}
use Rattle.rk_lock.proofs.turn.Turn.leave.Given as goal

abbrev pub ghosts-leave_as : goal.ghosts-leave_as
ghosts-leave_as g a = record { told = λ e. e ≡ g.event }
