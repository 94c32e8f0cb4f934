use Rattle.std.proofs.Common.{take}
use Rattle.rk_coalesce.specs.Places.{TellsNewest}
use Rattle.rk_coalesce.specs.Numbers.{newest_at}
use Rattle.rk_coalesce.proofs.shadow.newest_of.Given as goal

abbrev pub invariant-loop-key : goal.invariant-loop-key
invariant-loop-key l = TellsNewest l.stripes (take l.key-index l.keys) (newest_at l.newest)
