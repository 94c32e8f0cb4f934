use Rattle.std.specs.Option.{option_copied}
use Rattle.rk_spanmerge.specs.Moves.{counts_any}
use Rattle.rk_spanmerge.proofs.Found.{Found}
use Rattle.rk_spanmerge.proofs.find.outermost.Given as goal

abbrev pub invariant-loop-i : goal.invariant-loop-i
invariant-loop-i g l = Found g.S.Sorted.listing l.sources l.forward counts_any l.i (option_copied l.found)
