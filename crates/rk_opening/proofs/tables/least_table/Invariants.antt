use Rattle.rk_opening.proofs.Numbers.{NoneBefore}
use Rattle.rk_opening.proofs.tables.least_table.Given as goal

abbrev pub invariant-loop-number : goal.invariant-loop-number
invariant-loop-number g l = NoneBefore l.number-items l.number-index
