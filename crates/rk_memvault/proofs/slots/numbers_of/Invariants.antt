use Rattle.std.proofs.Common.{◌≡◌, ◌++◌}
use Rattle.rk_memvault.specs.Slots.{numbers_in}
use Rattle.rk_memvault.proofs.slots.numbers_of.Given as goal

abbrev pub invariant-loop-number : goal.invariant-loop-number
invariant-loop-number l = l.numbers.items ++ numbers_in l.number-iterator ≡ numbers_in l.slots.entries
