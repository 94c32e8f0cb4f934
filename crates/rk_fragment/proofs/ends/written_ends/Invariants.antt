use Rattle.std.proofs.Common.{◌≡◌, drop}
use Rattle.rk_fragment.specs.Fragments.{written}
use Rattle.rk_fragment.proofs.ends.written_ends.Given as goal

abbrev pub invariant-loop-i : goal.invariant-loop-i
invariant-loop-i l = l.ends.keys ≡ written (drop l.i l.entries)
