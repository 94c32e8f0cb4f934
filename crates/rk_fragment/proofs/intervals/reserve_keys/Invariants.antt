use Rattle.std.proofs.Common.{◌≡◌}
use Rattle.rk_fragment.proofs.intervals.reserve_keys.Given as goal

abbrev pub invariant-loop-i : goal.invariant-loop-i
invariant-loop-i l = l.intervals ≡ l.fn.intervals
