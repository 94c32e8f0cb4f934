use Rattle.std.proofs.Common.{◌≡◌, [], map}
use Rattle.rk_fragment.proofs.intervals.bare_intervals.Given as goal

abbrev pub invariant-loop-start : goal.invariant-loop-start
invariant-loop-start l = l.intervals.items ≡ map (λ a. record { start = a; keys = [] }) l.yielded
