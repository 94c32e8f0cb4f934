use Rattle.std.proofs.Common.{◌≡◌, ◌++◌, take, drop, map}
use Rattle.rk_fragment.specs.Intervals.{with_key}
use Rattle.rk_fragment.proofs.intervals.push_key.Given as goal

abbrev pub invariant-loop-interval : goal.invariant-loop-interval
invariant-loop-interval l = l.interval-items ≡ map (with_key l.key) (take l.interval-index l.initial.interval-items) ++ drop l.interval-index l.initial.interval-items
