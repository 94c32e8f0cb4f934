use Rattle.std.proofs.Common.{◌≡◌, None, map}
use Rattle.rk_iter.proofs.inside.bounded.Given as goal

abbrev pub invariant-loop-source : goal.invariant-loop-source
invariant-loop-source g l = l.all.items ≡ map (λ p. record { source = p; lower = l.fn.options.lower; upper = l.fn.options.upper; facing = None }) l.yielded
