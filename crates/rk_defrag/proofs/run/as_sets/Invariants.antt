use Rattle.std.proofs.Common.{◌≡◌, map, take}
use Rattle.rk_span_laws.specs.Joined.{as_set}
use Rattle.rk_defrag.proofs.run.as_sets.Given as goal

abbrev pub invariant-loop-pair : goal.invariant-loop-pair
invariant-loop-pair l = l.keys.items ≡ map (as_set l.n) (take l.pair-index l.fn.pairs.items)
