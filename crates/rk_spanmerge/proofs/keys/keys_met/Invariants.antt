use Rattle.std.proofs.Common.{◌≡◌, drop}
use Rattle.std.specs.List.{flat_map}
use Rattle.rk_fragment.specs.Fragments.{newest_first}
use Rattle.rk_spanmerge.specs.Moves.{keys_met}
use Rattle.rk_spanmerge.proofs.keys.keys_met.Given as goal

abbrev pub invariant-loop-i : goal.invariant-loop-i
invariant-loop-i g l = l.keys ≡ newest_first (flat_map (λ s. keys_met l.forward l.key (g.S.Sorted.standing s).here) (drop l.i l.sources))
