use Rattle.std.proofs.Common.{◌≡◌}
use Rattle.std.specs.Option.{option_copied}
use Rattle.rk_pointmerge.specs.Merges.{shown}
use Rattle.rk_pointmerge.proofs.Bests.{BestOf}
use Rattle.rk_pointmerge.proofs.nearest.nearest.Given as goal

abbrev pub invariant-loop-i : goal.invariant-loop-i
invariant-loop-i g l = BestOf g.S.Sorted.standing l.sources l.forward l.i l.best × (option_copied l.nearest ≡ shown g.S.Sorted.standing l.sources l.best)
