use Rattle.std.proofs.Common.{◌≡◌, drop}
use Rattle.std.specs.List.{filter_map}
use Rattle.rk_model.specs.Covers.{over, standing, by_suffix}
use Rattle.rk_model.proofs.plain.covers.cover.Given as goal

abbrev pub invariant-loop-i : goal.invariant-loop-i
invariant-loop-i l =
    l.pairs ≡ by_suffix (filter_map (λ e. standing (over l.x l.entries) e.seq e.op) (over l.x (drop l.i l.entries)))
