use Rattle.std.proofs.Common.{◌≡◌, ◌+◌, drop}
use Rattle.std.specs.Ordering.{is_lt}
use Rattle.rk_model.specs.Cuts.{count_before}
use Rattle.rk_model.specs.Sources.{entry_cmp}
use Rattle.rk_mem.proofs.merge.count_before.Given as goal

abbrev pub invariant-loop-i : goal.invariant-loop-i
invariant-loop-i l =
    count_before (λ point. is_lt (entry_cmp point l.entry)) l.points ≡ l.i + count_before (λ point. is_lt (entry_cmp point l.entry)) (drop l.i l.points)
