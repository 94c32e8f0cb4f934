use Rattle.std.proofs.Common.{◌≡◌}
use Rattle.rk_model.proofs.Ends.{ends_of_part}
use Rattle.rk_model.proofs.plain.ends.written_ends.Given as goal

abbrev pub invariant-loop-i : goal.invariant-loop-i
invariant-loop-i l = l.keys.items ≡ ends_of_part l.options l.i l.entries
