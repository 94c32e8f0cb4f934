use Rattle.std.proofs.Common.{◌≡◌, drop}
use Rattle.rk_model.specs.Plain.{shown_points, put_in}
use Rattle.rk_model.proofs.plain.positions.insert_points.Given as goal

abbrev pub invariant-loop-i : goal.invariant-loop-i
invariant-loop-i l = l.keys.items ≡ put_in (shown_points l.entries l.options (drop l.i l.entries)) l.initial.keys.items
