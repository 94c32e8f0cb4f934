use Rattle.std.proofs.Common.{◌≡◌, ◌++◌, take, drop}
use Rattle.rk_model.specs.Spans.{insert_key}
use Rattle.rk_model.proofs.plain.keys.place_of.Given as goal

abbrev pub invariant-loop-i : goal.invariant-loop-i
invariant-loop-i l = insert_key l.x l.keys ≡ take l.i l.keys ++ insert_key l.x (drop l.i l.keys)
