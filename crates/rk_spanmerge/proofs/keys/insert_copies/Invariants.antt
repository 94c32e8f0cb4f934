use Rattle.std.proofs.Common.{◌≡◌, drop}
use Rattle.rk_spanmerge.specs.Moves.{insert_all}
use Rattle.rk_spanmerge.proofs.keys.insert_copies.Given as goal

abbrev pub invariant-loop-i : goal.invariant-loop-i
invariant-loop-i l = l.keys ≡ insert_all (drop l.i l.more) l.fn.keys
