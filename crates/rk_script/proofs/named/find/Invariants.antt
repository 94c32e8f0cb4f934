use Rattle.std.proofs.Common.{◌≡◌, map, take, false}
use Rattle.rk_script.specs.Naming.{is_called}
use Rattle.rk_script.proofs.named.find.Given as goal

-- none of the things before this one has the name
abbrev pub invariant-loop-i : goal.invariant-loop-i
invariant-loop-i g l = is_called l.name (map g.T.Named.called (take l.i l.things)) ≡ false
