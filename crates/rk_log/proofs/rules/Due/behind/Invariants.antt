use Rattle.std.proofs.Common.{◌≡◌, ◌+◌, take}
use Rattle.rk_log.specs.Logs.{later, due_behind}
use Rattle.rk_log.proofs.rules.Due.behind.Given as goal

abbrev pub invariant-loop-logged : goal.invariant-loop-logged
invariant-loop-logged l = l.in_turn ≡ due_behind (l.flushed + 1) (later l.flushed (take l.logged-index l.taken))
