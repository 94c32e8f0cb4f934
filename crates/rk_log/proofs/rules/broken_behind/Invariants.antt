use Rattle.rk_log.specs.Logs.{later}
use Rattle.rk_log.proofs.Passing.{PassedSoFar}
use Rattle.rk_log.proofs.rules.broken_behind.Given as goal

abbrev pub invariant-loop-logged : goal.invariant-loop-logged
invariant-loop-logged l = PassedSoFar l.flushed (later l.flushed l.taken) l.groups l.logged-index l.due
