use Rattle.std.proofs.Common.{◌≡◌, drop}
use Rattle.rk_log.specs.Logs.{later}
use Rattle.rk_log.proofs.rules.first_later.Given as goal

abbrev pub invariant-loop-logged : goal.invariant-loop-logged
invariant-loop-logged l = later l.flushed l.groups ≡ later l.flushed (drop l.logged-index l.groups)
