use Rattle.rk_log.proofs.Grouping.{ReadSoFar}
use Rattle.rk_log.proofs.recovery.groups_in.Given as goal

abbrev pub invariant-loop-record : goal.invariant-loop-record
invariant-loop-record l = ReadSoFar l.records l.record-index l.groups.items
