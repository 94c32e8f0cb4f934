use Rattle.rk_log.proofs.Reading.{ReadSoFar}
use Rattle.rk_log.proofs.group.batches_at.Given as goal

abbrev pub invariant-loop : goal.invariant-loop
invariant-loop l = ReadSoFar l.bytes l.counter l.batches.items l.rest
