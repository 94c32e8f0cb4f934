use Rattle.std.proofs.Common.{◌≡◌, length}
use Rattle.rk_batch.specs.Grammar.{BeginsWith}
use Rattle.rk_batch.proofs.batch.Batch.decode.Given as goal

abbrev pub invariant-loop : goal.invariant-loop
invariant-loop l = BeginsWith l.bytes l.count l.batch l.rest × (length l.batch ≡ l.counter)
