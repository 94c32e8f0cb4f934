use Rattle.std.proofs.Common.{◌≡◌, length}
use Rattle.rk_program.proofs.OutputLemmas.{IsWritten}
use Rattle.rk_program.proofs.output.write_all.Given as goal

-- what was written is what stands before the rest
abbrev pub invariant-loop-rest : goal.invariant-loop-rest
invariant-loop-rest g l = record {
  written : IsWritten (g.K.Sink.written l.initial.sink) (g.K.Sink.written l.sink) l.bytes l.rest;
  no_fault : g.K.Sink.fault_count l.sink ≡ g.K.Sink.fault_count l.initial.sink;
}

abbrev pub decreases-loop-rest : goal.decreases-loop-rest
decreases-loop-rest g l = length l.rest
