use Rattle.std.proofs.Common.{◌≡◌, length}
use Rattle.rk_script.specs.Lines.{remaining}
use Rattle.rk_program.proofs.Transcripts.{Going}
use Rattle.rk_program.proofs.program.do_lines.Given as goal

-- the lines before those that are left are done
abbrev pub invariant-loop-text : goal.invariant-loop-text
invariant-loop-text g l = record {
  going : Going l.session (g.K.Sink.written l.initial.sink) (g.K.Sink.written l.sink) l.fn.file (remaining l.lines);
  no_fault : g.K.Sink.fault_count l.sink ≡ g.K.Sink.fault_count l.initial.sink;
  vault : l.session.vault ≡ l.initial.session.vault;
}

abbrev pub decreases-loop-text : goal.decreases-loop-text
decreases-loop-text g l = length l.lines.left
