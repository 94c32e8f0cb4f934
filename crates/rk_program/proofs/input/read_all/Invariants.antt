use Rattle.std.proofs.Common.{◌≡◌, ◌+◌, ◌-◌, ◌≤◌, vec_len}
use Rattle.std.specs.Io.KnownBytes.{Consumes}
use Rattle.rk_program.specs.declared.input.TheConstants.{MOST_FILE_BYTES}
use Rattle.rk_program.proofs.input.read_all.Given as goal

-- what was read is what the source has given
abbrev pub invariant-loop-file : goal.invariant-loop-file
invariant-loop-file g l = record {
  given : Consumes (g.S.Source.left l.initial.source) (g.S.Source.left l.source) l.file.items;
  no_fault : g.S.Source.fault_count l.source ≡ g.S.Source.fault_count l.initial.source;
  within : vec_len l.file ≤ MOST_FILE_BYTES + 1;
}

abbrev pub decreases-loop-file : goal.decreases-loop-file
decreases-loop-file g l = MOST_FILE_BYTES + 1 - vec_len l.file
