use Rattle.std.specs.Prelude.{option_map}
use Rattle.rk_manifest.specs.Versions.{version}
use Rattle.rk_manifest.proofs.Newest.{ReadSoFar}
use Rattle.rk_manifest.proofs.recover.newest_version.Given as goal

abbrev pub invariant-loop-record : goal.invariant-loop-record
invariant-loop-record l = ReadSoFar l.records l.record-index (option_map version l.newest) l.floor
