use Rattle.std.proofs.Common.{◌≡◌, ◌++◌, length, take}
use Rattle.std.specs.Prelude.{flat_map}
use Rattle.byteorder.specs.Endian.{big_bytes}
use Rattle.rk_manifest.specs.Versions.{table_bytes}
use Rattle.rk_manifest.proofs.encode.push_level.Given as goal

abbrev pub invariant-loop-table : goal.invariant-loop-table
invariant-loop-table l = l.out.items ≡ l.fn.out.items ++ (big_bytes 4 (length l.table-items) ++ flat_map table_bytes (take l.table-index l.table-items))
