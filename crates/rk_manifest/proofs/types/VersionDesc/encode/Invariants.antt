use Rattle.std.proofs.Common.{◌≡◌, ◌++◌, take}
use Rattle.std.specs.Prelude.{flat_map, map}
use Rattle.byteorder.specs.Endian.{big_bytes}
use Rattle.rk_manifest.specs.Versions.{level_bytes}
use Rattle.rk_manifest.proofs.types.VersionDesc.encode.Given as goal

abbrev pub invariant-loop-level : goal.invariant-loop-level
invariant-loop-level l =
    l.out.items ≡ (big_bytes 8 l.self.next_file ++ big_bytes 8 l.self.flushed_upto) ++ flat_map level_bytes (map (λ level. level.items) (take l.level-index l.level-items))
