use Rattle.std.proofs.Common.{◌≡◌, take, map}
use Rattle.std.specs.Arc.{arc_value}
use Rattle.rk_mem.proofs.memtable.share.Given as goal

abbrev pub invariant-loop-chunk : goal.invariant-loop-chunk
invariant-loop-chunk l = map arc_value l.shared.items ≡ map arc_value (take l.chunk-index l.chunks)
