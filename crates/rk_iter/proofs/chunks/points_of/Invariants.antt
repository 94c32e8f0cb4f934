use Rattle.std.proofs.Common.{map, take}
use Rattle.std.specs.Arc.{arc_value}
use Rattle.rk_iter.specs.Inside.{HavePoints}
use Rattle.rk_iter.proofs.chunks.points_of.Given as goal

abbrev pub invariant-loop-chunk : goal.invariant-loop-chunk
invariant-loop-chunk l = HavePoints (map arc_value (take l.chunk-index l.chunks)) l.sources.items
