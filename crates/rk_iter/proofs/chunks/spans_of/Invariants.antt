use Rattle.std.proofs.Common.{map, take}
use Rattle.std.specs.Arc.{arc_value}
use Rattle.rk_iter.specs.Inside.{HaveSpans}
use Rattle.rk_iter.proofs.chunks.spans_of.Given as goal

abbrev pub invariant-loop-chunk : goal.invariant-loop-chunk
invariant-loop-chunk l = HaveSpans (map arc_value (take l.chunk-index l.chunks)) l.sources.items
