use Rattle.std.proofs.Common.{map}
use Rattle.std.specs.Arc.{arc_value}
use Rattle.std.specs.Vec.{vec_len}
use Rattle.rk_mem.proofs.Towers.{Pile}
use Rattle.rk_mem.proofs.tower.piled.Given as goal

abbrev pub invariant-loop-older : goal.invariant-loop-older
invariant-loop-older l = Pile (map arc_value l.fn.chunks.items) l.fn.newest (map arc_value l.chunks.items) l.newest

abbrev pub decreases-loop-older : goal.decreases-loop-older
decreases-loop-older l = vec_len l.chunks
