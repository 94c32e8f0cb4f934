use Rattle.std.proofs.Common.{IfSome}
use Rattle.std.specs.Option.{option_copied}
use Rattle.rk_spanmerge.specs.Moves.{is_past, IsSeenEnd}
use Rattle.rk_spanmerge.proofs.Found.{Found}
use Rattle.rk_spanmerge.proofs.find.nearest_end.Given as goal

abbrev pub invariant-loop-i : goal.invariant-loop-i
invariant-loop-i g l = record {
  nearest : Found g.S.Sorted.listing l.sources l.forward (is_past l.forward l.key) l.i (option_copied l.found);
  seen : IfSome (option_copied l.found) (IsSeenEnd g.S.Sorted.standing l.sources l.forward l.key);
}
