use Rattle.std.proofs.Common.{◌≡◌, take, filter}
use Rattle.rk_coalesce.specs.Places.{stays}
use Rattle.rk_coalesce.specs.Numbers.{newest_at}
use Rattle.rk_coalesce.proofs.keep.coalesce_stripes.Given as goal

abbrev pub invariant-loop-key : goal.invariant-loop-key
invariant-loop-key l = l.kept.items ≡ filter (stays (newest_at l.newest) l.stripes l.bottom) (take l.key-index l.keys)
