use Rattle.std.proofs.Common.{◌≡◌, take}
use Rattle.std.specs.List.{filter_map}
use Rattle.rk_coalesce.specs.Places.{pair_of}
use Rattle.rk_coalesce.specs.Numbers.{newest_at}
use Rattle.rk_coalesce.proofs.cover.coalesce.Given as goal

abbrev pub invariant-loop-key : goal.invariant-loop-key
invariant-loop-key l = l.pairs.items ≡ filter_map (pair_of (newest_at l.newest) l.n) (take l.key-index l.keys)
