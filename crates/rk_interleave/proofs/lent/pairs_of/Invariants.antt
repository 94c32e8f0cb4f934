use Rattle.std.proofs.Common.{◌≡◌, map, take}
use Rattle.rk_mask.specs.Pairs.{pair_of}
use Rattle.rk_interleave.proofs.lent.pairs_of.Given as goal

abbrev pub invariant-loop-key : goal.invariant-loop-key
invariant-loop-key l = l.pairs.items ≡ map pair_of (take l.key-index l.keys)
