use Rattle.std.proofs.Common.{◌≡◌, take}
use Rattle.rk_model.proofs.plain.cover.Cover.copy.Given as goal

abbrev pub invariant-loop-pair : goal.invariant-loop-pair
invariant-loop-pair l = l.copied.items ≡ take l.pair-index l.pairs
