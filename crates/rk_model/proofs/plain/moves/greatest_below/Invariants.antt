use Rattle.std.proofs.Common.{◌≡◌, take}
use Rattle.std.specs.Prelude.{filter}
use Rattle.std.specs.Ordering.{is_lt}
use Rattle.rk_key.specs.Keys.{key_cmp}
use Rattle.rk_model.specs.Lists.{last_of}
use Rattle.rk_model.proofs.plain.moves.greatest_below.Given as goal

abbrev pub invariant-loop-i : goal.invariant-loop-i
invariant-loop-i l = last_of (filter (λ p. is_lt (key_cmp p l.x)) l.keys) ≡ last_of (filter (λ p. is_lt (key_cmp p l.x)) (take l.i l.keys))
