use Rattle.std.proofs.Common.{◌≡◌, drop}
use Rattle.std.specs.Prelude.{filter, not}
use Rattle.std.specs.Ordering.{is_lt}
use Rattle.rk_key.specs.Keys.{key_cmp}
use Rattle.rk_model.specs.Lists.{first_of}
use Rattle.rk_model.proofs.plain.moves.least_from.Given as goal

abbrev pub invariant-loop-i : goal.invariant-loop-i
invariant-loop-i l =
    first_of (filter (λ p. not (is_lt (key_cmp p l.x))) l.keys) ≡ first_of (filter (λ p. not (is_lt (key_cmp p l.x))) (drop l.i l.keys))
