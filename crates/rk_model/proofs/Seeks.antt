-- A seek outside of all spans.
use Rattle.std.proofs.Common.{◌≡◌, ℕ, List, true, refl}
use Rattle.std.specs.Prelude.{not, filter}
use Rattle.std.specs.Ordering.{is_lt}
use Rattle.rk_key.specs.Keys.{key_cmp}
use Rattle.rk_model.specs.Lists.{none_of}
use Rattle.rk_model.specs.Covers.{cover}
use Rattle.rk_model.specs.Spans.{in_bounds}
use Rattle.rk_model.specs.Positions.{positions}
use Rattle.rk_model.specs.Moves.{least, sought}
use Rattle.rk_model.specs.declared.op.Entry.{Entry}
use Rattle.rk_model.specs.declared.options.IterOptions.{IterOptions}

pub sought_outside : (es : List Entry) (o : IterOptions) (k : List ℕ) (keys : List (List ℕ)) →
    in_bounds o k ≡ true → none_of (cover es k) ≡ true → keys ≡ positions es o
    → least (filter (λ p. not (is_lt (key_cmp p k))) keys) ≡ sought es o k
sought_outside es o k keys inside outside all = rw (inside, outside, all) refl
