-- What stands before a cut, and items in the order of a source.
use Rattle.std.specs.Prelude.{ℕ, Bool, true, false, ◌&&◌, not, List, if◌then◌else◌, Option, Some, None}
use Rattle.std.specs.List.{list_all}
use Rattle.std.specs.Ordering.{is_lt}
use Rattle.rk_key.specs.Keys.{key_cmp}
use Rattle.rk_key.specs.KeyTests.{is_key}
use Rattle.rk_model.specs.Sources.{op_key, are_points, are_extents, are_spans}
use Rattle.rk_model.specs.Spans.{op_ends}
use Rattle.rk_model.specs.declared.op.Op.{Op}
use Rattle.rk_model.specs.declared.op.Entry.{Entry}
use Rattle.rk_model.specs.declared.span.Span.{Span}
use Rattle.rk_model.specs.declared.cut.Cut.{Cut}
use Rattle.rk_model.specs.declared.cut.Cut.TheVariants.{Start, Below, Past, End}

-- a point stands before a cut whichever way it is sought
abbrev pub point_takes : Cut (List ℕ) → Entry → Bool
point_takes Start e = false
point_takes (Below key) e = is_lt (key_cmp (op_key e.op) key)
point_takes (Past key) e = not (is_lt (key_cmp key (op_key e.op)))
point_takes End e = true

-- Forward a span stands before a key that it ends at or below, and backward before one that it begins below: so a
-- span over the key is seen from both sides.
abbrev pub span_beside : Bool → List ℕ → Span → Bool
span_beside forward key s = if forward then not (is_lt (key_cmp key s.end)) else is_lt (key_cmp s.start key)

abbrev pub span_takes : Bool → Cut (List ℕ) → Span → Bool
span_takes forward Start s = false
span_takes forward (Below key) s = span_beside forward key s
span_takes forward (Past key) s = span_beside forward key s
span_takes forward End s = true

-- the keys of an operation are keys
abbrev pub has_keys : Op → Bool
has_keys op = is_key (op_key op) && list_all is_key (op_ends op)

abbrev pub are_keyed : List Entry → Bool
are_keyed es = list_all (λ e. has_keys e.op) es

-- points whose keys are keys, ascending
abbrev pub keyed_points : List Entry → Bool
keyed_points es = are_points es && list_all (λ e. is_key (op_key e.op)) es

-- spans whose ends are keys, ascending, in whatever order their range keys are
abbrev pub keyed_extents : List Span → Bool
keyed_extents ss = are_extents ss && list_all (λ s. is_key s.start && is_key s.end) ss

-- the same, with the range keys of each the newest first
abbrev pub keyed_spans : List Span → Bool
keyed_spans ss = are_spans ss && list_all (λ s. is_key s.start && is_key s.end) ss

-- a list, where it passes a test
abbrev pub sound : {A : Type 0} → (List A → Bool) → List A → Option (List A)
sound test xs = if test xs then Some xs else None
