-- The order of the points and of the spans of a source.
use Rattle.std.specs.Prelude.{ℕ, nat_lt, Bool, true, ◌&&◌, not, List, [], ◌∷◌}
use Rattle.std.specs.List.{list_all}
use Rattle.std.specs.Ordering.{is_lt, ordering_then, nat_cmp}
use Rattle.std.specs.declared.cmp.Ordering.{Ordering}
use Rattle.rk_key.specs.Keys.{key_cmp}
use Rattle.rk_model.specs.Lists.{none_of}
pub use Rattle.rk_model.specs.Cuts.{count_before}
use Rattle.rk_model.specs.Covers.{is_point}
use Rattle.rk_model.specs.declared.op.Op.{Op}
use Rattle.rk_model.specs.declared.op.Op.TheVariants.{Put, Del, RangeSet, RangeUnset, RangeDel}
use Rattle.rk_model.specs.declared.op.Entry.{Entry}
use Rattle.rk_model.specs.declared.span.RangeKey.{RangeKey}
use Rattle.rk_model.specs.declared.span.Span.{Span}

-- each item stands before the one that follows it
abbrev pub ascends : {A : Type 0} → (A → A → Bool) → List A → Bool
ascends before [] = true
ascends before (x ∷ []) = true
ascends before (x ∷ y ∷ ys) = before x y && ascends before (y ∷ ys)

-- the key of a point, and where a span begins
abbrev pub op_key : Op → List ℕ
op_key (Put key value) = key
op_key (Del key) = key
op_key (RangeSet start end suffix value) = start
op_key (RangeUnset start end suffix) = start
op_key (RangeDel start end) = start

-- by key, and the newer one of one key first
abbrev pub entry_cmp : Entry → Entry → Ordering
entry_cmp e f = ordering_then (key_cmp (op_key e.op) (op_key f.op)) (nat_cmp f.seq e.seq)

-- points alone, ascending
abbrev pub are_points : List Entry → Bool
are_points es = list_all (λ e. is_point e.op) es && ascends (λ e f. is_lt (entry_cmp e f)) es

-- the newest first
abbrev pub are_newest_first : List RangeKey → Bool
are_newest_first keys = ascends (λ j k. nat_lt k.seq j.seq) keys

-- its start below its end, and range keys
abbrev pub is_extent : Span → Bool
is_extent s = is_lt (key_cmp s.start s.end) && not (none_of s.keys)

-- spans, ascending, of which no two meet, in whatever order their range keys are
abbrev pub are_extents : List Span → Bool
are_extents ss = list_all is_extent ss && ascends (λ s t. not (is_lt (key_cmp t.start s.end))) ss

-- a span whose range keys are the newest first
abbrev pub is_span : Span → Bool
is_span s = is_extent s && are_newest_first s.keys

abbrev pub are_spans : List Span → Bool
are_spans ss = list_all is_span ss && ascends (λ s t. not (is_lt (key_cmp t.start s.end))) ss
