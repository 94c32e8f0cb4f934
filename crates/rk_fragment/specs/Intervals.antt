-- Intervals that begin at written ends, each with its range keys.
use Rattle.std.specs.Prelude.{◌≡◌, ℕ, ◌<◌, List, [], ◌∷◌, ◌++◌, length, map, if◌then◌else◌, Option, None}
use Rattle.std.specs.List.{AllByRecursion, cons_option, filter_map, slice_get}
use Rattle.std.specs.Option.{option_and_then, option_to_list}
use Rattle.std.specs.Ordering.{nat_cmp, ordering_then}
use Rattle.std.specs.declared.cmp.Ordering.{Ordering}
use Rattle.std.specs.declared.cmp.Reverse.{Reverse}
use Rattle.rk_model.specs.Operations.{is_over}
use Rattle.rk_model.specs.declared.op.Op.{Op}
use Rattle.rk_model.specs.declared.op.Entry.{Entry}
use Rattle.rk_model.specs.declared.span.RangeKey.{RangeKey}
use Rattle.rk_model.specs.declared.span.Span.{Span}
use Rattle.rk_fragment.specs.Fragments.{range_key, keys_at, span_with}
use Rattle.rk_fragment.specs.declared.intervals.Interval.{Interval}

abbrev pub starts : List Interval → List (List ℕ)
starts is = map (λ i. i.start) is

-- the range key of an operation with the number n, where it is over a key
abbrev pub key_over : List ℕ → ℕ → Op → Option RangeKey
key_over x n op = if is_over x op then range_key n op else None

-- with one range key more behind the others
abbrev pub with_key : RangeKey → Interval → Interval
with_key k i = record { start = i.start; keys = i.keys ++ k ∷ [] }

-- with the range key of an entry, where that is over its start
abbrev pub with_entry : Entry → Interval → Interval
with_entry e i = record { start = i.start; keys = i.keys ++ option_to_list (key_over i.start e.seq e.op) }

-- the interval of a written end
abbrev pub interval_at : List Entry → List ℕ → Interval
interval_at es a = record { start = a; keys = keys_at es a }

-- the number of an entry, and its place
abbrev pub Rank : Type 0
Rank = Reverse ℕ × ℕ

abbrev pub rank : ℕ → ℕ → Rank
rank seq place = (record { 0 = seq }, place)

-- greater numbers first, and then lesser places
abbrev pub rank_cmp : Rank → Rank → Ordering
rank_cmp r s = ordering_then (nat_cmp s.0.0 r.0.0) (nat_cmp r.1 s.1)

-- there are entries at the places of ranks
abbrev pub ArePlaces : List Entry → List Rank → Type 0
ArePlaces es ranks = AllByRecursion (λ r. r.1 < length es) ranks

-- the range key of the entry at a place, where there is one, over a key
abbrev pub key_at : List Entry → List ℕ → ℕ → Option RangeKey
key_at es x place = option_and_then (λ e. key_over x e.seq e.op) (slice_get es place)

-- the range keys over a key, of the entries at the places of ranks
abbrev pub keys_of : List Entry → List Rank → List ℕ → List RangeKey
keys_of es ranks x = filter_map (λ r. key_at es x r.1) ranks

-- over each key, they give its range keys, newest first
abbrev pub GiveKeys : List Entry → List Rank → Type 0
GiveKeys es ranks = (x : List ℕ) → keys_of es ranks x ≡ keys_at es x

-- the spans of an interval and of those after it, each up to the start of the next
abbrev pub spans_from : Interval → List Interval → List Span
spans_from i [] = []
spans_from i (j ∷ js) = cons_option (span_with i.start j.start i.keys) (spans_from j js)

abbrev pub spans_of : List Interval → List Span
spans_of [] = []
spans_of (i ∷ is) = spans_from i is
