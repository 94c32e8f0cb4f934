-- What a merge of sources of spans is: the spans of all of them, cut at each other's ends.
use Rattle.std.specs.Prelude.{◌≡◌, IsTrue, ℕ, ◌*◌, ◌+◌, Bool, ◌||◌, not, List, [], ◌∷◌, length, map, if◌then◌else◌, Option, Some, None}
use Rattle.std.specs.List.{AllByRecursion, list_all, flat_map}
use Rattle.std.specs.Ordering.{is_eq, is_lt}
use Rattle.rk_key.specs.Keys.{key_cmp, IsKey}
use Rattle.rk_model.specs.Sources.{are_spans}
use Rattle.rk_model.specs.Spans.{sorted_keys, same_bytes}
use Rattle.rk_model.specs.Cuts.{count_before, item_from}
use Rattle.rk_model.specs.Items.{span_beside, keyed_spans, sound}
use Rattle.rk_model.specs.Standings.{Listing, Standing}
use Rattle.rk_model.specs.declared.span.RangeKey.{RangeKey}
use Rattle.rk_model.specs.declared.span.Span.{Span}
use Rattle.rk_fragment.specs.Fragments.{newest_first, spans_between, keys_over, KeysDiffer}
use Rattle.rk_merge.specs.Pools.{total, told_items, all_told, some_names}

-- the starts and ends of spans
abbrev pub span_ends : List Span → List (List ℕ)
span_ends ss = flat_map (λ s. s.start ∷ s.end ∷ []) ss

-- the range keys of the spans that a key lies in, newest first
abbrev pub keys_at : List Span → List ℕ → List RangeKey
keys_at ss x = newest_first (keys_over ss x)

-- the spans, cut at each start and end of any of them
abbrev pub cut_spans : List Span → List Span
cut_spans ss = spans_between (keys_at ss) (sorted_keys (span_ends ss))

-- keys that no order tells apart are one key, as keys are that were read
abbrev pub are_distinct : List (List ℕ) → Bool
are_distinct xs = list_all (λ x. list_all (λ y. not (is_eq (key_cmp x y)) || same_bytes x y) xs) xs

-- keys that were read are distinct
abbrev pub ReadKeysAreDistinct : Type 0
ReadKeysAreDistinct = (xs : List (List ℕ)) → AllByRecursion IsKey xs → IsTrue (are_distinct xs)

-- Spans that are cut at each other's ends are in order, with the newest range keys first, where no two range keys
-- over one key have one number.
abbrev pub CutSpansAreSpans : Type 0
CutSpansAreSpans = (ss : List Span) → ((x : List ℕ) → KeysDiffer (keys_over ss x)) → IsTrue (are_spans (cut_spans ss))

-- And they are only there, where keys that no order tells apart are one key.
abbrev pub SortedCutsDiffer : Type 0
SortedCutsDiffer = (ss : List Span) (x : List ℕ) → IsTrue (are_distinct (span_ends ss)) → IsTrue (are_spans (cut_spans ss)) → KeysDiffer (keys_over ss x)

-- at each key are exactly the range keys of the spans that it lies in
abbrev pub EachKeyHasItsRangeKeys : Type 0
EachKeyHasItsRangeKeys = (ss : List Span) (x : List ℕ) → IsTrue (are_distinct (span_ends ss)) → keys_over (cut_spans ss) x ≡ keys_at ss x

-- the spans of all sources, one source after another
abbrev pub pooled : List (Listing Span) → List Span
pooled ls = flat_map told_items ls

-- the merge's list, where each source is told, and no two range keys over one key have one number
abbrev pub united : List (Listing Span) → Option (List Span)
united ls = if all_told ls then sound keyed_spans (cut_spans (pooled ls)) else None

-- what a merge lists: it reads nothing but what its sources owe
abbrev pub merged : List (Listing Span) → Listing Span
merged ls = record {
  held = united ls;
  bad = some_names ls;
  seek_price = λ forward cut. 0;
  walk_price = λ forward g. 0;
  turn_price = λ forward g. 0;
}

-- The sources, the span that is lent, the direction in which they stand, and whether the gap is known.
pub record Merging (S : Type 0) : Type 0 where
  pub sources : List S
  pub current : Option Span
  pub forward : Bool
  pub known : Bool

-- the end at which a step in a direction leaves a span
abbrev pub left_end : Bool → Span → List ℕ
left_end forward c = if forward then c.end else c.start

-- the gap from which a span of a list is seen in a direction, and the last one of that direction, where none is
abbrev pub gap_from : Bool → List Span → Option Span → ℕ
gap_from forward xs None = if forward then length xs else 0
gap_from forward xs (Some c) = count_before (span_beside forward (left_end (not forward) c)) xs

abbrev pub merged_gap : Option (List Span) → Bool → Option Span → ℕ
merged_gap None forward current = 0
merged_gap (Some xs) forward current = gap_from forward xs current

-- what is seen from that gap: the span that is lent
abbrev pub merged_here : Option (List Span) → Bool → Option Span → Option Span
merged_here None forward current = current
merged_here (Some xs) forward current = item_from forward xs (gap_from forward xs current)

-- a span that a source sees begins, in a direction, only beyond the one that is lent
abbrev pub begins_beyond : Bool → Span → Span → Bool
begins_beyond forward c t = if forward then is_lt (key_cmp c.start t.start) else is_lt (key_cmp t.end c.end)

abbrev pub ends_left : Bool → Option Span → Option Span → ℕ
ends_left forward (Some c) (Some t) = if begins_beyond forward c t then 1 else 0
ends_left forward (Some c) None = 0
ends_left forward None here = 0

-- Of each span that is left in a source two ends are left to come to, and of the one that it sees the far one, and
-- the near one too where that is beyond the span that is lent.
abbrev pub left_of : Bool → Option Span → Standing Span → ℕ
left_of forward current s = 2 * s.left + ends_left forward current s.here

abbrev pub merged_standing : {S : Type 0} → (S → Listing Span) → (S → Standing Span) → Merging S → Standing Span
merged_standing listing standing m = record {
  gap = if m.known then Some (merged_gap (united (map listing m.sources)) m.forward m.current) else None;
  forward = m.forward;
  here = if m.known then merged_here (united (map listing m.sources)) m.forward m.current else None;
  owed = total (λ s. (standing s).owed) m.sources;
  left = total (λ s. left_of m.forward m.current (standing s)) m.sources;
}
