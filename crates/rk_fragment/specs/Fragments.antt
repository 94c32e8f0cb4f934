-- Spans of range keys, cut at the written ends of the operations.
use Rattle.std.specs.Prelude.{◌≡◌, ◌≢◌, ℕ, nat_lt, IsTrue, List, [], ◌∷◌, filter, drop, if◌then◌else◌, Option, Some, None}
use Rattle.std.specs.List.{AllByRecursion, filter_map, flat_map, zip}
use Rattle.rk_model.specs.Lists.{none_of}
use Rattle.rk_model.specs.Operations.{within, NumbersDiffer}
use Rattle.rk_model.specs.Covers.{over}
use Rattle.rk_model.specs.Spans.{op_ends, sorted_keys}
use Rattle.rk_model.specs.Sources.{are_spans}
use Rattle.rk_model.specs.declared.op.Op.{Op}
use Rattle.rk_model.specs.declared.op.Op.TheVariants.{Put, Del, RangeSet, RangeUnset, RangeDel}
use Rattle.rk_model.specs.declared.op.Entry.{Entry}
use Rattle.rk_model.specs.declared.span.RangeKey.{RangeKey}
use Rattle.rk_model.specs.declared.span.RangeKind.TheVariants as kind
use Rattle.rk_model.specs.declared.span.Span.{Span}

-- the range key of an operation with the number n
abbrev pub range_key : ℕ → Op → Option RangeKey
range_key n (Put key value) = None
range_key n (Del key) = None
range_key n (RangeSet start end suffix value) = Some (record { kind = kind.Set; seq = n; suffix = suffix; value = value })
range_key n (RangeUnset start end suffix) = Some (record { kind = kind.Unset; seq = n; suffix = suffix; value = [] })
range_key n (RangeDel start end) = Some (record { kind = kind.Del; seq = n; suffix = []; value = [] })

-- before the first that isn't newer
abbrev pub insert_newest : RangeKey → List RangeKey → List RangeKey
insert_newest k [] = k ∷ []
insert_newest k (q ∷ qs) = if nat_lt k.seq q.seq then q ∷ insert_newest k qs else k ∷ q ∷ qs

-- By falling numbers. Those with one number keep their order.
abbrev pub newest_first : List RangeKey → List RangeKey
newest_first [] = []
newest_first (k ∷ ks) = insert_newest k (newest_first ks)

-- the range keys of the entries over a key
abbrev pub keys_at : List Entry → List ℕ → List RangeKey
keys_at es x = newest_first (filter_map (λ e. range_key e.seq e.op) (over x es))

-- the starts and ends of the operations on spans, ascending, each once
abbrev pub written : List Entry → List (List ℕ)
written es = sorted_keys (flat_map (λ e. op_ends e.op) es)

-- a span, where there are keys for it
abbrev pub span_with : List ℕ → List ℕ → List RangeKey → Option Span
span_with start end keys = if none_of keys then None else Some (record { start = start; end = end; keys = keys })

-- one span from each end to the next that some range key is over
abbrev pub spans_between : (List ℕ → List RangeKey) → List (List ℕ) → List Span
spans_between keys ends = filter_map (λ ab. span_with ab.0 ab.1 (keys ab.0)) (zip ends (drop 1 ends))

-- those of the written ends
abbrev pub fragments : List Entry → List Span
fragments es = spans_between (keys_at es) (written es)

-- the keys of those spans that a key lies in
abbrev pub keys_over : List Span → List ℕ → List RangeKey
keys_over spans x = flat_map (λ s. s.keys) (filter (λ s. within s.start s.end x) spans)

-- each key has a number that is to those before it as R says
abbrev pub FallsBy : (ℕ → ℕ → Type 0) → List RangeKey → Type 0
FallsBy R [] = Unit {0}
FallsBy R (k ∷ ks) = AllByRecursion (λ q. R q.seq k.seq) ks × FallsBy R ks

-- no two range keys have one number
abbrev pub KeysDiffer : List RangeKey → Type 0
KeysDiffer [] = Unit {0}
KeysDiffer (k ∷ ks) = AllByRecursion (λ q. q.seq ≢ k.seq) ks × KeysDiffer ks

-- where numbers differ, they are in order, with the newest range keys first
abbrev pub FragmentsAreSpans : Type 0
FragmentsAreSpans = (es : List Entry) → NumbersDiffer es → IsTrue (are_spans (fragments es))

-- over each key are exactly the range keys of the entries over it
abbrev pub EachKeyHasItsRangeKeys : Type 0
EachKeyHasItsRangeKeys = (es : List Entry) (x : List ℕ) → keys_over (fragments es) x ≡ keys_at es x
