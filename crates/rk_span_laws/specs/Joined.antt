-- What the range keys of spans give, and the widest spans of that, as spans again.
use Rattle.std.specs.Prelude.{ℕ, ◌&&◌, List, map, if◌then◌else◌, None}
use Rattle.std.specs.List.{flat_map, filter_map}
use Rattle.rk_model.specs.Covers.{upto}
use Rattle.rk_model.specs.Spans.{in_bounds, written_ends, WidestSpan, widest_span}
use Rattle.rk_model.specs.Positions.{begins_span}
use Rattle.rk_model.specs.declared.op.Entry.{Entry}
use Rattle.rk_model.specs.declared.span.RangeKind.TheVariants.{Set}
use Rattle.rk_model.specs.declared.span.RangeKey.{RangeKey}
use Rattle.rk_model.specs.declared.span.Span.{Span}
use Rattle.rk_model.specs.declared.span.SuffixValue.{SuffixValue}
use Rattle.rk_model.specs.declared.options.IterOptions.{IterOptions}
use Rattle.rk_coalesce.specs.SpanKeys.{span_entries}

-- the range keys of some spans, as entries over their keys
abbrev pub entries_of : List Span → List Entry
entries_of ss = flat_map span_entries ss

-- the widest spans within the bounds, in order
abbrev pub widest_spans : List Entry → IterOptions → List WidestSpan
widest_spans es o = filter_map (λ a. if in_bounds o a && begins_span es o a then widest_span es o a else None) (written_ends es o)

-- a pair of a cover as a range key: a set numbered n
abbrev pub as_set : ℕ → SuffixValue → RangeKey
as_set n p = record { kind = Set; seq = n; suffix = p.suffix; value = p.value }

abbrev pub as_span : ℕ → WidestSpan → Span
as_span n w = record { start = w.start; end = w.end; keys = map (as_set n) w.cover }

-- the widest spans of the range keys numbered at most n, with their covers as sets numbered n
abbrev pub joined : ℕ → IterOptions → List Span → List Span
joined n o ss = map (as_span n) (widest_spans (upto n (entries_of ss)) o)
