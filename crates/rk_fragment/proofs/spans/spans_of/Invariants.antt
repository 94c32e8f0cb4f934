use Rattle.std.proofs.Common.{◌≡◌, ◌++◌, List, Option, Some, None}
use Rattle.std.specs.Vec.Iter.{into_iter_items}
use Rattle.rk_model.specs.declared.span.Span.{Span}
use Rattle.rk_fragment.specs.declared.intervals.Interval.{Interval}
use Rattle.rk_fragment.specs.Intervals.{spans_of, spans_from}
use Rattle.rk_fragment.proofs.spans.spans_of.Given as goal

-- the spans that are still to come after an interval that is open, if one is
abbrev spans_left : Option Interval → List Interval → List Span
spans_left None is = spans_of is
spans_left (Some i) is = spans_from i is

abbrev pub invariant-loop-interval : goal.invariant-loop-interval
invariant-loop-interval l = l.spans.items ++ spans_left l.open (into_iter_items l.interval-iterator) ≡ spans_of l.fn.intervals.items
