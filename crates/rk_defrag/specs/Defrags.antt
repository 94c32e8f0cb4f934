-- Of a source of spans the widest spans at a number, within bounds.
use Rattle.std.specs.Prelude.{ℕ, ◌+◌, Bool, true, not, List, length, if◌then◌else◌, Option, Some, None, option_map, option_and_then, unwrap_or}
use Rattle.rk_model.specs.Cuts.{count_before, item_from}
use Rattle.rk_model.specs.Items.{keyed_extents, sound, span_beside}
use Rattle.rk_model.specs.Standings.{Listing, Standing, names}
use Rattle.rk_model.specs.declared.span.Span.{Span}
use Rattle.rk_model.specs.declared.options.IterOptions.{IterOptions}
use Rattle.rk_sources.specs.Bounds.{Bounding}
use Rattle.rk_span_laws.specs.Joined.{joined}

-- the widest spans of a source's list, where it is told: nothing is read but what the source owes
abbrev pub defragged : ℕ → IterOptions → Listing Span → Listing Span
defragged n o l = record {
  held = option_and_then (λ ss. sound keyed_extents (joined n o ss)) l.held;
  bad = names l;
  seek_price = λ forward cut. 0;
  walk_price = λ forward g. 0;
  turn_price = λ forward g. 0;
}

-- The source within its bounds, the span that is lent, and the direction that is faced, or none where it is lost.
pub record Defragging (S : Type 0) : Type 0 where
  pub source : Bounding S
  pub n : ℕ
  pub options : IterOptions
  pub current : Option Span
  pub facing : Option Bool

abbrev pub lent : {A : Type 0} → Option A → ℕ
lent None = 0
lent (Some c) = 1

-- the end at which a step in a direction leaves a span
abbrev pub left_end : Bool → Span → List ℕ
left_end forward c = if forward then c.end else c.start

-- the gap from which a span of a list is seen in a direction, and the last one of that direction, where none is
abbrev pub gap_from : Bool → List Span → Option Span → ℕ
gap_from forward ds None = if forward then length ds else 0
gap_from forward ds (Some c) = count_before (span_beside forward (left_end (not forward) c)) ds

abbrev pub lent_gap : Option (List Span) → Bool → Option Span → ℕ
lent_gap None forward current = 0
lent_gap (Some ds) forward current = gap_from forward ds current

-- what is seen from that gap: the span that is lent
abbrev pub lent_here : Option (List Span) → Bool → Option Span → Option Span
lent_here None forward current = current
lent_here (Some ds) forward current = item_from forward ds (gap_from forward ds current)

-- It stands where the span that is lent is seen, in the direction that is faced, and else is lost. That span is the
-- one more that is left.
abbrev pub defragged_standing : Option (List Span) → Option Bool → Option Span → Standing Span → Standing Span
defragged_standing held facing current s = record {
  gap = option_map (λ forward. lent_gap held forward current) facing;
  forward = unwrap_or facing true;
  here = option_and_then (λ forward. lent_here held forward current) facing;
  owed = s.owed;
  left = s.left + lent current;
}

abbrev pub defrags : {S : Type 0} → (S → Listing Span) → Defragging S → Listing Span
defrags listing d = defragged d.n d.options (listing d.source.source)

abbrev pub defrag_stands : {S : Type 0} → (S → Listing Span) → (S → Standing Span) → Defragging S → Standing Span
defrag_stands listing standing d = defragged_standing (defrags listing d).held d.facing d.current (standing d.source.source)
