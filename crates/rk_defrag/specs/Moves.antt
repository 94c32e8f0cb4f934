-- How the spans of a source are gathered: runs of spans that touch and have one cover.
use Rattle.std.specs.Prelude.{◌≡◌, ℕ, ◌<◌, ◌≤◌, Bool, true, false, not, ◌&&◌, ◌||◌, List, length, if◌then◌else◌, Option, Some, None, IfSome, MatchOption, Result, is_some, option_map}
use Rattle.std.specs.List.{slice_get}
use Rattle.std.specs.Option.{option_map_or}
use Rattle.std.specs.Ordering.{is_lt, is_eq}
use Rattle.rk_key.specs.Keys.{key_cmp}
use Rattle.rk_outside.specs.Counts.{Counts}
use Rattle.rk_outside.specs.declared.error.SourceError.{SourceError}
use Rattle.rk_model.specs.Lists.{Among, none_of}
use Rattle.rk_model.specs.Covers.{upto, cover_of}
use Rattle.rk_model.specs.Spans.{same_cover, WidestSpan}
use Rattle.rk_model.specs.Cuts.{count_before, item_from}
use Rattle.rk_model.specs.Items.{span_takes}
use Rattle.rk_model.specs.Standings.{Listing, Standing, Costs}
use Rattle.rk_model.specs.declared.cut.Cut.{Cut}
use Rattle.rk_model.specs.declared.cut.Cut.TheVariants.{Start, Below, Past, End}
use Rattle.rk_model.specs.declared.span.SuffixValue.{SuffixValue}
use Rattle.rk_model.specs.declared.span.Span.{Span}
use Rattle.rk_model.specs.declared.options.IterOptions.{IterOptions}
use Rattle.rk_coalesce.specs.SpanKeys.{span_entries}
use Rattle.rk_laws.specs.SameCells.{KeyBounds}
use Rattle.rk_sources.specs.Bounds.{Bounding, lists, stands}
use Rattle.rk_span_laws.specs.Joined.{as_span, joined}
use Rattle.rk_defrag.specs.Defrags.{Defragging, left_end}

-- a source stands at a gap, and faces a direction
pub record IsFacing (forward : Bool) (s : Standing Span) : Type 0 where
  pub known : is_some s.gap ≡ true
  pub faces : s.forward ≡ forward

-- the cover at each key of a span
abbrev pub cover_at : ℕ → Span → List SuffixValue
cover_at n t = cover_of (upto n (span_entries t))

abbrev pub is_bare : ℕ → Span → Bool
is_bare n t = none_of (cover_at n t)

-- the end at which a walk in a direction leaves a run, and the ends where the run and the next span touch
abbrev pub far_end : Bool → WidestSpan → List ℕ
far_end forward w = if forward then w.end else w.start

abbrev pub touches : Bool → WidestSpan → Span → Bool
touches forward w t = if forward then is_eq (key_cmp w.end t.start) else is_eq (key_cmp t.end w.start)

-- a run goes on in a span: they touch, and have one cover
abbrev pub goes_on : Bool → ℕ → WidestSpan → Span → Bool
goes_on forward n w t = touches forward w t && same_cover w.cover (cover_at n t)

-- the run of one span, and a run with the next span
abbrev pub run_of : ℕ → Span → WidestSpan
run_of n t = record { start = t.start; end = t.end; cover = cover_at n t }

abbrev pub with_next : Bool → WidestSpan → Span → WidestSpan
with_next forward w t = if forward then record w { end = t.end } else record w { start = t.start }

-- the part of a run within the bounds
abbrev pub clip_start : Option (List ℕ) → List ℕ → List ℕ
clip_start lower x = option_map_or (λ l. if is_lt (key_cmp l x) then x else l) lower x

abbrev pub clip_end : Option (List ℕ) → List ℕ → List ℕ
clip_end upper x = option_map_or (λ u. if is_lt (key_cmp x u) then x else u) upper x

abbrev pub clipped : IterOptions → WidestSpan → WidestSpan
clipped o w = record { start = clip_start o.lower w.start; end = clip_end o.upper w.end; cover = w.cover }

-- no key lies between the bounds
abbrev pub is_crossed : IterOptions → Bool
is_crossed o = option_map_or (λ l. option_map_or (λ u. not (is_lt (key_cmp l u))) o.upper false) o.lower false

-- a cut lies at the far bound of a direction, or beyond
abbrev pub at_or_over : List ℕ → Cut (List ℕ) → Bool
at_or_over high Start = false
at_or_over high (Below key) = not (is_lt (key_cmp key high))
at_or_over high (Past key) = not (is_lt (key_cmp key high))
at_or_over high End = true

abbrev pub at_or_under : List ℕ → Cut (List ℕ) → Bool
at_or_under low Start = true
at_or_under low (Below key) = not (is_lt (key_cmp low key))
at_or_under low (Past key) = not (is_lt (key_cmp low key))
at_or_under low End = false

abbrev pub lies_far : IterOptions → Bool → Cut (List ℕ) → Bool
lies_far o forward cut = is_crossed o || (if forward then option_map_or (λ u. at_or_over u cut) o.upper false else option_map_or (λ l. at_or_under l cut) o.lower false)

-- The cut that is sought in the source: the end of the direction, where no key that lies within the bounds is beyond
-- the cut, since the spans that reach over a bound are whole there.
abbrev pub inner_cut : IterOptions → Bool → Cut (List ℕ) → Cut (List ℕ)
inner_cut o forward cut = if lies_far o forward cut then (if forward then End else Start) else cut

-- a run may go on at its near end: it begins at the cut or before
abbrev pub begins_by : Bool → Cut (List ℕ) → WidestSpan → Bool
begins_by forward Start w = not forward
begins_by forward (Below key) w = if forward then not (is_lt (key_cmp key w.start)) else not (is_lt (key_cmp w.end key))
begins_by forward (Past key) w = if forward then not (is_lt (key_cmp key w.start)) else not (is_lt (key_cmp w.end key))
begins_by forward End w = forward

-- the cut at which a step leaves a span, or from which a direction begins
abbrev pub leaving_cut : Bool → Option Span → Cut (List ℕ)
leaving_cut forward None = if forward then Start else End
leaving_cut forward (Some c) = Below (if forward then c.end else c.start)

-- the spans at a gap are of one run
abbrev pub joins : ℕ → Span → Span → Bool
joins n s t = is_eq (key_cmp s.end t.start) && same_cover (cover_at n s) (cover_at n t)

abbrev pub crosses : ℕ → List Span → ℕ → Bool
crosses n xs g = option_map_or (λ s. option_map_or (λ t. joins n s t) (item_from true xs g) false) (item_from false xs g) false

-- no span between two gaps has a cover
abbrev pub AllBare : ℕ → List Span → (low high : ℕ) → Type 0
AllBare n xs low high = (k : ℕ) (t : Span) → low ≤ k → k < high → slice_get xs k ≡ Some t → is_bare n t ≡ true

-- the span before the gap in a direction ends a run there
pub record EndsAt (forward : Bool) (n : ℕ) (xs : List Span) (g : ℕ) (w : WidestSpan) : Type 0 where
  pub span : Span
  pub there : item_from (not forward) xs g ≡ Some span
  pub end : left_end forward span ≡ far_end forward w
  pub has : cover_at n span ≡ w.cover

-- the spans between two gaps are one run
pub record IsRun (n : ℕ) (xs : List Span) (low high : ℕ) (w : WidestSpan) : Type 0 where
  pub some : none_of w.cover ≡ false
  pub proper : low < high
  pub edge : (forward : Bool) → EndsAt forward n xs (if forward then high else low) w
  pub one : (g : ℕ) → low < g → g < high → crosses n xs g ≡ true

-- the same from one gap to another in a direction; and one gap is reached before another, or is it
abbrev pub RunOver : Bool → ℕ → List Span → (near far : ℕ) → WidestSpan → Type 0
RunOver true n xs near far w = IsRun n xs near far w
RunOver false n xs near far w = IsRun n xs far near w

abbrev pub AllBareOver : Bool → ℕ → List Span → (from to : ℕ) → Type 0
AllBareOver true n xs from to = AllBare n xs from to
AllBareOver false n xs from to = AllBare n xs to from

abbrev pub Upto : Bool → (from to : ℕ) → Type 0
Upto true from to = from ≤ to
Upto false from to = to ≤ from

abbrev pub Before : Bool → (from to : ℕ) → Type 0
Before true from to = from < to
Before false from to = to < from

abbrev pub end_of : Bool → List Span → ℕ
end_of forward xs = if forward then length xs else 0

-- a run that begins at a gap or further on, past spans without a cover
pub record Gathers (forward : Bool) (n : ℕ) (xs : List Span) (from : ℕ) (at : ℕ) (w : WidestSpan) : Type 0 where
  pub near : ℕ
  pub beyond : Upto forward from near
  pub bare : AllBareOver forward n xs from near
  pub run : RunOver forward n xs near at w

-- that run, or none up to the end
abbrev pub Passed : Bool → ℕ → List Span → (from at : ℕ) → Option WidestSpan → Type 0
Passed forward n xs from at found = MatchOption found (AllBareOver forward n xs from (end_of forward xs)) (Gathers forward n xs from at)

-- which doesn't go on
abbrev pub Gathered : Bool → ℕ → List Span → (from at : ℕ) → Option WidestSpan → Type 0
Gathered forward n xs from at found = MatchOption found (AllBareOver forward n xs from (end_of forward xs)) (λ w. Gathers forward n xs from at w × (crosses n xs at ≡ false))

-- The whole run that is the first beyond a gap: its far end is beyond that gap, and the spans up to its near one have
-- no cover.
pub record Finds (forward : Bool) (n : ℕ) (xs : List Span) (from at : ℕ) (w : WidestSpan) : Type 0 where
  pub near : ℕ
  pub bare : AllBareOver forward n xs from near
  pub beyond : Before forward from at
  pub run : RunOver forward n xs near at w
  pub alone : crosses n xs near ≡ false
  pub ends : crosses n xs at ≡ false

abbrev pub Found : Bool → ℕ → List Span → (from at : ℕ) → Option WidestSpan → Type 0
Found forward n xs from at found = MatchOption found (AllBareOver forward n xs from (end_of forward xs)) (Finds forward n xs from at)

-- the span of what was found, at the gap of a cut
pub record FoundAt (forward : Bool) (n : ℕ) (o : IterOptions) (cut : Cut (List ℕ)) (xs : List Span) (at : ℕ) (found : Option Span) : Type 0 where
  pub run : Option WidestSpan
  pub is : found ≡ option_map (λ w. as_span n (clipped o w)) run
  pub there : Found forward n xs (count_before (span_takes forward (inner_cut o forward cut)) xs) at run

-- A run has gone on from a gap to another one: whatever it was before, it is that and all spans up to there, and it
-- ends there.
pub record Extends (forward : Bool) (n : ℕ) (xs : List Span) (w w' : WidestSpan) (at at' : ℕ) : Type 0 where
  pub on : Upto forward at at'
  pub run : (near : ℕ) → RunOver forward n xs near at w → RunOver forward n xs near at' w'

pub record ExtendsTo (forward : Bool) (n : ℕ) (xs : List Span) (w w' : WidestSpan) (at at' : ℕ) : Type 0 where
  pub goes : Extends forward n xs w w' at at'
  pub ends : (near : ℕ) → RunOver forward n xs near at w → crosses n xs at' ≡ false

-- a run that has gone on at its near end too, as far as it goes
pub record WidensTo (forward : Bool) (n : ℕ) (xs : List Span) (w' : WidestSpan) (near far : ℕ) : Type 0 where
  pub first : ℕ
  pub on : Upto forward first near
  pub run : RunOver forward n xs first far w'
  pub alone : crosses n xs first ≡ false

abbrev pub Widens : Bool → ℕ → List Span → (w w' : WidestSpan) → ℕ → Type 0
Widens forward n xs w w' at = (near far : ℕ) → RunOver forward n xs near far w → WidensTo forward n xs w' near far × (at ≡ far)

-- a run that was gathered from a gap on, and ends where it must, is made whole
abbrev pub Completes : Bool → ℕ → List Span → (from : ℕ) → (w w' : WidestSpan) → (at at' : ℕ) → Type 0
Completes forward n xs from w w' at at' = Gathers forward n xs from at w → crosses n xs at ≡ false → Finds forward n xs from at' w'

-- The span that is lent is what a whole run has within the bounds, and the source stands behind that run.
pub record IsLent (forward : Bool) (n : ℕ) (o : IterOptions) (xs : List Span) (at : ℕ) (c : Span) : Type 0 where
  pub near : ℕ
  pub whole : WidestSpan
  pub is : c ≡ as_span n (clipped o whole)
  pub inside : is_crossed o ≡ false
  pub run : RunOver forward n xs near at whole
  pub alone : crosses n xs near ≡ false
  pub ends : crosses n xs at ≡ false

-- what a source within bounds lists, and where it stands
abbrev pub part : {S : Type 0} → (S → Listing Span) → Bounding S → Listing Span
part listing b = lists span_takes listing b

abbrev pub place : {S : Type 0} → (S → Listing Span) → (S → Standing Span) → Bounding S → Standing Span
place listing standing b = stands span_takes listing standing b

-- nothing is read but what the source owes
abbrev pub Pays : {S T : Type 0} → (S → Listing Span) → (S → Standing Span) → Bounding S → Bounding S → Counts → Counts → Result T SourceError → Type 0
Pays listing standing b b' before now result = Costs (part listing b) (place listing standing b).owed (place listing standing b').owed before now 0 0 result

-- from one gap to another of its list, where it is told
abbrev pub Goes : Option (List Span) → Option ℕ → Option ℕ → (List Span → ℕ → ℕ → Type 0) → Type 0
Goes held from at P = IfSome held (λ xs. IfSome from (λ g. IfSome at (P xs g)))

-- the source is cut at the bounds of the options, whose keys are keys
pub record IsWithin {S : Type 0} (o : IterOptions) (b : Bounding S) : Type 0 where
  pub lower : b.lower ≡ o.lower
  pub upper : b.upper ≡ o.upper
  pub keys : KeyBounds o

-- the source faces a direction and stands behind the span that is lent
pub record Arrives {S : Type 0} (listing : S → Listing Span) (standing : S → Standing Span) (n : ℕ) (o : IterOptions) (b : Bounding S) (forward : Bool) (c : Span) : Type 0 where
  pub faces : IsFacing forward (place listing standing b)
  pub lent : IfSome (part listing b).held (λ xs. IfSome (place listing standing b).gap (λ at. IsLent forward n o xs at c))
  pub among : IfSome (listing b.source).held (λ ss. Among c (joined n o ss))

pub record IsDefragging {S : Type 0} (listing : S → Listing Span) (standing : S → Standing Span) (d : Defragging S) : Type 0 where
  pub within : IsWithin d.options d.source
  pub known : IfSome d.current (λ c. is_some d.facing ≡ true)
  pub arrives : IfSome d.facing (λ forward. IfSome d.current (Arrives listing standing d.n d.options d.source forward))
