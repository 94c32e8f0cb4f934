-- How the sources are placed at a cut, and go on from it to the nearest position.
use Rattle.std.specs.Prelude.{◌≡◌, ℕ, ◌<◌, ◌≤◌, Bool, true, false, ◌&&◌, ◌||◌, not, List, if◌then◌else◌, Option, Some, None, is_some, IfSome, Result, OnOk}
use Rattle.std.specs.List.{slice_get}
use Rattle.std.specs.Option.{option_map, option_map_or, option_and_then}
use Rattle.std.specs.Ordering.{is_lt, is_eq}
use Rattle.rk_key.specs.Keys.{key_cmp}
use Rattle.rk_outside.specs.Causes.{HasSourceCause}
use Rattle.rk_outside.specs.Counts.{Counts}
use Rattle.rk_outside.specs.declared.error.SourceError.{SourceError}
use Rattle.rk_model.specs.Cuts.{count_before, gap_past, is_passed}
use Rattle.rk_model.specs.Covers.{put_value}
use Rattle.rk_model.specs.Items.{point_takes}
use Rattle.rk_model.specs.Operations.{within}
use Rattle.rk_model.specs.Sources.{op_key}
use Rattle.rk_model.specs.Standings.{Listing, Standing}
use Rattle.rk_model.specs.declared.op.Entry.{Entry}
use Rattle.rk_model.specs.declared.span.Span.{Span}
use Rattle.rk_model.specs.declared.cut.Cut.{Cut}
use Rattle.rk_model.specs.declared.cut.Cut.TheVariants.{Start, Below, Past, End}
use Rattle.rk_model.specs.declared.options.IterOptions.{IterOptions}
use Rattle.rk_sources.specs.Bounds.{Bounding, bounded, stands_between}
use Rattle.rk_span_laws.specs.Given.{is_hidden_in, is_sooner}

-- the points within the bounds, as a source: what they are, and where they stand
abbrev pub inner_listing : {P : Type 0} → (P → Listing Entry) → Bounding P → Listing Entry
inner_listing listing b = bounded (λ forward cut e. point_takes cut e) b.lower b.upper (listing b.source)

abbrev pub inner_standing : {P : Type 0} → (P → Listing Entry) → (P → Standing Entry) → Bounding P → Standing Entry
inner_standing listing standing b = stands_between (λ forward cut e. point_takes cut e) b.lower b.upper b.facing (listing b.source).held (standing b.source)

-- what a call read
pub record IsRead {T : Type 0} (may_name : ℕ → ℕ → Bool) (before now : Counts) (result : Result T SourceError) : Type 0 where
  pub cause : HasSourceCause may_name before.faults now.faults result
  pub later : before.reads ≤ now.reads

-- a source keeps its list, and where the call is well it stands at a gap and faces the direction
pub record Arrives {A T : Type 0} (l l' : Listing A) (s' : Standing A) (forward : Bool) (to : List A → Option ℕ) (result : Result T SourceError) : Type 0 where
  pub same : l' ≡ l
  pub known : OnOk result (is_some s'.gap ≡ true)
  pub faces : OnOk result (s'.forward ≡ forward)
  pub there : OnOk result (IfSome l.held (λ xs. s'.gap ≡ to xs))

-- a source goes on to a cut, or seeks it
abbrev pub cut_gap : {A : Type 0} → Bool → Bool → (A → Bool) → Standing A → List A → Option ℕ
cut_gap passes forward takes s xs = if passes then option_map (gap_past forward (count_before takes xs)) s.gap else Some (count_before takes xs)

-- the points don't go on yet
abbrev pub point_gap : Bool → (Entry → Bool) → Standing Entry → List Entry → Option ℕ
point_gap passes takes s xs = if passes then s.gap else Some (count_before takes xs)

-- a key stands before a cut
abbrev pub key_before : Cut (List ℕ) → List ℕ → Bool
key_before Start x = false
key_before (Below k) x = is_lt (key_cmp x k)
key_before (Past k) x = not (is_lt (key_cmp k x))
key_before End x = true

-- the items behind a gap in a direction, and those ahead of it, by their places
abbrev pub IsAhead : Bool → (gap at : ℕ) → Type 0
IsAhead true g i = g ≤ i
IsAhead false g i = i < g

abbrev pub IsBehind : Bool → (gap at : ℕ) → Type 0
IsBehind true g i = i < g
IsBehind false g i = g ≤ i

-- a point lies in a span whose range keys hide it
abbrev pub is_hidden_by : IterOptions → Option Span → List ℕ → Bool
is_hidden_by o span x = option_map_or (λ s. within s.start s.end x && is_hidden_in o (Some s) x) span false

-- a point that is stepped over on the way: one that the cut passes, or that is hidden
abbrev pub is_stepped_over : Bool → Cut (List ℕ) → IterOptions → Option Span → Entry → Bool
is_stepped_over forward cut o span e = is_passed forward (point_takes cut e) || is_hidden_by o span (op_key e.op)

-- From one gap to another: what lies between is stepped over, and what is seen there is not.
abbrev pub SteppedOver : {A : Type 0} → Bool → (A → Bool) → Option (List A) → Option ℕ → Option ℕ → Type 0
SteppedOver forward over held gap gap' = IfSome held (λ xs. IfSome gap (λ g. IfSome gap' (λ g'. (i : ℕ) (x : _) → slice_get xs i ≡ Some x → IsAhead forward g i → IsBehind forward g' i → over x ≡ true)))

pub record GoesOver {A T : Type 0} (forward : Bool) (over : A → Bool) (l : Listing A) (s s' : Standing A) (result : Result T SourceError) : Type 0 where
  pub known : OnOk result (is_some s'.gap ≡ true)
  pub faces : OnOk result (s'.forward ≡ forward)
  pub between : OnOk result (SteppedOver forward over l.held s.gap s'.gap)
  pub seen : OnOk result (IfSome s'.here (λ x. over x ≡ false))

-- Forward the span that is seen has begun where its start stands before the cut. Backward each one has. In a span that
-- has begun, points that are hidden are stepped over.
abbrev pub has_begun : Bool → Cut (List ℕ) → Option Span → Bool
has_begun forward cut span = forward && option_map_or (λ s. key_before cut s.start) span false

abbrev pub open_span : Bool → Cut (List ℕ) → Option Span → Option Span
open_span forward cut span = if not forward || has_begun forward cut span then span else None

-- the point that is seen lies in the span
abbrev pub is_in : Option Span → Option Entry → Bool
is_in span here = option_map_or (λ e. option_map_or (λ s. within s.start s.end (op_key e.op)) span false) here false

-- the span that has begun is left where the next point is not in it
abbrev pub is_left : Bool → Cut (List ℕ) → Option Span → Option Entry → Bool
is_left forward cut span here = has_begun forward cut span && not (is_in span here)

-- the span over a key is the one that is seen, or none
abbrev pub seen_over : Option Span → List ℕ → Option Span
seen_over span x = option_and_then (λ s. if within s.start s.end x then Some s else None) span

-- the value of the point that is seen, if it is at the key and isn't hidden
abbrev pub seen_value : IterOptions → Option Entry → Option Span → List ℕ → Option (List ℕ)
seen_value o here span x = option_and_then (λ e. if is_eq (key_cmp (op_key e.op) x) && not (is_hidden_in o span x) then put_value e.op else None) here

-- the nearer of two keys
abbrev pub nearer : Bool → Option (List ℕ) → Option (List ℕ) → Option (List ℕ)
nearer forward None b = b
nearer forward (Some x) None = Some x
nearer forward (Some x) (Some y) = Some (if is_sooner forward y x then y else x)

-- the nearest position: the key of the point that is seen, or where the span begins, if it has not
abbrev pub nearest : Bool → Bool → Option Entry → Option Span → Option (List ℕ)
nearest forward begun here span = nearer forward (option_map (λ e. op_key e.op) here) (if begun then None else option_map (λ s. s.start) span)
