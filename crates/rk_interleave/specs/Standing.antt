-- What an interleaver keeps: where its sources stand, and what is lent.
use Rattle.std.specs.Prelude.{◌≡◌, ℕ, Bool, true, false, ◌&&◌, not, List, if◌then◌else◌, Option, Some, None, is_some, IfSome, Result, OnOk, OnErr, IfOk}
use Rattle.std.specs.List.{slice_get}
use Rattle.std.specs.Option.{option_map, option_map_or}
use Rattle.std.specs.Ordering.{is_lt}
use Rattle.rk_key.specs.Keys.{key_cmp}
use Rattle.rk_outside.specs.declared.error.SourceError.{SourceError}
use Rattle.rk_model.specs.Cuts.{is_passed, count_before, gap_on}
use Rattle.rk_model.specs.Items.{point_takes, span_takes}
use Rattle.rk_model.specs.Moves.{key_at, at_or}
use Rattle.rk_model.specs.Plain.{at_cursor}
use Rattle.rk_model.specs.Positions.{positions}
use Rattle.rk_model.specs.Standings.{Listing, Standing, IsTold}
use Rattle.rk_model.specs.declared.op.Entry.{Entry}
use Rattle.rk_model.specs.declared.span.Span.{Span}
use Rattle.rk_model.specs.declared.options.IterOptions.{IterOptions}
use Rattle.rk_model.specs.declared.cursor.Cursor.{Cursor}
use Rattle.rk_model.specs.declared.cursor.Cursor.TheVariants.{Start as AtStart, End as AtEnd}
use Rattle.rk_model.specs.declared.cut.Cut.{Cut}
use Rattle.rk_model.specs.declared.cut.Cut.TheVariants.{Start, Below, Past, End}
use Rattle.rk_laws.specs.SameCells.{AtKeyWithin}
use Rattle.rk_sources.specs.Bounds.{Bounding}
use Rattle.rk_span_laws.specs.Given.{near_of}
use Rattle.rk_interleave.specs.Interleaving.{Interleaving, IsOver, Lends, view_of, lent}
use Rattle.rk_interleave.specs.Settling.{inner_listing, inner_standing, IsBehind, point_gap, cut_gap, SteppedOver, is_stepped_over, open_span, is_left, has_begun, seen_over, seen_value}
use Rattle.rk_interleave.specs.Showing.{Showing, shown_at, shown_off}

-- the cut beside a key, behind which the next key is looked for
abbrev pub beside : Bool → List ℕ → Cut (List ℕ)
beside forward x = if forward then Past x else Below x

-- the cut from which a move goes on: beside a key, or where its direction begins
abbrev pub cut_from : Bool → Option (List ℕ) → Cut (List ℕ)
cut_from forward from = option_map_or (beside forward) from (if forward then Start else End)

-- the key of the cursor, for a step
abbrev pub step_key : Bool → Cursor → Option (List ℕ)
step_key steps c = if steps then key_at c else None

-- what stands behind a gap is passed on the way to a cut
abbrev pub AllPassed : {A : Type 0} → Bool → (A → Bool) → Listing A → Standing A → Type 0
AllPassed forward takes l s = IfSome l.held (λ xs. IfSome s.gap (λ g. (i : ℕ) (x : _) → slice_get xs i ≡ Some x → IsBehind forward g i → is_passed forward (takes x) ≡ true))

-- a source stands in a direction
pub record Faces {A : Type 0} (forward : Bool) (s : Standing A) : Type 0 where
  pub known : is_some s.gap ≡ true
  pub faces : s.forward ≡ forward

-- the sources stand on the way on from a key
pub record Stands (forward : Bool) (s : Standing Entry) (t : Standing Span) : Type 0 where
  pub points : Faces forward s
  pub spans : Faces forward t

pub record Passed (forward : Bool) (cut : Cut (List ℕ)) (l : Listing Entry) (s : Standing Entry) (k : Listing Span) (t : Standing Span) : Type 0 where
  pub points : AllPassed forward (point_takes cut) l s
  pub spans : AllPassed forward (span_takes forward cut) k t

-- The bounds of the points are those of the options. Over what an interleaver is over, what is lent is what is
-- reported, the cursor is within the bounds, and where the sources face a direction they are not beyond the cursor.
pub record IsInterleaving {P S : Type 0} (listing : P → Listing Entry) (standing : P → Standing Entry) (spread : S → Listing Span) (spanning : S → Standing Span) (b : Bounding P) (m : Interleaving P S) : Type 0 where
  pub lower : b.lower ≡ m.options.lower
  pub upper : b.upper ≡ m.options.upper
  pub stands : IfSome m.facing (λ forward. Stands forward (inner_standing listing standing b) (spanning m.spans))
  pub lends : (es : List Entry) → IsOver m.options (listing b.source) (spread m.spans) es → Lends es m
  pub inside : (es : List Entry) → IsOver m.options (listing b.source) (spread m.spans) es → AtKeyWithin m.options m.cursor
  pub passed : (es : List Entry) → IsOver m.options (listing b.source) (spread m.spans) es → IfSome m.facing (λ forward. Passed forward (cut_from forward (key_at m.cursor)) (inner_listing listing b) (inner_standing listing standing b) (spread m.spans) (spanning m.spans))

-- the interleaver, as its parts make it
abbrev pub interleaving : {P S : Type 0} → Bounding P → S → IterOptions → Showing → Option Bool → Interleaving P S
interleaving b spans options shown facing = record { points = b.source; spans = spans; options = options; cursor = shown.cursor; value = shown.value; span = shown.span; changed = shown.changed; facing = facing }

-- the keys on from a cut in a direction
abbrev pub lies_on : Bool → Cut (List ℕ) → List ℕ → Bool
lies_on forward Start x = forward
lies_on true (Below k) x = not (is_lt (key_cmp x k))
lies_on false (Below k) x = is_lt (key_cmp x k)
lies_on true (Past k) x = is_lt (key_cmp k x)
lies_on false (Past k) x = not (is_lt (key_cmp k x))
lies_on forward End x = not forward

-- the first or the last position of those on from a cut, or the end of the direction
abbrev pub arrived : Bool → Cut (List ℕ) → List Entry → IterOptions → Cursor
arrived forward cut es o = at_or (if forward then AtEnd else AtStart) (near_of forward (lies_on forward cut) (positions es o))

-- what is lent where a position is found, or none
abbrev pub shown_next : IterOptions → Bool → Option (List ℕ) → Option Entry → Option Span → Showing → Showing
shown_next o forward found here span m =
    option_map_or (λ y. shown_at m y (seen_value o here (seen_over span y) y) (seen_over span y)) found (shown_off m (if forward then AtEnd else AtStart))

-- a move to a cursor
pub record GoesTo {P S : Type 0} (listing : P → Listing Entry) (spread : S → Listing Span) (m m' : Interleaving P S) (to : List Entry → Cursor) (result : Result Bool SourceError) : Type 0 where
  pub points : listing m'.points ≡ listing m.points
  pub spans : spread m'.spans ≡ spread m.spans
  pub options : m'.options ≡ m.options
  pub moved : OnOk result ((es : List Entry) → IsOver m.options (listing m.points) (spread m.spans) es → view_of es m' ≡ at_cursor (view_of es m) (to es))
  pub lends : OnOk result ((es : List Entry) → IsOver m.options (listing m.points) (spread m.spans) es → Lends es m')
  pub answer : IfOk result (λ there. there ≡ is_some (key_at m'.cursor))
  pub stays : OnErr result (lent m' ≡ lent m)

-- From where the sources were, by way of where they were placed at the cut, to where the nearest position is seen.
pub record Travels (forward passes : Bool) (cut : Cut (List ℕ)) (o : IterOptions) (l : Listing Entry) (k : Listing Span) (s s' : Standing Entry) (t t' : Standing Span) (begun : Bool) : Type 0 where
  pub at : Standing Entry
  pub on : Standing Span
  pub told : IsTold k on
  pub faces : on.forward ≡ forward
  pub points_placed : IfSome l.held (λ xs. at.gap ≡ point_gap passes (point_takes cut) s xs)
  pub spans_placed : IfSome k.held (λ ss. on.gap ≡ cut_gap passes forward (span_takes forward cut) t ss)
  pub between : SteppedOver forward (is_stepped_over forward cut o (open_span forward cut on.here)) l.held at.gap s'.gap
  pub seen : IfSome s'.here (λ e. is_stepped_over forward cut o (open_span forward cut on.here) e ≡ false)
  pub moved : IfSome k.held (λ ss. t'.gap ≡ option_map (λ g. if is_left forward cut on.here s'.here then gap_on true g else g) on.gap)
  pub begins : begun ≡ (has_begun forward cut on.here && not (is_left forward cut on.here s'.here))

-- the sources are at a key, and the span that is seen is over it
pub record IsAtKey (key : List ℕ) (l : Listing Entry) (k : Listing Span) (s : Standing Entry) (t : Standing Span) : Type 0 where
  pub points : IfSome l.held (λ xs. s.gap ≡ Some (count_before (point_takes (Below key)) xs))
  pub spans : IfSome k.held (λ ss. t.gap ≡ Some (count_before (span_takes true (Below key)) ss))
  pub over : has_begun true (Past key) t.here ≡ true

-- a key that is given, or else the nearest position
abbrev pub given_or : Option (List ℕ) → Option (List ℕ) → Option (List ℕ)
given_or None found = found
given_or (Some k) found = Some k

-- no span is over a key, and the sources are at the nearest position on from it
pub record IsOffKey (key : List ℕ) (o : IterOptions) (l : Listing Entry) (k : Listing Span) (s s' : Standing Entry) (t t' : Standing Span) : Type 0 where
  pub begun : Bool
  pub travels : Travels true false (Below key) o l k s s' t t' begun
  pub off : has_begun true (Past key) travels.on.here ≡ false

-- a seek of a key forward: a span is over it, and the sources are at the key, or they are at the nearest position
abbrev pub Reaches : List ℕ → IterOptions → Listing Entry → Listing Span → (s s' : Standing Entry) (t t' : Standing Span) → Bool → Type 0
Reaches key o l k s s' t t' true = IsAtKey key l k s' t'
Reaches key o l k s s' t t' false = IsOffKey key o l k s s' t t'
