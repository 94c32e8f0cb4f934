-- What an interleaver shows of the points and spans that it is over.
use Rattle.std.specs.Prelude.{◌≡◌, ℕ, ◌≤◌, Bool, ◌||◌, List, Option, Some, is_some, Result, OnOk, OnErr, IfOk}
use Rattle.rk_outside.specs.Causes.{HasSourceCause}
use Rattle.rk_outside.specs.Counts.{Counts}
use Rattle.rk_outside.specs.declared.error.SourceError.{SourceError}
use Rattle.rk_model.specs.Spans.{WidestSpan}
use Rattle.rk_model.specs.Moves.{Move, View, after_move, key_at, reported_value, reported_span}
use Rattle.rk_model.specs.Standings.{Listing, names}
use Rattle.rk_model.specs.declared.op.Entry.{Entry}
use Rattle.rk_model.specs.declared.span.Span.{Span}
use Rattle.rk_model.specs.declared.options.IterOptions.{IterOptions}
use Rattle.rk_model.specs.declared.cursor.Cursor.{Cursor}
use Rattle.rk_span_laws.specs.Given.{given, AreShown}

-- The sources, the options, and what is lent: the cursor, the value of the point there, the span there, and whether
-- the last move changed it. And the direction in which the sources stand at the cursor, or none where they are lost.
pub record Interleaving (P S : Type 0) : Type 0 where
  pub points : P
  pub spans : S
  pub options : IterOptions
  pub cursor : Cursor
  pub value : Option (List ℕ)
  pub span : Option WidestSpan
  pub changed : Bool
  pub facing : Option Bool

-- The entries that an interleaver is over: both lists are told, each point is a put and the only one of its key, and
-- the spans are the widest within the bounds, with their covers as range keys.
pub record IsOver (o : IterOptions) (points : Listing Entry) (spans : Listing Span) (es : List Entry) : Type 0 where
  pub puts : List Entry
  pub joins : List Span
  pub number : ℕ
  pub told : points.held ≡ Some puts
  pub spread : spans.held ≡ Some joins
  pub shown : AreShown number o puts joins
  pub is : es ≡ given puts joins

-- an iterator over some entries that stands where the interleaver does
abbrev pub view_of : {P S : Type 0} → List Entry → Interleaving P S → View
view_of es m = record { sees = es; options = m.options; cursor = m.cursor; changed = m.changed }

-- what is lent is what it reports
pub record Lends {P S : Type 0} (es : List Entry) (m : Interleaving P S) : Type 0 where
  pub value : m.value ≡ reported_value (view_of es m)
  pub span : m.span ≡ reported_span (view_of es m)

-- all that is lent
abbrev pub Lent : Type 0
Lent = Cursor × Option (List ℕ) × Option WidestSpan × Bool

abbrev pub lent : {P S : Type 0} → Interleaving P S → Lent
lent m = (m.cursor, m.value, m.span, m.changed)

-- A move. No list and no option changes. Where it is well it leads to where the definition says, over the entries
-- that the interleaver is over, and what is lent is what is reported there; where it is refused, what is lent stays.
pub record Moves {P S : Type 0} (listing : P → Listing Entry) (spread : S → Listing Span) (m m' : Interleaving P S) (move : Move) (result : Result Bool SourceError) : Type 0 where
  pub points : listing m'.points ≡ listing m.points
  pub spans : spread m'.spans ≡ spread m.spans
  pub options : m'.options ≡ m.options
  pub moved : OnOk result ((es : List Entry) → IsOver m.options (listing m.points) (spread m.spans) es → view_of es m' ≡ after_move (view_of es m) move)
  pub lends : OnOk result ((es : List Entry) → IsOver m.options (listing m.points) (spread m.spans) es → Lends es m')
  pub answer : IfOk result (λ there. there ≡ is_some (key_at m'.cursor))
  pub stays : OnErr result (lent m' ≡ lent m)

-- why it is refused: what is named as no table's is so named by one of the sources
abbrev pub some_name : Listing Entry → Listing Span → ℕ → ℕ → Bool
some_name l k file at = names l file at || names k file at

-- no read is taken back
pub record Reads {P S : Type 0} (listing : P → Listing Entry) (spread : S → Listing Span) (m : Interleaving P S) (before now : Counts) (result : Result Bool SourceError) : Type 0 where
  pub cause : HasSourceCause (some_name (listing m.points) (spread m.spans)) before.faults now.faults result
  pub later : before.reads ≤ now.reads
