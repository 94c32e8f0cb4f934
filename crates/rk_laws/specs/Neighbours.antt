-- Laws of one list of entries: where its widest spans begin and end, and where a cursor may be.
use Rattle.std.specs.Prelude.{◌≡◌, ◌≢◌, ℕ, Bool, true, false, ◌&&◌, ◌⊎◌, List, [], Some}
use Rattle.std.specs.List.{list_any}
use Rattle.std.specs.Ordering.{is_lt}
use Rattle.rk_key.specs.Keys.{key_cmp}
use Rattle.rk_model.specs.Operations.{within}
use Rattle.rk_model.specs.Covers.{cover}
use Rattle.rk_model.specs.Spans.{in_bounds, written_ends, WidestSpan, widest_span, KeysRise}
use Rattle.rk_model.specs.Positions.{positions}
use Rattle.rk_model.specs.Moves.{Move, moved}
use Rattle.rk_model.specs.declared.op.Entry.{Entry}
use Rattle.rk_model.specs.declared.options.IterOptions.{IterOptions}
use Rattle.rk_model.specs.declared.cursor.Cursor.{Cursor}
use Rattle.rk_model.specs.declared.cursor.Cursor.TheVariants.{At}

-- each key within the bounds that has a cover has a span, which is over the key and has its cover
abbrev pub SpanOfEachCover : Type 0
SpanOfEachCover = (es : List Entry) (o : IterOptions) (x : List ℕ) → in_bounds o x ≡ true → cover es x ≢ [] →
    (s : WidestSpan) × ((widest_span es o x ≡ Some s) × (within s.start s.end x ≡ true) × (s.cover ≡ cover es x))

-- each key of a span has the cover of the span, and is within the bounds
abbrev pub SpanHasOneCover : Type 0
SpanHasOneCover = (es : List Entry) (o : IterOptions) (x y : List ℕ) (s : WidestSpan) → in_bounds o x ≡ true → widest_span es o x ≡ Some s →
    within s.start s.end y ≡ true → (cover es y ≡ s.cover) × (in_bounds o y ≡ true)

-- each key of a span has this span
abbrev pub SpanOfItsKeys : Type 0
SpanOfItsKeys = (es : List Entry) (o : IterOptions) (x y : List ℕ) (s : WidestSpan) → in_bounds o x ≡ true → widest_span es o x ≡ Some s →
    within s.start s.end y ≡ true → widest_span es o y ≡ Some s

-- the end of a span is the upper bound, or has another cover
abbrev pub SpanEndDiffers : Type 0
SpanEndDiffers = (es : List Entry) (o : IterOptions) (x : List ℕ) (s : WidestSpan) → in_bounds o x ≡ true → widest_span es o x ≡ Some s →
    (o.upper ≡ Some s.end) ⊎ (cover es s.end ≢ s.cover)

abbrev pub is_between : List ℕ → List ℕ → List ℕ → Bool
is_between y z w = is_lt (key_cmp y w) && is_lt (key_cmp w z)

-- just before the start of a span, after the last written end there, the cover is another
abbrev pub BeforeSpanDiffers : Type 0
BeforeSpanDiffers = (es : List Entry) (o : IterOptions) (x y : List ℕ) (s : WidestSpan) → in_bounds o x ≡ true → widest_span es o x ≡ Some s →
    in_bounds o y ≡ true → is_lt (key_cmp y s.start) ≡ true → list_any (is_between y s.start) (written_ends es o) ≡ false → cover es y ≢ s.cover

abbrev pub PositionsRise : Type 0
PositionsRise = (es : List Entry) (o : IterOptions) → KeysRise (positions es o)

abbrev pub CursorWithinBounds : Type 0
CursorWithinBounds = (es : List Entry) (o : IterOptions) (c : Cursor) (move : Move) (x : List ℕ) → moved es o c move ≡ At x → in_bounds o x ≡ true
