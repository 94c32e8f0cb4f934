-- Laws of two lists of entries with the same covers and points within an iterator's bounds: the iterator
-- can't tell them apart, whichever entries made the covers and wherever they were cut.
use Rattle.std.specs.Prelude.{◌≡◌, ℕ, Bool, true, ◌&&◌, List, [], ◌∷◌, filter, IfSome}
use Rattle.std.specs.List.{All}
use Rattle.rk_key.specs.Keys.{IsKey}
use Rattle.rk_model.specs.Covers.{point, cover}
use Rattle.rk_model.specs.Spans.{in_bounds, sorted_keys, written_ends, widest_span}
use Rattle.rk_model.specs.Positions.{begins_span, positions, report}
use Rattle.rk_model.specs.Moves.{Move, First, Last, Next, Prev, SeekGe, SeekLt, moved, key_at, span_changed, after_move, reported}
use Rattle.rk_model.specs.declared.op.Op.{Op}
use Rattle.rk_model.specs.declared.op.Op.TheVariants.{Put, Del, RangeSet, RangeUnset, RangeDel}
use Rattle.rk_model.specs.declared.op.Entry.{Entry}
use Rattle.rk_model.specs.declared.options.IterOptions.{IterOptions}
use Rattle.rk_model.specs.declared.cursor.Cursor.{Cursor}

abbrev pub op_keys : Op → List (List ℕ)
op_keys (Put key value) = key ∷ []
op_keys (Del key) = key ∷ []
op_keys (RangeSet start end suffix value) = start ∷ end ∷ []
op_keys (RangeUnset start end suffix) = start ∷ end ∷ []
op_keys (RangeDel start end) = start ∷ end ∷ []

-- the keys, starts and ends of the entries are keys
abbrev pub WellFormed : List Entry → Type 0
WellFormed es = All (λ e. All IsKey (op_keys e.op)) es

abbrev pub KeyBounds : IterOptions → Type 0
KeyBounds o = IfSome o.lower IsKey × IfSome o.upper IsKey

-- one cover at each key within the bounds
abbrev pub SameCovers : List Entry → List Entry → IterOptions → Type 0
SameCovers es fs o = (x : List ℕ) → IsKey x → in_bounds o x ≡ true → cover es x ≡ cover fs x

-- one value of the point at each key within the bounds
abbrev pub SamePoints : List Entry → List Entry → IterOptions → Type 0
SamePoints es fs o = (x : List ℕ) → IsKey x → in_bounds o x ≡ true → point es x ≡ point fs x

-- two lists of entries that give the same covers to an iterator
pub record GiveSameCovers (es fs : List Entry) (o : IterOptions) : Type 0 where
  pub first : WellFormed es
  pub second : WellFormed fs
  pub bounds : KeyBounds o
  pub covers : SameCovers es fs o

-- two lists of entries that give the same covers and points to an iterator
pub record GiveSameCells (es fs : List Entry) (o : IterOptions) : Type 0 where
  pub covered : GiveSameCovers es fs o
  pub points : SamePoints es fs o

abbrev pub SpansOfCovers : Type 0
SpansOfCovers = (es fs : List Entry) (o : IterOptions) → GiveSameCovers es fs o → (x : List ℕ) → IsKey x → in_bounds o x ≡ true →
    widest_span es o x ≡ widest_span fs o x

-- the keys at which spans begin
abbrev pub span_starts : List Entry → IterOptions → List (List ℕ)
span_starts es o = sorted_keys (filter (λ x. in_bounds o x && begins_span es o x) (written_ends es o))

abbrev pub SpanStartsOfCovers : Type 0
SpanStartsOfCovers = (es fs : List Entry) (o : IterOptions) → GiveSameCovers es fs o → span_starts es o ≡ span_starts fs o

abbrev pub PositionsOfCells : Type 0
PositionsOfCells = (es fs : List Entry) (o : IterOptions) → GiveSameCells es fs o → positions es o ≡ positions fs o

abbrev pub ReportsOfCells : Type 0
ReportsOfCells = (es fs : List Entry) (o : IterOptions) → GiveSameCells es fs o → (x : List ℕ) → IsKey x → in_bounds o x ≡ true →
    report es o x ≡ report fs o x

-- what a move seeks is a key
abbrev pub SeeksKey : Move → Type 0
SeeksKey First = Unit {0}
SeeksKey Last = Unit {0}
SeeksKey Next = Unit {0}
SeeksKey Prev = Unit {0}
SeeksKey (SeekGe key) = IsKey key
SeeksKey (SeekLt key) = IsKey key

abbrev pub MovesOfCells : Type 0
MovesOfCells = (es fs : List Entry) (o : IterOptions) → GiveSameCells es fs o → (c : Cursor) (move : Move) → SeeksKey move →
    moved es o c move ≡ moved fs o c move

-- a cursor that is at a key is at one within the bounds
abbrev pub AtKeyWithin : IterOptions → Cursor → Type 0
AtKeyWithin o c = IfSome (key_at c) (λ x. IsKey x × (in_bounds o x ≡ true))

-- the cursor after a move is again at a key within the bounds, or at none
abbrev pub MovesToKeys : Type 0
MovesToKeys = (es : List Entry) (o : IterOptions) → WellFormed es → KeyBounds o → (c : Cursor) (move : Move) → SeeksKey move → AtKeyWithin o (moved es o c move)

abbrev pub ChangesOfCovers : Type 0
ChangesOfCovers = (es fs : List Entry) (o : IterOptions) → GiveSameCovers es fs o → (old new : Cursor) → AtKeyWithin o old → AtKeyWithin o new →
    span_changed es o old new ≡ span_changed fs o old new

-- an iterator over the one list and an iterator over the other, both where a cursor stands, show the same after a move
abbrev pub ViewsOfCells : Type 0
ViewsOfCells = (es fs : List Entry) (o : IterOptions) → GiveSameCells es fs o → (c : Cursor) (before : Bool) → AtKeyWithin o c → (move : Move) → SeeksKey move →
    let v = after_move (record { sees = es; options = o; cursor = c; changed = before }) move in
    let w = after_move (record { sees = fs; options = o; cursor = c; changed = before }) move in
    (v.cursor ≡ w.cursor) × (v.changed ≡ w.changed) × (reported v ≡ reported w)
