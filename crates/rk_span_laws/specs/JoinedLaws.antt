-- Laws of the widest spans of spans.
use Rattle.std.specs.Prelude.{◌≡◌, ℕ, true, false, IsTrue, List, []}
use Rattle.rk_key.specs.Keys.{IsKey}
use Rattle.rk_model.specs.Lists.{Among}
use Rattle.rk_model.specs.Operations.{within}
use Rattle.rk_model.specs.Covers.{upto, cover, cover_of}
use Rattle.rk_model.specs.Spans.{in_bounds}
use Rattle.rk_model.specs.Items.{keyed_extents, keyed_spans}
use Rattle.rk_model.specs.declared.span.Span.{Span}
use Rattle.rk_model.specs.declared.options.IterOptions.{IterOptions}
use Rattle.rk_coalesce.specs.SpanKeys.{span_entries}
use Rattle.rk_laws.specs.SameCells.{KeyBounds}
use Rattle.rk_span_laws.specs.Joined.{entries_of, joined}

-- at a key of a span they give the cover of that span's range keys
abbrev pub SpanHasItsCover : Type 0
SpanHasItsCover = (n : ℕ) (ss : List Span) → IsTrue (keyed_extents ss) → (s : Span) (x : List ℕ) → Among s ss → within s.start s.end x ≡ true →
    cover (upto n (entries_of ss)) x ≡ cover_of (upto n (span_entries s))

-- and no cover at a key of none
abbrev pub NoSpanNoCover : Type 0
NoSpanNoCover = (n : ℕ) (ss : List Span) (x : List ℕ) → ((s : Span) → Among s ss → within s.start s.end x ≡ false) → cover (upto n (entries_of ss)) x ≡ []

-- the widest spans of spans in order are in order
abbrev pub JoinedAreInOrder : Type 0
JoinedAreInOrder = (n : ℕ) (o : IterOptions) (ss : List Span) → KeyBounds o → IsTrue (keyed_extents ss) → IsTrue (keyed_extents (joined n o ss))

-- where the range keys of each are the newest first, they give the same covers within the bounds
abbrev pub JoinedHaveTheCovers : Type 0
JoinedHaveTheCovers = (n : ℕ) (o : IterOptions) (ss : List Span) → KeyBounds o → IsTrue (keyed_spans ss) → (x : List ℕ) → IsKey x → in_bounds o x ≡ true →
    cover (entries_of (joined n o ss)) x ≡ cover (upto n (entries_of ss)) x

-- and are the widest ones of themselves
abbrev pub JoinedStayJoined : Type 0
JoinedStayJoined = (n : ℕ) (o : IterOptions) (ss : List Span) → KeyBounds o → IsTrue (keyed_spans ss) → joined n o (joined n o ss) ≡ joined n o ss
