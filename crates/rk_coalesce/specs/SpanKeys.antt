-- The range keys of a span as entries over its keys, and what they give there.
use Rattle.std.specs.Prelude.{◌≡◌, ℕ, Bool, true, List, map, filter}
use Rattle.rk_model.specs.Operations.{within}
use Rattle.rk_model.specs.Covers.{upto, cover, cover_of}
use Rattle.rk_model.specs.Kept.{is_kept, kept}
use Rattle.rk_model.specs.declared.op.Op.{Op}
use Rattle.rk_model.specs.declared.op.Op.TheVariants.{RangeSet, RangeUnset, RangeDel}
use Rattle.rk_model.specs.declared.op.Entry.{Entry}
use Rattle.rk_model.specs.declared.span.RangeKind.{RangeKind}
use Rattle.rk_model.specs.declared.span.RangeKind.TheVariants.{Set, Unset, Del}
use Rattle.rk_model.specs.declared.span.RangeKey.{RangeKey}
use Rattle.rk_model.specs.declared.span.Span.{Span}

-- what a range key of a kind does over a span
abbrev pub op_of : List ℕ → List ℕ → RangeKind → List ℕ → List ℕ → Op
op_of start end Set suffix value = RangeSet start end suffix value
op_of start end Unset suffix value = RangeUnset start end suffix
op_of start end Del suffix value = RangeDel start end

-- a range key as the entry of its operation over the span
abbrev pub entry_of : Span → RangeKey → Entry
entry_of span k = record { op = op_of span.start span.end k.kind k.suffix k.value; seq = k.seq }

abbrev pub span_entries : Span → List Entry
span_entries span = map (entry_of span) span.keys

-- the range keys of a span whose entries are kept, in the span's order
abbrev pub kept_keys : Span → List ℕ → Bool → List RangeKey
kept_keys span stripes bottom = filter (λ k. is_kept (span_entries span) stripes bottom (entry_of span k)) span.keys

-- at each key of a span this is the cover there
abbrev pub CoverAtEachKey : Type 0
CoverAtEachKey = (span : Span) (n : ℕ) (x : List ℕ) → within span.start span.end x ≡ true →
    cover (upto n (span_entries span)) x ≡ cover_of (upto n (span_entries span))

-- at each key of a span these are the entries that are kept there
abbrev pub KeptAtEachKey : Type 0
KeptAtEachKey = (span : Span) (stripes : List ℕ) (bottom : Bool) (x : List ℕ) → within span.start span.end x ≡ true →
    kept (span_entries span) stripes bottom x ≡ map (entry_of span) (kept_keys span stripes bottom)
