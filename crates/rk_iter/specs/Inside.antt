-- What an iterator over pinned chunks has inside.
use Rattle.std.specs.Prelude.{◌≡◌, ℕ, List, map, Some, IsTrue}
use Rattle.std.specs.List.{AllByRecursion}
use Rattle.rk_model.specs.Items.{point_takes, are_keyed, keyed_points, keyed_extents, keyed_spans, sound}
use Rattle.rk_model.specs.Listings.{Placing}
use Rattle.rk_model.specs.Standings.{Listing, free_listing}
use Rattle.rk_model.specs.declared.op.Entry.{Entry}
use Rattle.rk_model.specs.declared.span.Span.{Span}
use Rattle.rk_model.specs.declared.options.IterOptions.{IterOptions}
use Rattle.rk_model.specs.declared.cursor.Cursor.{Cursor}
use Rattle.rk_fragment.specs.Fragments.{fragments}
use Rattle.rk_laws.specs.SameCells.{KeyBounds, AtKeyWithin}
use Rattle.rk_pointmerge.specs.Merges.{Merging as PointMerging, merged as merged_points}
use Rattle.rk_pointmerge.specs.Visibles.{Viewing, viewed, viewing_listing}
use Rattle.rk_sources.specs.Bounds.{Bounding, bounded}
use Rattle.rk_spanmerge.specs.Merges.{Merging as SpanMerging, merged as merged_spans}
use Rattle.rk_merge_laws.specs.Chunks.{NumbersDifferOver}
use Rattle.rk_merge_laws.specs.Cells.{points_of, AreTold}
use Rattle.rk_defrag.specs.Defrags.{Defragging, defragged, defrags}

-- a source's points within the bounds
abbrev pub bounded_points : IterOptions → Listing Entry → Listing Entry
bounded_points o l = bounded (λ forward. point_takes) o.lower o.upper l

-- of sources of points what is visible at a number of those within the bounds
abbrev pub inside_points : ℕ → IterOptions → List (Listing Entry) → Listing Entry
inside_points n o ls = viewed n (merged_points (map (bounded_points o) ls))

-- of sources of spans the widest ones
abbrev pub inside_spans : ℕ → IterOptions → List (Listing Span) → Listing Span
inside_spans n o ls = defragged n o (merged_spans ls)

-- the sources over a chunk
abbrev pub point_list : List Entry → Listing Entry
point_list es = free_listing (Some (points_of es))

abbrev pub span_list : List Entry → Listing Span
span_list es = free_listing (Some (fragments es))

-- what the parts of an iterator over such sources list
abbrev pub chunk_points : Placing (List Entry) → Listing Entry
chunk_points s = free_listing (sound keyed_points s.list)

abbrev pub chunk_spans : Placing (List Span) → Listing Span
chunk_spans s = free_listing (sound keyed_extents s.list)

abbrev pub listed_points : Viewing (PointMerging (Bounding (Placing (List Entry)))) → Listing Entry
listed_points v = viewing_listing (λ m. merged_points (map (λ b. bounded (λ forward. point_takes) b.lower b.upper (chunk_points b.source)) m.sources)) v

abbrev pub listed_spans : Defragging (SpanMerging (Placing (List Span))) → Listing Span
listed_spans d = defrags (λ m. merged_spans (map chunk_spans m.sources)) d

-- sources over the points of some chunks, and over their spans, one for each
pub record HavePoints (chunks : List (List Entry)) (sources : List (Placing (List Entry))) : Type 0 where
  pub listed : map chunk_points sources ≡ map point_list chunks
  pub points : AllByRecursion (λ es. IsTrue (keyed_points (points_of es))) chunks
  pub keyed : AllByRecursion (λ es. IsTrue (are_keyed es)) chunks

pub record HaveSpans (chunks : List (List Entry)) (sources : List (Placing (List Span))) : Type 0 where
  pub listed : map chunk_spans sources ≡ map span_list chunks
  pub spans : AllByRecursion (λ es. IsTrue (keyed_spans (fragments es))) chunks

-- It lists what the chunks give; the chunks are as sources hold them, and the bounds are keys. The cursor is at a key
-- within the bounds, or at none, if over each key no two entries have one number.
pub record IsInside (chunks : List (List Entry)) (n : ℕ) (o : IterOptions) (p : Listing Entry) (s : Listing Span) (cursor : Cursor) : Type 0 where
  pub told : AreTold chunks
  pub bounds : KeyBounds o
  pub points : p ≡ inside_points n o (map point_list chunks)
  pub spans : s ≡ inside_spans n o (map span_list chunks)
  pub within : NumbersDifferOver chunks → AtKeyWithin o cursor
