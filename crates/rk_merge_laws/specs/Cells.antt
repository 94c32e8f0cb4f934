-- What the chunks of a list of sources give to an iterator, and the cells of their entries.
use Rattle.std.specs.Prelude.{ℕ, List, filter, map, IsTrue}
use Rattle.std.specs.List.{AllByRecursion}
use Rattle.rk_model.specs.Covers.{upto, is_point}
use Rattle.rk_model.specs.Items.{point_takes, are_keyed, keyed_points, keyed_extents, keyed_spans}
use Rattle.rk_model.specs.declared.op.Entry.{Entry}
use Rattle.rk_model.specs.declared.span.Span.{Span}
use Rattle.rk_model.specs.declared.options.IterOptions.{IterOptions}
use Rattle.rk_fragment.specs.Fragments.{fragments}
use Rattle.rk_laws.specs.SameCells.{KeyBounds, GiveSameCells}
use Rattle.rk_merge.specs.Laws.{union_of}
use Rattle.rk_pointmerge.specs.Visibles.{visible}
use Rattle.rk_sources.specs.Bounds.{between}
use Rattle.rk_spanmerge.specs.Merges.{cut_spans}
use Rattle.rk_span_laws.specs.Joined.{joined}
use Rattle.rk_span_laws.specs.Given.{given, AreShown}
use Rattle.rk_merge_laws.specs.Chunks.{all_of, all_fragments, NumbersDifferOver}

-- the points of a chunk, and those of them that lie within the bounds
abbrev pub points_of : List Entry → List Entry
points_of es = filter (λ e. is_point e.op) es

abbrev pub points_within : IterOptions → List Entry → List Entry
points_within o es = between (λ forward. point_takes) o.lower o.upper (points_of es)

-- the points of all chunks that lie within the bounds
abbrev pub all_within : IterOptions → List (List Entry) → List Entry
all_within o ess = union_of (map (points_within o) ess)

-- what is visible of them at a number
abbrev pub visible_within : ℕ → IterOptions → List (List Entry) → List Entry
visible_within n o ess = visible n (all_within o ess)

-- the widest spans of the fragments of all chunks
abbrev pub joined_within : ℕ → IterOptions → List (List Entry) → List Span
joined_within n o ess = joined n o (cut_spans (all_fragments ess))

-- Chunks as sources hold them: points in order, fragments in order, and keys that are keys.
pub record AreTold (ess : List (List Entry)) : Type 0 where
  pub points : AllByRecursion (λ es. IsTrue (keyed_points (points_of es))) ess
  pub spans : AllByRecursion (λ es. IsTrue (keyed_spans (fragments es))) ess
  pub keyed : AllByRecursion (λ es. IsTrue (are_keyed es)) ess

-- All that an iterator needs: the merges of points and of spans are told, and so are the widest spans; and what is
-- shown has the cells of the entries numbered at most n.
pub record SourcesGive (n : ℕ) (o : IterOptions) (ess : List (List Entry)) : Type 0 where
  pub points : IsTrue (keyed_points (all_within o ess))
  pub spans : IsTrue (keyed_spans (cut_spans (all_fragments ess)))
  pub joins : IsTrue (keyed_extents (joined_within n o ess))
  pub shown : AreShown n o (visible_within n o ess) (joined_within n o ess)
  pub cells : GiveSameCells (given (visible_within n o ess) (joined_within n o ess)) (upto n (all_of ess)) o

-- Chunks that are told, whose numbers differ over each key, give an iterator its entries.
abbrev pub GivenHasTheCells : Type 0
GivenHasTheCells = (n : ℕ) (o : IterOptions) (ess : List (List Entry)) → KeyBounds o → AreTold ess → NumbersDifferOver ess → SourcesGive n o ess
