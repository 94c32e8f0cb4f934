-- What an iterator over chunks is over: its lists are told, and name no bad table.
use Rattle.std.proofs.Common.{◌≡◌, ℕ, Bool, true, false, ◌&&◌, ◌||◌, List, [], ◌∷◌, ◌++◌, map, Some, None, refl, ap, ◌∙◌}
use Rattle.std.specs.Prelude.{not, is_some, option_and_then, option_map, if◌then◌else◌}
use Rattle.rk_model.specs.Items.{keyed_points, keyed_extents, keyed_spans, sound}
use Rattle.rk_model.specs.Standings.{Listing, names}
use Rattle.rk_model.specs.declared.op.Entry.{Entry}
use Rattle.rk_model.specs.declared.span.Span.{Span}
use Rattle.rk_model.specs.declared.options.IterOptions.{IterOptions}
use Rattle.rk_fragment.specs.Fragments.{fragments}
use Rattle.rk_merge.specs.Pools.{told_items, all_told, some_names}
use Rattle.rk_merge.specs.Unions.{union}
use Rattle.rk_pointmerge.specs.Merges.{comes_before, united as united_points}
use Rattle.rk_pointmerge.specs.Visibles.{visible}
use Rattle.rk_spanmerge.specs.Merges.{cut_spans, pooled, united as united_spans}
use Rattle.rk_span_laws.specs.Joined.{joined}
use Rattle.rk_span_laws.specs.Given.{given}
use Rattle.rk_merge_laws.specs.Chunks.{all_fragments}
use Rattle.rk_merge_laws.specs.Cells.{points_within, all_within, visible_within, joined_within, SourcesGive}
use Rattle.rk_interleave.specs.Interleaving.{IsOver, some_name}
use Rattle.rk_iter.specs.Inside.{bounded_points, inside_points, inside_spans, point_list, span_list}

names_none : (told bad : Bool) → bad ≡ false → (not told && bad) ≡ false
names_none true bad e = refl
names_none false bad e = e

module _ (n : ℕ) (o : IterOptions) where
  abbrev points_there : List (List Entry) → List (Listing Entry)
  points_there ess = map (bounded_points o) (map point_list ess)

  points_listed : (ess : List (List Entry)) → map told_items (points_there ess) ≡ map (points_within o) ess
  points_listed [] = refl
  points_listed (es ∷ ess) = ap (λ xss. points_within o es ∷ xss) (points_listed ess)

  points_told : (ess : List (List Entry)) → all_told (points_there ess) ≡ true
  points_told [] = refl
  points_told (es ∷ ess) = points_told ess

  points_unnamed : (ess : List (List Entry)) (file at : ℕ) → some_names (points_there ess) file at ≡ false
  points_unnamed [] file at = refl
  points_unnamed (es ∷ ess) file at = points_unnamed ess file at

  spans_listed : (ess : List (List Entry)) → pooled (map span_list ess) ≡ all_fragments ess
  spans_listed [] = refl
  spans_listed (es ∷ ess) = ap (λ ss. fragments es ++ ss) (spans_listed ess)

  spans_told : (ess : List (List Entry)) → all_told (map span_list ess) ≡ true
  spans_told [] = refl
  spans_told (es ∷ ess) = spans_told ess

  spans_unnamed : (ess : List (List Entry)) (file at : ℕ) → some_names (map span_list ess) file at ≡ false
  spans_unnamed [] file at = refl
  spans_unnamed (es ∷ ess) file at = spans_unnamed ess file at

  points_held : (ess : List (List Entry)) → SourcesGive n o ess → united_points (points_there ess) ≡ Some (all_within o ess)
  points_held ess g =
      ap (λ b. if b then sound keyed_points (union comes_before (map told_items (points_there ess))) else None) (points_told ess)
      ∙ ap (λ xss. sound keyed_points (union comes_before xss)) (points_listed ess)
      ∙ ap (λ b. if b then Some (all_within o ess) else None) g.points

  spans_held : (ess : List (List Entry)) → SourcesGive n o ess → united_spans (map span_list ess) ≡ Some (cut_spans (all_fragments ess))
  spans_held ess g =
      ap (λ b. if b then sound keyed_spans (cut_spans (pooled (map span_list ess))) else None) (spans_told ess)
      ∙ ap (λ ss. sound keyed_spans (cut_spans ss)) (spans_listed ess)
      ∙ ap (λ b. if b then Some (cut_spans (all_fragments ess)) else None) g.spans

  module _ (ess : List (List Entry)) (p : Listing Entry) (s : Listing Span) (points : p ≡ inside_points n o (map point_list ess)) (spans : s ≡ inside_spans n o (map span_list ess)) where
    pub is_over : SourcesGive n o ess → IsOver o p s (given (visible_within n o ess) (joined_within n o ess))
    is_over g = record {
      puts = visible_within n o ess;
      joins = joined_within n o ess;
      number = n;
      told = ap (λ (l : Listing Entry). l.held) points ∙ ap (λ held. option_map (visible n) held) (points_held ess g);
      spread =
          ap (λ (l : Listing Span). l.held) spans
          ∙ ap (λ held. option_and_then (λ ss. sound keyed_extents (joined n o ss)) held) (spans_held ess g)
          ∙ ap (λ b. if b then Some (joined_within n o ess) else None) g.joins;
      shown = g.shown;
      is = refl;
    }

    pub none_named : (file at : ℕ) → some_name p s file at ≡ false
    none_named file at =
        let first : names p file at ≡ false =
        ap (λ (l : Listing Entry). names l file at) points
        ∙ names_none (is_some (inside_points n o (map point_list ess)).held) (some_names (points_there ess) file at) (points_unnamed ess file at) in
        let second : names s file at ≡ false =
        ap (λ (l : Listing Span). names l file at) spans
        ∙ names_none (is_some (inside_spans n o (map span_list ess)).held) _
        (names_none (is_some (united_spans (map span_list ess))) (some_names (map span_list ess) file at) (spans_unnamed ess file at)) in
        (λ i. first i || second i)
