-- What the sources of chunks give to an iterator has the cells of their entries.
use Rattle.std.proofs.Common.{◌≡◌, ℕ, Bool, true, false, not, List, [], map, refl, sym, ◌∙◌, subst, nat_le}
use Rattle.std.specs.Prelude.{IsTrue}
use Rattle.std.specs.List.{All, list_any, list_all}
use Rattle.rk_key.specs.Keys.{IsKey}
use Rattle.rk_model.specs.ItemLaws.{spans-extents}
use Rattle.rk_model.specs.Items.{has_keys, are_keyed, keyed_points, keyed_extents, keyed_spans}
use Rattle.rk_model.specs.Lists.{Among}
use Rattle.rk_model.specs.Operations.{within, is_over, NumbersDiffer}
use Rattle.rk_model.specs.Covers.{upto, over, is_point, point, cover}
use Rattle.rk_model.specs.Sources.{is_extent, is_span, are_spans, are_newest_first}
use Rattle.rk_model.specs.Spans.{in_bounds}
use Rattle.rk_model.specs.declared.op.Entry.{Entry}
use Rattle.rk_model.specs.declared.span.Span.{Span}
use Rattle.rk_model.specs.declared.options.IterOptions.{IterOptions}
use Rattle.rk_model.proofs.Members.{among_all, all_among, among_filter, filter_among, among_contained, contains_among, flat_map_among, every_gives, any_gives, any_false}
use Rattle.rk_model.proofs.Numbers.{some_differ}
use Rattle.rk_laws.specs.Prefixes.{points_on}
use Rattle.rk_laws.specs.SameCells.{op_keys, WellFormed, KeyBounds, GiveSameCovers, SameCovers, SamePoints}
use Rattle.rk_laws.proofs.Alike.{point_of_elements}
use Rattle.rk_laws.proofs.Plain.{cover_none}
use Rattle.rk_fragment.specs.Fragments.{keys_over}
use Rattle.rk_coalesce.specs.SpanKeys.{span_entries}
use Rattle.rk_merge.proofs.Lists.{and_parts}
use Rattle.rk_merge.proofs.Merged.{union_has_theirs}
use Rattle.rk_spanmerge.specs.Merges.{cut_spans, keys_at}
use Rattle.rk_spanmerge.proofs.Chains.{none_over}
use Rattle.rk_spanmerge.proofs.Cutting.{each_key, falling_differ}
use Rattle.rk_span_laws.specs.Joined.{entries_of}
use Rattle.rk_span_laws.specs.Given.{given, AreShown}
use Rattle.rk_span_laws.proofs.Covers.{span_has_its_cover, no_span_no_cover}
use Rattle.rk_span_laws.proofs.Giving.{no_point, same_covers as spans_cover}
use Rattle.rk_span_laws.proofs.Joining.{Settled, differ_settle, joined_ordered, joined_covers, joined_stay}
use Rattle.rk_merge_laws.specs.Chunks.{all_of, all_fragments, NumbersDifferOver}
use Rattle.rk_merge_laws.specs.Cells.{points_of, points_within, all_within, visible_within, joined_within, AreTold, SourcesGive, GivenHasTheCells}
use Rattle.rk_merge_laws.proofs.Covers.{ends_distinct, merged_span_has_the_cover}
use Rattle.rk_merge_laws.proofs.SpanKeys.{entries_differ, among_newest, pool_to, has_key, over_upto}
use Rattle.rk_merge_laws.proofs.Told.{any_all, points_told, spans_told}
use Rattle.rk_merge_laws.proofs.Within.{from_chunks, all_differ, all_keyed, in_chunk, any_map, key_over}
use Rattle.rk_merge_laws.proofs.Shown.{visible_single, visible_point, points_differ, point_before, op_keyed, well_formed}

module _ (n : ℕ) (o : IterOptions) (ess : List (List Entry)) (bounds : KeyBounds o) (told : AreTold ess) (differ : NumbersDifferOver ess) where
  points_keyed : IsTrue (keyed_points (all_within o ess))
  points_keyed = points_told (map (points_within o) ess) (all_keyed o ess told.points) (all_differ o ess differ)

  spans_keyed : IsTrue (keyed_spans (cut_spans (all_fragments ess)))
  spans_keyed = spans_told ess told.spans differ

  extents : IsTrue (keyed_extents (cut_spans (all_fragments ess)))
  extents = spans-extents (cut_spans (all_fragments ess)) spans_keyed

  joins_keyed : IsTrue (keyed_extents (joined_within n o ess))
  joins_keyed = joined_ordered n o (cut_spans (all_fragments ess)) bounds extents

  -- no two range keys of a merged span have one number
  settled : Settled n (cut_spans (all_fragments ess))
  settled = differ_settle n (cut_spans (all_fragments ess)) (all_among (λ s. NumbersDiffer (span_entries s)) (cut_spans (all_fragments ess)) differs)
    where
      differs : (s : Span) → Among s (cut_spans (all_fragments ess)) → NumbersDiffer (span_entries s)
      differs s m =
          let sorted = (and_parts (list_all is_span (cut_spans (all_fragments ess))) _ (and_parts (are_spans (cut_spans (all_fragments ess))) _ spans_keyed).0).0 in
          let newest = (and_parts (is_extent s) (are_newest_first s.keys) (every_gives is_span (cut_spans (all_fragments ess)) s sorted m)).1 in
          entries_differ s s.keys (falling_differ s.keys newest)

  are_shown : AreShown n o (visible_within n o ess) (joined_within n o ess)
  are_shown = record {
    bounds = bounds;
    single = visible_single n (all_within o ess) points_keyed;
    ordered = joins_keyed;
    widest = joined_stay n o (cut_spans (all_fragments ess)) bounds extents settled;
  }

  given_covers : GiveSameCovers (given (visible_within n o ess) (joined_within n o ess)) (entries_of (joined_within n o ess)) o
  given_covers = spans_cover n o (visible_within n o ess) (joined_within n o ess) are_shown

  entries_formed : WellFormed (upto n (all_of ess))
  entries_formed = well_formed (upto n (all_of ess)) keys
    where
      keys : (e : Entry) → Among e (upto n (all_of ess)) → All IsKey (op_keys e.op)
      keys e m =
          let chunk = flat_map_among (λ es. es) ess e (filter_among (λ e. nat_le e.seq n) (all_of ess) e m).0 in
          op_keyed e.op (every_gives (λ e. has_keys e.op) chunk.0 e (among_all (λ es. IsTrue (are_keyed es)) ess chunk.0 told.keyed chunk.1.0) chunk.1.1)

  -- where no merged span lies over a key, no entry of a span does
  none_there : (x : List ℕ) → ((s : Span) → Among s (cut_spans (all_fragments ess)) → within s.start s.end x ≡ false) → cover (upto n (all_of ess)) x ≡ []
  none_there x apart = cover_none (upto n (all_of ess)) x (λ e m range. go (is_over x e.op) e refl (filter_among (λ e. nat_le e.seq n) (all_of ess) e m).0 range)
    where
      none : keys_at (all_fragments ess) x ≡ []
      none = sym (each_key (all_fragments ess) x (ends_distinct ess told.spans)) ∙ none_over x (cut_spans (all_fragments ess)) apart

      go : (b : Bool) (e : Entry) → is_over x e.op ≡ b → Among e (all_of ess) → not (is_point e.op) ≡ true → b ≡ false
      go true e over m range =
          let key = has_key e.seq e.op range in
          let there = among_newest (keys_over (all_fragments ess) x) key.0 (pool_to x ess key.0 (record { entry = e; among = m; over = over; key = key.1 })) in
          absurd (subst (Among key.0) none there)
      go false e over m range = refl

  merged_covers : (x : List ℕ) → cover (upto n (entries_of (cut_spans (all_fragments ess)))) x ≡ cover (upto n (all_of ess)) x
  merged_covers x = go (list_any (λ s. within s.start s.end x) (cut_spans (all_fragments ess))) refl
    where
      go : (b : Bool) → list_any (λ s. within s.start s.end x) (cut_spans (all_fragments ess)) ≡ b → cover (upto n (entries_of (cut_spans (all_fragments ess)))) x ≡ cover (upto n (all_of ess)) x
      go true is =
          let (s, m) = any_gives (λ s. within s.start s.end x) (cut_spans (all_fragments ess)) is in
          span_has_its_cover n (cut_spans (all_fragments ess)) extents s x m.0 m.1 ∙ merged_span_has_the_cover ess told.spans differ s x n m.0 m.1
      go false is =
          let apart : (s : Span) → Among s (cut_spans (all_fragments ess)) → within s.start s.end x ≡ false = λ s m. any_false (λ s. within s.start s.end x) (cut_spans (all_fragments ess)) s is m in
          no_span_no_cover n (cut_spans (all_fragments ess)) x apart ∙ sym (none_there x apart)

  same_covers : SameCovers (given (visible_within n o ess) (joined_within n o ess)) (upto n (all_of ess)) o
  same_covers x kx inside =
      given_covers.covers x kx inside
      ∙ joined_covers n o (cut_spans (all_fragments ess)) bounds extents settled x inside
      ∙ merged_covers x

  -- over a key within the bounds the parts have the points of the chunks
  module _ (x : List ℕ) (kx : IsKey x) (inside : in_bounds o x ≡ true) where
    points_to : (e : Entry) → Among e (points_on x (upto n (all_within o ess))) → Among e (points_on x (upto n (all_of ess)))
    points_to e m =
        let p = filter_among (λ e. is_point e.op) (over x (upto n (all_within o ess))) e m in
        let v = filter_among (λ e. is_over x e.op) (upto n (all_within o ess)) e p.0 in
        let u = filter_among (λ e. nat_le e.seq n) (all_within o ess) e v.0 in
        let all = from_chunks o ess e (any_all (map (points_within o) ess) e ((union_has_theirs (map (points_within o) ess) e).0 u.0)) in
        among_filter (λ e. is_point e.op) (over x (upto n (all_of ess))) e (among_filter (λ e. is_over x e.op) (upto n (all_of ess)) e (among_filter (λ e. nat_le e.seq n) (all_of ess) e all u.1) v.1) p.1

    points_from : (e : Entry) → Among e (points_on x (upto n (all_of ess))) → Among e (points_on x (upto n (all_within o ess)))
    points_from e m =
        let p = filter_among (λ e. is_point e.op) (over x (upto n (all_of ess))) e m in
        let v = filter_among (λ e. is_over x e.op) (upto n (all_of ess)) e p.0 in
        let u = filter_among (λ e. nat_le e.seq n) (all_of ess) e v.0 in
        let chunk = flat_map_among (λ es. es) ess e u.0 in
        let keyed = among_all (λ es. IsTrue (are_keyed es)) ess chunk.0 told.keyed chunk.1.0 in
        let sorted = among_all (λ es. IsTrue (keyed_points (points_of es))) ess chunk.0 told.points chunk.1.0 in
        let part = in_chunk o x inside e (key_over x kx chunk.0 keyed e chunk.1.1 p.1 v.1) chunk.0 sorted chunk.1.1 p.1 in
        let all = (union_has_theirs (map (points_within o) ess) e).1 (any_map (points_within o) ess chunk.0 e chunk.1.0 part) in
        among_filter (λ e. is_point e.op) (over x (upto n (all_within o ess))) e (among_filter (λ e. is_over x e.op) (upto n (all_within o ess)) e (among_filter (λ e. nat_le e.seq n) (all_within o ess) e all u.1) v.1) p.1

    parts_differ : NumbersDiffer (over x (upto n (all_within o ess)))
    parts_differ = rw (over_upto x n (all_within o ess)) (some_differ (λ e. nat_le e.seq n) (over x (all_within o ess)) (points_differ n (all_within o ess) points_keyed x))

    all_differ_there : NumbersDiffer (over x (upto n (all_of ess)))
    all_differ_there = rw (over_upto x n (all_of ess)) (some_differ (λ e. nat_le e.seq n) (over x (all_of ess)) (differ x))

    merged_points : point (upto n (all_within o ess)) x ≡ point (upto n (all_of ess)) x
    merged_points =
        point_of_elements (upto n (all_within o ess)) (upto n (all_of ess)) x parts_differ all_differ_there
        (λ e. (λ c. contains_among _ e (points_to e (among_contained _ e c)), λ c. contains_among _ e (points_from e (among_contained _ e c))))

  same_points : SamePoints (given (visible_within n o ess) (joined_within n o ess)) (upto n (all_of ess)) o
  same_points x kx inside =
      point_before (visible_within n o ess) (entries_of (joined_within n o ess)) x (no_point (joined_within n o ess))
      ∙ visible_point n (all_within o ess) points_keyed x
      ∙ merged_points x kx inside

  pub sources_give : SourcesGive n o ess
  sources_give = record {
    points = points_keyed;
    spans = spans_keyed;
    joins = joins_keyed;
    shown = are_shown;
    cells = record { covered = record { first = given_covers.first; second = entries_formed; bounds = bounds; covers = same_covers }; points = same_points };
  }

pub given_has_the_cells : GivenHasTheCells
given_has_the_cells n o ess bounds told differ = sources_give n o ess bounds told differ
