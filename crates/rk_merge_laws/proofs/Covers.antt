-- Over chunks that are told a merged span has the cover of their entries.
use Rattle.std.proofs.Common.{true, ℕ, List, inl, inr}
use Rattle.std.specs.Prelude.{IsTrue}
use Rattle.std.specs.List.{AllByRecursion}
use Rattle.rk_key.specs.Keys.{IsKey}
use Rattle.rk_key.proofs.KeyTests.{key_by_test}
use Rattle.rk_model.specs.Lists.{Among}
use Rattle.rk_model.specs.Items.{keyed_spans}
use Rattle.rk_model.specs.Sources.{are_spans}
use Rattle.rk_model.specs.declared.op.Entry.{Entry}
use Rattle.rk_model.proofs.Members.{all_among}
use Rattle.rk_fragment.specs.Fragments.{fragments}
use Rattle.rk_merge.proofs.Lists.{and_parts}
use Rattle.rk_spanmerge.specs.Merges.{cut_spans, span_ends, are_distinct}
use Rattle.rk_spanmerge.proofs.Cutting.{distinct_keys, ends_from}
use Rattle.rk_merge_laws.specs.Chunks.{all_fragments}
use Rattle.rk_merge_laws.specs.MergedCovers.{MergedSpanHasTheCover}
use Rattle.rk_merge_laws.proofs.SpanKeys.{merged_cover}
use Rattle.rk_merge_laws.proofs.Told.{pool_keyed, spans_told}

pub ends_distinct : (ess : List (List Entry)) → AllByRecursion (λ es. IsTrue (keyed_spans (fragments es))) ess → IsTrue (are_distinct (span_ends (all_fragments ess)))
ends_distinct ess all = distinct_keys (span_ends (all_fragments ess)) (all_among IsKey (span_ends (all_fragments ess)) keys)
  where
    keys : (k : List ℕ) → Among k (span_ends (all_fragments ess)) → IsKey k
    keys k m =
        let (t, n, side) = ends_from true (all_fragments ess) k m in
        let both = pool_keyed ess all t n in
        elim side [ inl is ↦ rw is (key_by_test t.start both.0) | inr is ↦ rw is (key_by_test t.end both.1) ]

pub merged_span_has_the_cover : MergedSpanHasTheCover
merged_span_has_the_cover ess all differ span x n among inside =
    merged_cover ess span x n (ends_distinct ess all) (and_parts (are_spans (cut_spans (all_fragments ess))) _ (spans_told ess all differ)).0 among inside (differ x)
