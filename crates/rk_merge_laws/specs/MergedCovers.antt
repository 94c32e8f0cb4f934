-- What the range keys of a merged span give, and the cover of the entries.
use Rattle.std.specs.Prelude.{◌≡◌, ℕ, true, IsTrue, List}
use Rattle.std.specs.List.{AllByRecursion}
use Rattle.rk_model.specs.Lists.{Among}
use Rattle.rk_model.specs.Operations.{within}
use Rattle.rk_model.specs.Covers.{upto, cover, cover_of}
use Rattle.rk_model.specs.Items.{keyed_spans}
use Rattle.rk_model.specs.declared.op.Entry.{Entry}
use Rattle.rk_model.specs.declared.span.Span.{Span}
use Rattle.rk_fragment.specs.Fragments.{fragments}
use Rattle.rk_coalesce.specs.SpanKeys.{span_entries}
use Rattle.rk_spanmerge.specs.Merges.{cut_spans}
use Rattle.rk_merge_laws.specs.Chunks.{all_of, all_fragments, NumbersDifferOver}

-- At each key of a merged span its range keys give, at any number, the cover of the entries there.
abbrev pub MergedSpanHasTheCover : Type 0
MergedSpanHasTheCover = (ess : List (List Entry)) → AllByRecursion (λ es. IsTrue (keyed_spans (fragments es))) ess → NumbersDifferOver ess →
    (span : Span) (x : List ℕ) (n : ℕ) → Among span (cut_spans (all_fragments ess)) → within span.start span.end x ≡ true →
    cover_of (upto n (span_entries span)) ≡ cover (upto n (all_of ess)) x
