-- The entries of several chunks, and the spans of their fragments.
use Rattle.std.specs.Prelude.{ℕ, List}
use Rattle.std.specs.List.{flat_map}
use Rattle.rk_model.specs.Operations.{NumbersDiffer}
use Rattle.rk_model.specs.Covers.{over}
use Rattle.rk_model.specs.declared.op.Entry.{Entry}
use Rattle.rk_model.specs.declared.span.Span.{Span}
use Rattle.rk_fragment.specs.Fragments.{fragments}

abbrev pub all_of : List (List Entry) → List Entry
all_of ess = flat_map (λ es. es) ess

abbrev pub all_fragments : List (List Entry) → List Span
all_fragments ess = flat_map fragments ess

-- over each key no two entries of all chunks have one number
abbrev pub NumbersDifferOver : List (List Entry) → Type 0
NumbersDifferOver ess = (x : List ℕ) → NumbersDiffer (over x (all_of ess))
