-- Worked examples: what the range keys of a short span give. Each is computed.
use Rattle.std.proofs.Common.{◌≡◌, ℕ, List, [], ◌∷◌, true, false, refl}
use Rattle.std.specs.Prelude.{codes}
use Rattle.rk_model.specs.Covers.{upto, cover_of}
use Rattle.rk_model.specs.declared.span.RangeKind.TheVariants.{Set, Unset, Del}
use Rattle.rk_model.specs.declared.span.RangeKey.{RangeKey}
use Rattle.rk_model.specs.declared.span.Span.{Span}
use Rattle.rk_model.specs.declared.span.SuffixValue.{SuffixValue}
use Rattle.rk_coalesce.specs.SpanKeys.{span_entries, kept_keys}

abbrev span_of : List RangeKey → Span
span_of keys = record { start = codes "a"; end = codes "c"; keys = keys }

abbrev set : ℕ → List ℕ → List ℕ → RangeKey
set n s v = record { kind = Set; seq = n; suffix = s; value = v }

abbrev unset : ℕ → List ℕ → RangeKey
unset n s = record { kind = Unset; seq = n; suffix = s; value = [] }

abbrev delete : ℕ → RangeKey
delete n = record { kind = Del; seq = n; suffix = []; value = [] }

abbrev cover_at : ℕ → List RangeKey → List SuffixValue
cover_at n keys = cover_of (upto n (span_entries (span_of keys)))

abbrev pair : List ℕ → List ℕ → SuffixValue
pair s v = record { suffix = s; value = v }

abbrev set_and_unset : List RangeKey
set_and_unset = unset 2 (codes "@5") ∷ set 1 (codes "@5") (codes "x") ∷ []

each_in_a_stripe_of_its_own : kept_keys (span_of set_and_unset) (1 ∷ 2 ∷ []) true ≡ set_and_unset
each_in_a_stripe_of_its_own = refl

none_at_the_bottom : kept_keys (span_of set_and_unset) (2 ∷ []) true ≡ []
none_at_the_bottom = refl

the_unset_above_the_bottom : kept_keys (span_of set_and_unset) (2 ∷ []) false ≡ unset 2 (codes "@5") ∷ []
the_unset_above_the_bottom = refl

-- a delete shadows unsets too, and is no longer needed at the bottom
a_delete_shadows_all : kept_keys (span_of (delete 3 ∷ set_and_unset)) (1 ∷ 3 ∷ []) false ≡ delete 3 ∷ set 1 (codes "@5") (codes "x") ∷ []
a_delete_shadows_all = refl

a_set_stands_until_its_unset : cover_at 1 set_and_unset ≡ pair (codes "@5") (codes "x") ∷ []
a_set_stands_until_its_unset = refl

an_unset_ends_the_set : cover_at 2 set_and_unset ≡ []
an_unset_ends_the_set = refl

-- larger numbers first, other suffixes stay, and the order of the range keys doesn't matter
pairs_ascend : cover_at 4 (set 1 (codes "@3") (codes "b") ∷ set 4 (codes "@5") (codes "c") ∷ set 2 (codes "@5") (codes "a") ∷ unset 3 (codes "@7") ∷ [])
    ≡ pair (codes "@5") (codes "c") ∷ pair (codes "@3") (codes "b") ∷ []
pairs_ascend = refl

-- a span of no keys: what the range keys would give at a key under all of them
an_empty_span_gives_the_same : kept_keys (record { start = codes "c"; end = codes "a"; keys = set_and_unset }) (2 ∷ []) false ≡ unset 2 (codes "@5") ∷ []
an_empty_span_gives_the_same = refl
