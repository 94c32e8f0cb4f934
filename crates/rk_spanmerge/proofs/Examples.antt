-- Worked examples: what the definitions give on short lists of spans. Each is computed.
use Rattle.std.proofs.Common.{◌≡◌, true, false, ℕ, List, [], ◌∷◌, map, Some, None, refl}
use Rattle.std.specs.Prelude.{codes, nat_eq, ◌&&◌}
use Rattle.rk_model.specs.Items.{keyed_extents, sound}
use Rattle.rk_model.specs.Standings.{Listing, free_listing, names}
use Rattle.rk_model.specs.declared.span.RangeKey.{RangeKey}
use Rattle.rk_model.specs.declared.span.RangeKind.TheVariants.{Del}
use Rattle.rk_model.specs.declared.span.Span.{Span}
use Rattle.rk_spanmerge.specs.Merges.{cut_spans, united, merged, gap_from}

abbrev key : ℕ → RangeKey
key n = record { kind = Del; seq = n; suffix = []; value = [] }

abbrev span : List ℕ → List ℕ → List RangeKey → Span
span start end keys = record { start = start; end = end; keys = keys }

-- a long span is cut where another source's spans begin and end, also where they leave a gap
a_gap_within_a_span :
    cut_spans (span (codes "a") (codes "z") (key 3 ∷ []) ∷ span (codes "b") (codes "c") (key 1 ∷ []) ∷ span (codes "y") (codes "z") (key 4 ∷ []) ∷ [])
    ≡ span (codes "a") (codes "b") (key 3 ∷ []) ∷ span (codes "b") (codes "c") (key 3 ∷ key 1 ∷ []) ∷ span (codes "c") (codes "y") (key 3 ∷ []) ∷ span (codes "y") (codes "z") (key 4 ∷ key 3 ∷ []) ∷ []
a_gap_within_a_span = refl

spans_that_touch_stay_apart :
    cut_spans (span (codes "b") (codes "c") (key 2 ∷ []) ∷ span (codes "a") (codes "b") (key 2 ∷ []) ∷ [])
    ≡ span (codes "a") (codes "b") (key 2 ∷ []) ∷ span (codes "b") (codes "c") (key 2 ∷ []) ∷ []
spans_that_touch_stay_apart = refl

-- the lists of two sources, where two range keys over one key have different numbers, and where they have one
abbrev lists : ℕ → List (Listing Span)
lists n = map (λ spans. free_listing (sound keyed_extents spans)) ((span (codes "a") (codes "c") (key 1 ∷ []) ∷ []) ∷ (span (codes "b") (codes "d") (key n ∷ []) ∷ []) ∷ [])

abbrev second : Span
second = span (codes "b") (codes "c") (key 2 ∷ key 1 ∷ [])

abbrev all_three : List Span
all_three = span (codes "a") (codes "b") (key 1 ∷ []) ∷ second ∷ span (codes "c") (codes "d") (key 2 ∷ []) ∷ []

a_merge_that_is_told : united (lists 2) ≡ Some all_three
a_merge_that_is_told = refl

one_number_twice : united (lists 1) ≡ None
one_number_twice = refl

-- a source may list a span whose range keys have one number, but a merge of it isn't told
abbrev both_at_one : List Span
both_at_one = span (codes "a") (codes "c") (key 1 ∷ key 1 ∷ []) ∷ []

one_number_in_a_span : (sound keyed_extents both_at_one ≡ Some both_at_one) × (united (free_listing (sound keyed_extents both_at_one) ∷ []) ≡ None)
one_number_in_a_span = (refl, refl)

a_span_is_seen_from_two_gaps : (gap_from true all_three (Some second) ≡ 1) × (gap_from false all_three (Some second) ≡ 2)
a_span_is_seen_from_two_gaps = (refl, refl)

-- beside a source whose file is damaged nothing is told, and that place alone of that file may be named
abbrev beside_damaged : Listing Span
beside_damaged = merged (free_listing (Some []) ∷ record (free_listing None) { bad = λ file at. nat_eq file 16 && nat_eq at 49 } ∷ [])

the_damaged_place_is_named : (names beside_damaged 16 49 ≡ true) × (names beside_damaged 16 50 ≡ false)
the_damaged_place_is_named = (refl, refl)
