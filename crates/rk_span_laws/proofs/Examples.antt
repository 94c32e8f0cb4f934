-- Worked examples: the widest spans of short lists of spans. Each is computed.
use Rattle.std.proofs.Common.{◌≡◌, ℕ, List, [], ◌∷◌, Option, Some, None, refl}
use Rattle.std.specs.Prelude.{codes}
use Rattle.rk_model.specs.declared.span.RangeKind.TheVariants.{Set, Unset}
use Rattle.rk_model.specs.declared.span.RangeKey.{RangeKey}
use Rattle.rk_model.specs.declared.span.Span.{Span}
use Rattle.rk_model.specs.declared.options.IterOptions.{IterOptions}
use Rattle.rk_span_laws.specs.Joined.{joined}

abbrev set : ℕ → List ℕ → List ℕ → RangeKey
set n s v = record { kind = Set; seq = n; suffix = s; value = v }

abbrev unset : ℕ → List ℕ → RangeKey
unset n s = record { kind = Unset; seq = n; suffix = s; value = [] }

abbrev span : List ℕ → List ℕ → List RangeKey → Span
span start end keys = record { start = start; end = end; keys = keys }

abbrev bounds : Option (List ℕ) → Option (List ℕ) → IterOptions
bounds lower upper = record { lower = lower; upper = upper; mask = None }

abbrev x5 : ℕ → RangeKey
x5 n = set n (codes "@5") (codes "x")

neighbours_of_one_cover_are_one : joined 9 (bounds None None) (span (codes "a") (codes "b") (x5 1 ∷ []) ∷ span (codes "b") (codes "c") (x5 2 ∷ []) ∷ []) ≡ span (codes "a") (codes "c") (x5 9 ∷ []) ∷ []
neighbours_of_one_cover_are_one = refl

bounds_cut : joined 9 (bounds (Some (codes "b")) (Some (codes "d"))) (span (codes "a") (codes "c") (x5 1 ∷ []) ∷ span (codes "c") (codes "e") (x5 2 ∷ []) ∷ []) ≡ span (codes "b") (codes "d") (x5 9 ∷ []) ∷ []
bounds_cut = refl

a_gap_parts : joined 9 (bounds None None) (span (codes "a") (codes "b") (x5 1 ∷ []) ∷ span (codes "c") (codes "d") (x5 1 ∷ []) ∷ []) ≡ span (codes "a") (codes "b") (x5 9 ∷ []) ∷ span (codes "c") (codes "d") (x5 9 ∷ []) ∷ []
a_gap_parts = refl

other_covers_stay_apart : joined 9 (bounds None None) (span (codes "a") (codes "b") (x5 1 ∷ []) ∷ span (codes "b") (codes "c") (set 1 (codes "@5") (codes "y") ∷ []) ∷ []) ≡ span (codes "a") (codes "b") (x5 9 ∷ []) ∷ span (codes "b") (codes "c") (set 9 (codes "@5") (codes "y") ∷ []) ∷ []
other_covers_stay_apart = refl

a_span_without_a_cover_drops : joined 9 (bounds None None) (span (codes "a") (codes "b") (unset 2 (codes "@5") ∷ x5 1 ∷ []) ∷ span (codes "b") (codes "c") (x5 1 ∷ []) ∷ []) ≡ span (codes "b") (codes "c") (x5 9 ∷ []) ∷ []
a_span_without_a_cover_drops = refl

newer_numbers_are_left_out : joined 1 (bounds None None) (span (codes "a") (codes "b") (unset 2 (codes "@5") ∷ x5 1 ∷ []) ∷ []) ≡ span (codes "a") (codes "b") (x5 1 ∷ []) ∷ []
newer_numbers_are_left_out = refl

-- of two sets of one number and suffix in one span each join turns the order, so numbers have to differ
abbrev tied : List Span
tied = span (codes "a") (codes "b") (set 1 (codes "@5") (codes "x") ∷ set 1 (codes "@5") (codes "y") ∷ []) ∷ []

ties_turn : joined 9 (bounds None None) tied ≡ span (codes "a") (codes "b") (set 9 (codes "@5") (codes "y") ∷ set 9 (codes "@5") (codes "x") ∷ []) ∷ []
ties_turn = refl

ties_turn_again : joined 9 (bounds None None) (joined 9 (bounds None None) tied) ≡ span (codes "a") (codes "b") (set 9 (codes "@5") (codes "x") ∷ set 9 (codes "@5") (codes "y") ∷ []) ∷ []
ties_turn_again = refl
