-- Worked examples: what a source cut at bounds has of short lists, what it may read, and where it stands. Each is
-- computed.
use Rattle.std.proofs.Common.{◌≡◌, ℕ, ◌+◌, Bool, true, false, List, [], ◌∷◌, Option, Some, None, refl}
use Rattle.std.specs.Prelude.{codes, nat_eq, ◌&&◌}
use Rattle.rk_model.specs.Cuts.{count_before, item_from}
use Rattle.rk_model.specs.Items.{point_takes, span_takes}
use Rattle.rk_model.specs.Standings.{Listing, Standing, free_listing, names}
use Rattle.rk_model.specs.declared.cut.Cut.TheVariants.{Start, Below, Past, End}
use Rattle.rk_model.specs.declared.op.Op.TheVariants.{Put}
use Rattle.rk_model.specs.declared.op.Entry.{Entry}
use Rattle.rk_model.specs.declared.span.Span.{Span}
use Rattle.rk_sources.specs.Bounds.{Takes, clamped, between, gap_between, bounded, stands_between}

abbrev put : List ℕ → ℕ → Entry
put key seq = record { op = Put key (codes "v"); seq = seq }

abbrev part : List Entry
part = put (codes "b") 3 ∷ put (codes "b") 2 ∷ put (codes "c") 4 ∷ []

-- the part between the bounds `b` and `d`, an entry before it, and two behind it
abbrev points : List Entry
points = put (codes "a") 1 ∷ put (codes "b") 3 ∷ put (codes "b") 2 ∷ put (codes "c") 4 ∷ put (codes "d") 5 ∷ put (codes "e") 6 ∷ []

abbrev takes_point : Takes Entry
takes_point forward cut e = point_takes cut e

abbrev b : Option (List ℕ)
b = Some (codes "b")

abbrev d : Option (List ℕ)
d = Some (codes "d")

a_seek_beyond_its_bound_goes_to_it :
    (clamped b d true Start ≡ Below (codes "b")) × (clamped b d true (Past (codes "a")) ≡ Below (codes "b"))
    × (clamped b d false (Past (codes "d")) ≡ Below (codes "d")) × (clamped b d false End ≡ Below (codes "d"))
a_seek_beyond_its_bound_goes_to_it = (refl, refl, refl, refl)

-- beyond the bound to which its direction leads
a_seek_beyond_the_other_bound_stays :
    (clamped b d true End ≡ End) × (clamped b d false (Below (codes "a")) ≡ Below (codes "a"))
a_seek_beyond_the_other_bound_stays = (refl, refl)

a_seek_within_the_bounds_stays :
    (clamped b d true (Past (codes "b")) ≡ Past (codes "b")) × (clamped b d false (Below (codes "c")) ≡ Below (codes "c"))
    × (clamped None None true Start ≡ Start)
a_seek_within_the_bounds_stays = (refl, refl, refl)

the_lower_bound_is_within_and_the_upper_one_is_not : between takes_point b d points ≡ part
the_lower_bound_is_within_and_the_upper_one_is_not = refl

a_missing_bound_cuts_nothing :
    (between takes_point None None points ≡ points) × (between takes_point None b points ≡ put (codes "a") 1 ∷ [])
a_missing_bound_cuts_nothing = (refl, refl)

nothing_lies_between_bounds_that_cross : between takes_point d b points ≡ []
nothing_lies_between_bounds_that_cross = refl

abbrev span : List ℕ → List ℕ → Span
span start end = record { start = start; end = end; keys = [] }

abbrev spans : List Span
spans = span (codes "a") (codes "c") ∷ span (codes "c") (codes "e") ∷ span (codes "f") (codes "h") ∷ []

spans_over_a_bound_are_whole :
    (between span_takes b (Some (codes "g")) spans ≡ spans)
    × (between span_takes b (Some (codes "bb")) spans ≡ span (codes "a") (codes "c") ∷ [])
spans_over_a_bound_are_whole = (refl, refl)

spans_that_touch_a_bound_are_outside :
    between span_takes (Some (codes "c")) (Some (codes "f")) spans ≡ span (codes "c") (codes "e") ∷ []
spans_that_touch_a_bound_are_outside = refl

gaps_beyond_a_bound_are_those_at_the_ends :
    (gap_between takes_point b d points 0 ≡ 0) × (gap_between takes_point b d points 1 ≡ 0)
    × (gap_between takes_point b d points 3 ≡ 2) × (gap_between takes_point b d points 4 ≡ 3)
    × (gap_between takes_point b d points 6 ≡ 3)
gaps_beyond_a_bound_are_those_at_the_ends = (refl, refl, refl, refl, refl)

-- a list in which a seek, a walk and a turn each have prices of their own, by the gap
abbrev priced : Listing Entry
priced = record (free_listing (Some points)) {
  seek_price = λ forward cut. 100 + count_before (point_takes cut) points;
  walk_price = λ forward g. 10 + g;
  turn_price = λ forward g. 20 + g;
}

abbrev cut_priced : Listing Entry
cut_priced = bounded takes_point b d priced

the_part_is_told_where_the_list_is :
    (cut_priced.held ≡ Some part) × ((bounded takes_point b d (free_listing None)).held ≡ None)
the_part_is_told_where_the_list_is = (refl, refl)

-- a seek is of the bound, and a walk is of the gap in the list
prices_are_those_in_the_list :
    (cut_priced.seek_price true Start ≡ 101) × (cut_priced.seek_price false End ≡ 104) × (cut_priced.walk_price true 2 ≡ 13)
prices_are_those_in_the_list = (refl, refl, refl)

a_turn_at_the_far_end_is_a_seek_of_the_bound :
    (cut_priced.turn_price false 3 ≡ 104) × (cut_priced.turn_price false 2 ≡ 23)
    × (cut_priced.turn_price true 0 ≡ 101) × (cut_priced.turn_price true 1 ≡ 22)
a_turn_at_the_far_end_is_a_seek_of_the_bound = (refl, refl, refl, refl)

-- a place that may be named of a damaged file may be named of the part
abbrev damaged : Listing Entry
damaged = record (free_listing None) { bad = λ file at. nat_eq file 16 && nat_eq at 49 }

the_damaged_place_is_named :
    (names (bounded takes_point b d damaged) 16 49 ≡ true) × (names (bounded takes_point b d damaged) 16 50 ≡ false)
the_damaged_place_is_named = (refl, refl)

-- where the source stands at a gap of the list, in a direction
abbrev at : Bool → ℕ → Standing Entry
at forward g = record { gap = Some g; forward = forward; here = item_from forward points g; owed = 2; left = 5 }

abbrev stands : Option Bool → Standing Entry → Standing Entry
stands facing s = stands_between takes_point b d facing (Some points) s

it_is_lost_wherever_the_source_stands :
    (stands None (at true 0) ≡ record { gap = None; forward = true; here = None; owed = 2; left = 5 })
    × (stands None (at false 3) ≡ record { gap = None; forward = true; here = None; owed = 2; left = 5 })
it_is_lost_wherever_the_source_stands = (refl, refl)

forward_it_shows_none_behind_the_upper_bound :
    (stands (Some true) (at true 1) ≡ record { gap = Some 0; forward = true; here = Some (put (codes "b") 3); owed = 2; left = 5 })
    × (stands (Some true) (at true 4) ≡ record { gap = Some 3; forward = true; here = None; owed = 2; left = 5 })
forward_it_shows_none_behind_the_upper_bound = (refl, refl)

backward_it_shows_none_before_the_lower_bound :
    (stands (Some false) (at false 4) ≡ record { gap = Some 3; forward = false; here = Some (put (codes "c") 4); owed = 2; left = 5 })
    × (stands (Some false) (at false 1) ≡ record { gap = Some 0; forward = false; here = None; owed = 2; left = 5 })
backward_it_shows_none_before_the_lower_bound = (refl, refl)

-- the gap is then the source's own, and what the source shows is seen where it lies inside
of_a_list_that_is_not_told_what_lies_inside_is_seen :
    (stands_between takes_point b d (Some true) None (at true 3) ≡ at true 3)
    × (stands_between takes_point b d (Some true) None (at true 4) ≡ record (at true 4) { here = None })
of_a_list_that_is_not_told_what_lies_inside_is_seen = (refl, refl)
