-- Worked examples: what the definitions give on short lists of points. Each is computed.
use Rattle.std.proofs.Common.{◌≡◌, ◌+◌, true, false, ℕ, Bool, List, [], ◌∷◌, map, Option, Some, None, refl}
use Rattle.std.specs.Prelude.{codes, nat_eq, ◌&&◌}
use Rattle.rk_model.specs.Listings.{stands}
use Rattle.rk_model.specs.Items.{keyed_points, sound}
use Rattle.rk_model.specs.Standings.{Listing, Standing, free_listing, names}
use Rattle.rk_model.specs.declared.cut.Cut.TheVariants.{Below, Past}
use Rattle.rk_model.specs.declared.op.Op.TheVariants.{Put, Del}
use Rattle.rk_model.specs.declared.op.Entry.{Entry}
use Rattle.rk_pointmerge.specs.Merges.{united, share, merged}
use Rattle.rk_pointmerge.specs.Visibles.{visible, stood_at, viewed, viewed_from}

abbrev put : List ℕ → ℕ → Entry
put key n = record { op = Put key (codes "x"); seq = n }

abbrev del : List ℕ → ℕ → Entry
del key n = record { op = Del key; seq = n }

abbrev a1 : Entry
a1 = put (codes "a") 1

abbrev a2 : Entry
a2 = del (codes "a") 2

abbrev b3 : Entry
b3 = put (codes "b") 3

abbrev c1 : Entry
c1 = put (codes "c") 1

-- a list, where it is in order, of which each entry is one read
abbrev paid : List Entry → Listing Entry
paid es = record (free_listing (sound keyed_points es)) {
  seek_price = λ forward cut. 1;
  walk_price = λ forward g. g;
  turn_price = λ forward g. 1;
}

abbrev three : List (Listing Entry)
three = map paid ((a1 ∷ b3 ∷ []) ∷ (a2 ∷ []) ∷ (c1 ∷ []) ∷ [])

abbrev all_four : List Entry
all_four = a2 ∷ a1 ∷ b3 ∷ c1 ∷ []

-- by key, and the newest first within one key
a_merge_that_is_told : (merged three).held ≡ Some all_four
a_merge_that_is_told = refl

one_number_twice : united (map paid ((a1 ∷ []) ∷ (del (codes "a") 1 ∷ []) ∷ [])) ≡ None
one_number_twice = refl

a_source_out_of_order : united (map paid ((c1 ∷ a1 ∷ []) ∷ (b3 ∷ []) ∷ [])) ≡ None
a_source_out_of_order = refl

-- before the third entry of the union stand one of the first source and that of the second
shares_of_a_gap : map (share all_four 2) ((a1 ∷ b3 ∷ []) ∷ (a2 ∷ []) ∷ (c1 ∷ []) ∷ []) ≡ 1 ∷ 1 ∷ 0 ∷ []
shares_of_a_gap = refl

-- each source is walked up to its share; sought is in all of them
prices_of_a_merge : ((merged three).walk_price true 2 ≡ 2) × ((merged three).walk_price true 4 ≡ 4) × ((merged three).seek_price true (Below (codes "b")) ≡ 3)
prices_of_a_merge = (refl, refl, refl)

-- beside a source whose file is damaged nothing is told, and that place alone of that file may be named
abbrev beside_damaged : Listing Entry
beside_damaged = merged (paid [] ∷ record (free_listing None) { bad = λ file at. nat_eq file 16 && nat_eq at 49 } ∷ [])

the_damaged_place_is_named : (names beside_damaged 16 49 ≡ true) × (names beside_damaged 16 50 ≡ false)
the_damaged_place_is_named = (refl, refl)

-- a delete hides the older put of its key, and what is newer than the number is not seen
seen_at_two : visible 2 all_four ≡ c1 ∷ []
seen_at_two = refl

seen_at_one : visible 1 all_four ≡ a1 ∷ c1 ∷ []
seen_at_one = refl

seen_at_three : visible 3 all_four ≡ b3 ∷ c1 ∷ []
seen_at_three = refl

a_newer_put_hides_an_older : visible 4 (put (codes "a") 4 ∷ a2 ∷ a1 ∷ []) ≡ put (codes "a") 4 ∷ []
a_newer_put_hides_an_older = refl

-- at two the only visible entry is the last of four: backward it is seen from the gap behind it, and none before it
where_it_stands : (stood_at true 2 all_four 0 ≡ 3) × (stood_at true 2 all_four 1 ≡ 4) × (stood_at false 2 all_four 1 ≡ 3) × (stood_at false 2 all_four 0 ≡ 0)
where_it_stands = (refl, refl, refl, refl)

abbrev view : ℕ → Listing Entry
view n = viewed n (merged three)

what_is_visible : (view 2).held ≡ Some (c1 ∷ [])
what_is_visible = refl

-- a walk pays for the hidden entries too; a seek for those between the cut and what is seen
prices_of_what_is_visible : ((view 2).walk_price true 0 ≡ 3) × ((view 2).walk_price true 1 ≡ 4) × ((view 2).seek_price true (Below (codes "b")) ≡ 3 + 1) × ((view 2).seek_price true (Past (codes "c")) ≡ 3)
prices_of_what_is_visible = (refl, refl, refl, refl)

-- a turn goes on from the put of a, which was seen backward, to that of c
price_of_a_turn : (viewed 1 (merged three)).turn_price true 1 ≡ 3 + 2
price_of_a_turn = refl

nothing_where_it_is_not_told : ((viewed 2 beside_damaged).held ≡ None) × ((viewed 2 beside_damaged).walk_price true 1 ≡ 0)
nothing_where_it_is_not_told = (refl, refl)

-- at one, forward the source stands at what is seen; backward before what is kept, which counts as passed
abbrev facing : Bool → ℕ → Option Entry → Standing Entry
facing forward g kept = viewed_from 1 kept (Some forward) (merged three) (stands all_four (Some g) forward)

forward_at_the_last : ((facing true 3 None).gap ≡ Some 1) × ((facing true 3 None).here ≡ Some c1) × ((facing true 3 None).left ≡ 1)
forward_at_the_last = (refl, refl, refl)

backward_before_the_last : ((facing false 3 (Some c1)).gap ≡ Some 2) × ((facing false 3 (Some c1)).here ≡ Some c1) × ((facing false 3 (Some c1)).left ≡ 4)
backward_before_the_last = (refl, refl, refl)

lost : (viewed_from 1 None None (merged three) (stands all_four None true)).here ≡ None
lost = refl
