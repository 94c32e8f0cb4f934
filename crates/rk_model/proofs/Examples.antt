-- Worked examples: what the definitions give on short lists of entries. Each is computed.
use Rattle.std.proofs.Common.{◌≡◌, ℕ, Bool, List, [], ◌∷◌, ◌++◌, Option, Some, None, true, false, refl}
use Rattle.std.specs.Prelude.{codes}
use Rattle.std.specs.List.{flat_map}
use Rattle.rk_model.specs.Operations.{numbered}
use Rattle.rk_model.specs.Covers.{cover}
use Rattle.rk_model.specs.Spans.{WidestSpan}
use Rattle.rk_model.specs.Positions.{positions}
use Rattle.rk_model.specs.Moves.{Move, First, Last, Next, Prev, SeekGe, SeekLt, View, opened_over, after_move, reported_value, reported_span}
use Rattle.rk_model.specs.declared.op.Op.{Op}
use Rattle.rk_model.specs.declared.op.Op.TheVariants.{Put, RangeSet, RangeUnset, RangeDel}
use Rattle.rk_model.specs.declared.span.SuffixValue.{SuffixValue}
use Rattle.rk_model.specs.declared.options.IterOptions.{IterOptions}
use Rattle.rk_model.specs.declared.cursor.Cursor.{Cursor}
use Rattle.rk_model.specs.declared.cursor.Cursor.TheVariants.{Start, At, End}

-- what a move leaves: the cursor, the value, the span, and whether the span changed
abbrev Line : Type 0
Line = Cursor × Option (List ℕ) × Option WidestSpan × Bool

abbrev lines : View → List Move → List Line
lines v [] = []
lines v (m ∷ ms) = let w = after_move v m in (w.cursor, reported_value w, reported_span w, w.changed) ∷ lines w ms

-- the lines of some moves over operations that are numbered from 1
abbrev walk : List Op → IterOptions → List Move → List Line
walk ops o moves = lines (opened_over (numbered 1 ops) o) moves

abbrev everything : IterOptions
everything = record { lower = None; upper = None; mask = None }

abbrev under_mask : List ℕ → IterOptions
under_mask m = record { lower = None; upper = None; mask = Some m }

abbrev between : List ℕ → List ℕ → IterOptions
between l u = record { lower = Some l; upper = Some u; mask = None }

abbrev pair : List ℕ → List ℕ → SuffixValue
pair s v = record { suffix = s; value = v }

abbrev span : List ℕ → List ℕ → List SuffixValue → Option WidestSpan
span s e pairs = Some (record { start = s; end = e; cover = pairs })

-- @5=x
abbrev five_x : List SuffixValue
five_x = pair (codes "@5") (codes "x") ∷ []

abbrev set_five : List ℕ → List ℕ → Op
set_five s e = RangeSet s e (codes "@5") (codes "x")

no_entries_no_position :
    walk [] everything (First ∷ Last ∷ []) ≡ (End, None, None, false) ∷ (Start, None, None, false) ∷ []
no_entries_no_position = refl

a_later_set_overwrites_where_two_overlap :
    walk (RangeSet (codes "a") (codes "d") [] (codes "foo") ∷ RangeSet (codes "c") (codes "e") [] (codes "bar") ∷ []) everything
    (First ∷ Next ∷ Next ∷ [])
    ≡ (At (codes "a"), None, span (codes "a") (codes "c") (pair [] (codes "foo") ∷ []), true)
    ∷ (At (codes "c"), None, span (codes "c") (codes "e") (pair [] (codes "bar") ∷ []), true)
    ∷ (End, None, None, true) ∷ []
a_later_set_overwrites_where_two_overlap = refl

unset_cuts_a_set_in_two :
    walk (set_five (codes "a") (codes "d") ∷ RangeUnset (codes "b") (codes "c") (codes "@5") ∷ []) everything
    (Next ∷ Next ∷ Next ∷ [])
    ≡ (At (codes "a"), None, span (codes "a") (codes "b") five_x, true)
    ∷ (At (codes "c"), None, span (codes "c") (codes "d") five_x, true)
    ∷ (End, None, None, true) ∷ []
unset_cuts_a_set_in_two = refl

unset_of_another_suffix_cuts_nothing :
    walk (set_five (codes "a") (codes "d") ∷ RangeUnset (codes "b") (codes "c") (codes "@6") ∷ []) everything
    (Next ∷ Next ∷ Next ∷ [])
    ≡ (At (codes "a"), None, span (codes "a") (codes "d") five_x, true)
    ∷ (End, None, None, true)
    ∷ (End, None, None, false) ∷ []
unset_of_another_suffix_cuts_nothing = refl

range_del_removes_every_suffix :
    walk (set_five (codes "a") (codes "d") ∷ RangeSet (codes "a") (codes "d") [] (codes "y") ∷ RangeDel (codes "b") (codes "e") ∷ []) everything
    (First ∷ Next ∷ [])
    ≡ (At (codes "a"), None, span (codes "a") (codes "b") (pair [] (codes "y") ∷ five_x), true)
    ∷ (End, None, None, true) ∷ []
range_del_removes_every_suffix = refl

equal_adjoining_sets_are_one_span :
    walk (set_five (codes "a") (codes "b") ∷ set_five (codes "b") (codes "c") ∷ []) everything (First ∷ Next ∷ [])
    ≡ (At (codes "a"), None, span (codes "a") (codes "c") five_x, true)
    ∷ (End, None, None, true) ∷ []
equal_adjoining_sets_are_one_span = refl

-- the empty suffix, then the larger number
a_cover_is_in_order_of_suffixes :
    cover (numbered 1 (
    set_five (codes "a") (codes "b")
    ∷ RangeSet (codes "a") (codes "b") (codes "@9") (codes "y")
    ∷ RangeSet (codes "a") (codes "b") [] (codes "z") ∷ [])) (codes "a")
    ≡ pair [] (codes "z") ∷ pair (codes "@9") (codes "y") ∷ five_x
a_cover_is_in_order_of_suffixes = refl

a_seek_inside_a_span_stays_at_the_sought_key :
    walk (set_five (codes "a") (codes "d") ∷ []) everything
    (SeekGe (codes "b") ∷ Prev ∷ Prev ∷ SeekLt (codes "c") ∷ [])
    ≡ (At (codes "b"), None, span (codes "a") (codes "d") five_x, true)
    ∷ (At (codes "a"), None, span (codes "a") (codes "d") five_x, false)
    ∷ (Start, None, None, true)
    ∷ (At (codes "a"), None, span (codes "a") (codes "d") five_x, true) ∷ []
a_seek_inside_a_span_stays_at_the_sought_key = refl

a_point_on_the_start_of_a_span_is_one_position :
    walk (Put (codes "a") (codes "p") ∷ set_five (codes "a") (codes "b") ∷ []) everything (First ∷ Next ∷ [])
    ≡ (At (codes "a"), Some (codes "p"), span (codes "a") (codes "b") five_x, true)
    ∷ (End, None, None, true) ∷ []
a_point_on_the_start_of_a_span_is_one_position = refl

-- points at b@3 and b@7 under a set of @5
abbrev two_points : List Op
two_points = Put (codes "b@3") (codes "p") ∷ Put (codes "b@7") (codes "q") ∷ set_five (codes "a") (codes "c") ∷ []

a_mask_hides_a_point_above_a_covering_suffix :
    walk two_points (under_mask (codes "@9")) (First ∷ Next ∷ Next ∷ [])
    ≡ (At (codes "a"), None, span (codes "a") (codes "c") five_x, true)
    ∷ (At (codes "b@7"), Some (codes "q"), span (codes "a") (codes "c") five_x, false)
    ∷ (End, None, None, true) ∷ []
a_mask_hides_a_point_above_a_covering_suffix = refl

a_mask_above_each_covering_suffix_hides_nothing :
    walk two_points (under_mask (codes "@4")) (First ∷ Next ∷ Next ∷ Next ∷ [])
    ≡ (At (codes "a"), None, span (codes "a") (codes "c") five_x, true)
    ∷ (At (codes "b@7"), Some (codes "q"), span (codes "a") (codes "c") five_x, false)
    ∷ (At (codes "b@3"), Some (codes "p"), span (codes "a") (codes "c") five_x, false)
    ∷ (End, None, None, true) ∷ []
a_mask_above_each_covering_suffix_hides_nothing = refl

no_mask_hides_a_point_without_a_suffix :
    walk (Put (codes "b") (codes "p") ∷ set_five (codes "a") (codes "c") ∷ []) (under_mask (codes "@9")) (First ∷ Next ∷ [])
    ≡ (At (codes "a"), None, span (codes "a") (codes "c") five_x, true)
    ∷ (At (codes "b"), Some (codes "p"), span (codes "a") (codes "c") five_x, false) ∷ []
no_mask_hides_a_point_without_a_suffix = refl

no_mask_hides_a_point_of_the_covering_suffix :
    walk (Put (codes "b@5") (codes "p") ∷ set_five (codes "a") (codes "c") ∷ []) (under_mask (codes "@9")) (First ∷ Next ∷ [])
    ≡ (At (codes "a"), None, span (codes "a") (codes "c") five_x, true)
    ∷ (At (codes "b@5"), Some (codes "p"), span (codes "a") (codes "c") five_x, false) ∷ []
no_mask_hides_a_point_of_the_covering_suffix = refl

bounds_cut_a_span_at_keys_with_a_suffix :
    walk (set_five (codes "a") (codes "d") ∷ Put (codes "b@3") (codes "p") ∷ []) (between (codes "b@4") (codes "c@2"))
    (First ∷ Next ∷ Next ∷ SeekGe (codes "a") ∷ [])
    ≡ (At (codes "b@4"), None, span (codes "b@4") (codes "c@2") five_x, true)
    ∷ (At (codes "b@3"), Some (codes "p"), span (codes "b@4") (codes "c@2") five_x, false)
    ∷ (End, None, None, true)
    ∷ (At (codes "b@4"), None, span (codes "b@4") (codes "c@2") five_x, true) ∷ []
bounds_cut_a_span_at_keys_with_a_suffix = refl

no_position_between_bounds_that_cross :
    walk (set_five (codes "a") (codes "d") ∷ Put (codes "b") (codes "p") ∷ []) (between (codes "c") (codes "b"))
    (First ∷ SeekGe (codes "a") ∷ Last ∷ [])
    ≡ (End, None, None, false) ∷ (End, None, None, false) ∷ (Start, None, None, false) ∷ []
no_position_between_bounds_that_cross = refl

-- ten prefixes of four points each, and a set of @25 over four of the prefixes
abbrev prefixes : List (List ℕ)
prefixes =
    codes "k0" ∷ codes "k1" ∷ codes "k2" ∷ codes "k3" ∷ codes "k4"
    ∷ codes "k5" ∷ codes "k6" ∷ codes "k7" ∷ codes "k8" ∷ codes "k9" ∷ []

abbrev versions : List ℕ → List (List ℕ)
versions k = (k ++ codes "@40") ∷ (k ++ codes "@30") ∷ (k ++ codes "@20") ∷ (k ++ codes "@10") ∷ []

abbrev puts : List (List ℕ) → List Op
puts [] = []
puts (k ∷ ks) = Put k (codes "v") ∷ puts ks

abbrev ten_prefixes : List Op
ten_prefixes = puts (flat_map versions prefixes) ++ RangeSet (codes "k3") (codes "k7") (codes "@25") [] ∷ []

-- under the mask @30 the older two versions of k3 to k6 are hidden
ten_prefixes_have_33_positions :
    positions (numbered 1 ten_prefixes) (under_mask (codes "@30"))
    ≡ (versions (codes "k0") ++ versions (codes "k1") ++ versions (codes "k2")
    ++ (codes "k3"
    ∷ codes "k3@40" ∷ codes "k3@30" ∷ codes "k4@40" ∷ codes "k4@30"
    ∷ codes "k5@40" ∷ codes "k5@30" ∷ codes "k6@40" ∷ codes "k6@30" ∷ []))
    ++ (versions (codes "k7") ++ versions (codes "k8") ++ versions (codes "k9"))
ten_prefixes_have_33_positions = refl
