-- What stands before a cut of sorted items are the first of them.
use Rattle.std.specs.Prelude.{◌≡◌, ℕ, zero, suc, Bool, true, false, ◌&&◌, not, List, [], ◌∷◌, take, drop, IsTrue, refl}
use Rattle.std.specs.List.{list_all}
use Rattle.std.specs.List.Sorted.{IsPartitionedBy}
use Rattle.std.proofs.Common.{ap}
use Rattle.rk_key.specs.Laws.{key_cmp-total}
use Rattle.rk_key.proofs.TotalOrders.{lt_back, lt_trans, lt_ge, ge_lt, ge_trans}
use Rattle.rk_model.specs.Cuts.{CutsRise}
use Rattle.rk_model.specs.Items.{point_takes, span_takes, keyed_points, keyed_extents, keyed_spans}
use Rattle.rk_model.specs.Searches.{and_parts, not_false, tail_ascends, points_partitioned, points_past, begun_partitioned, ended_partitioned}
use Rattle.rk_model.specs.Sources.{ascends, op_key, are_newest_first, is_extent, is_span, are_extents, are_spans}
use Rattle.rk_model.specs.declared.op.Entry.{Entry}
use Rattle.rk_model.specs.declared.span.Span.{Span}
use Rattle.rk_model.specs.declared.cut.Cut.{Cut}
use Rattle.rk_model.specs.declared.cut.Cut.TheVariants.{Start, Below, Past, End}

pub points-first : (cut : Cut (List ℕ)) (es : List Entry) → IsTrue (keyed_points es) → IsPartitionedBy (point_takes cut) es
points-first Start es sorted = λ i j d low high taken. taken
points-first (Below key) es sorted = points_partitioned key es (and_parts _ _ sorted).0
points-first (Past key) es sorted = points_past key es (and_parts _ _ sorted).0
points-first End es sorted = λ i j d low high taken. taken

pub spans-first : (forward : Bool) (cut : Cut (List ℕ)) (ss : List Span) → IsTrue (keyed_extents ss) → IsPartitionedBy (span_takes forward cut) ss
spans-first forward Start ss sorted = λ i j d low high taken. taken
spans-first true (Below key) ss sorted = ended_partitioned key ss (and_parts _ _ sorted).0
spans-first true (Past key) ss sorted = ended_partitioned key ss (and_parts _ _ sorted).0
spans-first false (Below key) ss sorted = begun_partitioned key ss (and_parts _ _ sorted).0
spans-first false (Past key) ss sorted = begun_partitioned key ss (and_parts _ _ sorted).0
spans-first forward End ss sorted = λ i j d low high taken. taken

-- cuts of keys rise with the keys
pub points-rise : (e : Entry) → CutsRise point_takes e
points-rise e = record {
  first = refl;
  last = refl;
  past = λ k below. ap not (lt_back key_cmp-total (op_key e.op) k below);
  on = λ k l less upto. ge_lt key_cmp-total (op_key e.op) k l (not_false _ upto) less;
  back = λ k l more below. lt_ge key_cmp-total (op_key e.op) l k below more;
}

pub spans-rise : (forward : Bool) (s : Span) → CutsRise (span_takes forward) s
spans-rise true s = record {
  first = refl;
  last = refl;
  past = λ k ended. ended;
  on = λ k l less ended. ap not (ge_trans key_cmp-total l k s.end (lt_back key_cmp-total k l less) (not_false _ ended));
  back = λ k l more ended. ap not (ge_trans key_cmp-total k l s.end more (not_false _ ended));
}
spans-rise false s = record {
  first = refl;
  last = refl;
  past = λ k begun. begun;
  on = λ k l less begun. lt_trans key_cmp-total s.start k l begun less;
  back = λ k l more begun. lt_ge key_cmp-total s.start l k begun more;
}

-- a part of a list in order is in order
and_both : (a b : Bool) → a ≡ true → b ≡ true → a && b ≡ true
and_both a b p q = rw (p, q) refl

all_take : {A : Type 0} (t : A → Bool) (n : ℕ) (xs : List A) → list_all t xs ≡ true → list_all t (take n xs) ≡ true
all_take t zero xs all = refl
all_take t (suc n) [] all = refl
all_take t (suc n) (x ∷ xs) all = let parts = and_parts (t x) _ all in and_both (t x) _ parts.0 (all_take t n xs parts.1)

all_drop : {A : Type 0} (t : A → Bool) (n : ℕ) (xs : List A) → list_all t xs ≡ true → list_all t (drop n xs) ≡ true
all_drop t zero xs all = all
all_drop t (suc n) [] all = refl
all_drop t (suc n) (x ∷ xs) all = all_drop t n xs (and_parts (t x) _ all).1

up_take : {A : Type 0} (before : A → A → Bool) (n : ℕ) (xs : List A) → ascends before xs ≡ true → ascends before (take n xs) ≡ true
up_take before zero xs up = refl
up_take before (suc n) [] up = refl
up_take before (suc zero) (x ∷ xs) up = refl
up_take before (suc (suc n)) (x ∷ []) up = refl
up_take before (suc (suc n)) (x ∷ y ∷ ys) up = let parts = and_parts (before x y) _ up in and_both (before x y) _ parts.0 (up_take before (suc n) (y ∷ ys) parts.1)

up_drop : {A : Type 0} (before : A → A → Bool) (n : ℕ) (xs : List A) → ascends before xs ≡ true → ascends before (drop n xs) ≡ true
up_drop before zero xs up = up
up_drop before (suc n) [] up = refl
up_drop before (suc n) (x ∷ xs) up = up_drop before n xs (tail_ascends before x xs up)

sorted_part : {A : Type 0} (holds keyed : A → Bool) (before : A → A → Bool) (from to : ℕ) (xs : List A) → ((list_all holds xs && ascends before xs) && list_all keyed xs) ≡ true
    → ((list_all holds (drop from (take to xs)) && ascends before (drop from (take to xs))) && list_all keyed (drop from (take to xs))) ≡ true
sorted_part holds keyed before from to xs sorted =
    let parts = and_parts (list_all holds xs && ascends before xs) _ sorted in
    let two = and_parts (list_all holds xs) _ parts.0 in
    and_both _ _
    (and_both _ _ (all_drop holds from (take to xs) (all_take holds to xs two.0)) (up_drop before from (take to xs) (up_take before to xs two.1)))
    (all_drop keyed from (take to xs) (all_take keyed to xs parts.1))

pub points-part : (from to : ℕ) (es : List Entry) → IsTrue (keyed_points es) → IsTrue (keyed_points (drop from (take to es)))
points-part from to es sorted = sorted_part _ _ _ from to es sorted

pub spans-part : (from to : ℕ) (ss : List Span) → IsTrue (keyed_extents ss) → IsTrue (keyed_extents (drop from (take to ss)))
spans-part from to ss sorted = sorted_part _ _ _ from to ss sorted

-- spans with their newest range keys first are spans
extents_all : (ss : List Span) → list_all is_span ss ≡ true → list_all is_extent ss ≡ true
extents_all [] all = refl
extents_all (s ∷ ss) all = let parts = and_parts (is_span s) _ all in and_both (is_extent s) _ (and_parts (is_extent s) (are_newest_first s.keys) parts.0).0 (extents_all ss parts.1)

pub are-extents : (ss : List Span) → IsTrue (are_spans ss) → IsTrue (are_extents ss)
are-extents ss sorted = let parts = and_parts (list_all is_span ss) _ sorted in and_both _ _ (extents_all ss parts.0) parts.1

pub spans-extents : (ss : List Span) → IsTrue (keyed_spans ss) → IsTrue (keyed_extents ss)
spans-extents ss sorted = let parts = and_parts (are_spans ss) _ sorted in and_both (are_extents ss) _ (are-extents ss parts.0) parts.1
