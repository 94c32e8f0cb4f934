-- In a sorted list the items that a test takes stand first, and a binary search finds how many they are.
use Prim.Native.Nat.{zero, suc}
use Rattle.std.proofs.Common.{◌≡◌, ℕ, ◌<◌, ◌≤◌, Bool, true, false, List, [], ◌∷◌, length, refl, ap, ◌∙◌, arith, Less, Equal, Greater, Ordering}
use Rattle.std.specs.Prelude.{slice_index_or, ◌&&◌, not, IsTrue}
use Rattle.std.specs.List.{list_all}
use Rattle.std.specs.List.Sorted.{IsPartitionedBy, IsPartitionPoint}
use Rattle.std.specs.Ordering.{is_lt, ordering_then, nat_cmp}
use Rattle.std.proofs.lemmas.Cmp.{alike_right}
use Rattle.rk_key.specs.Keys.{key_cmp}
use Rattle.rk_key.specs.Laws.{key_cmp-total}
use Rattle.rk_key.proofs.TotalOrders.{lt_back, lt_trans, ge_trans, lt_ge}
use Rattle.rk_model.specs.Covers.{is_point}
use Rattle.rk_model.specs.Cuts.{count_before}
use Rattle.rk_model.specs.Sources.{ascends, op_key, entry_cmp, is_extent}
use Rattle.rk_model.specs.declared.op.Entry.{Entry}
use Rattle.rk_model.specs.declared.span.Span.{Span}

-- what takes an item takes those that stand before it
abbrev TakesEarlier : {A : Type 0} → (A → Bool) → (A → A → Bool) → (A → Bool) → Type 0
TakesEarlier {A} holds before takes = (x y : A) → holds x ≡ true → holds y ≡ true → before x y ≡ true → takes y ≡ true → takes x ≡ true

pub and_parts : (a b : Bool) → a && b ≡ true → (a ≡ true) × (b ≡ true)
and_parts true true e = (refl, refl)
and_parts true false e = cc
and_parts false b e = cc

pub tail_ascends : {A : Type 0} (before : A → A → Bool) (x : A) (ys : List A) → ascends before (x ∷ ys) ≡ true → ascends before ys ≡ true
tail_ascends before x [] up = refl
tail_ascends before x (y ∷ ys) up = (and_parts (before x y) _ up).1

head_taken : {A : Type 0} (holds : A → Bool) (before : A → A → Bool) (takes : A → Bool) → TakesEarlier holds before takes → (x : A) (ys : List A) (j : ℕ) (d : A) → list_all holds (x ∷ ys) ≡ true → ascends before (x ∷ ys) ≡ true → j < length (x ∷ ys) → takes (slice_index_or (x ∷ ys) j d) ≡ true → takes x ≡ true
head_taken holds before takes falls x ys zero d all up within taken = taken
head_taken holds before takes falls x [] (suc j) d all up within taken = absurd (omega arith)
head_taken holds before takes falls x (y ∷ ys) (suc j) d all up within taken =
    let mine = and_parts (holds x) _ all in
    let next = and_parts (holds y) _ mine.1 in
    let parts = and_parts (before x y) _ up in
    falls x y mine.0 next.0 parts.0 (head_taken holds before takes falls y ys j d mine.1 parts.1 (omega arith) taken)

is_partitioned : {A : Type 0} (holds : A → Bool) (before : A → A → Bool) (takes : A → Bool) → TakesEarlier holds before takes → (xs : List A) → list_all holds xs ≡ true → ascends before xs ≡ true → IsPartitionedBy takes xs
is_partitioned holds before takes falls [] all up i j d low within taken = absurd (omega arith)
is_partitioned holds before takes falls (x ∷ xs) all up zero j d low within taken = head_taken holds before takes falls x xs j d all up within taken
is_partitioned holds before takes falls (x ∷ xs) all up (suc i) zero d low within taken = absurd (omega arith)
is_partitioned holds before takes falls (x ∷ xs) all up (suc i) (suc j) d low within taken =
    is_partitioned holds before takes falls xs (and_parts (holds x) _ all).1 (tail_ascends before x xs up) i j d (omega arith) (omega arith) taken

-- what a partition point is: the count of the items that are taken
pub count_from_point : {A : Type 0} (takes : A → Bool) (xs : List A) (i : ℕ) → IsPartitionPoint (λ y. takes y ≡ true) (λ y. takes y ≡ false) xs i → i ≤ length xs → i ≡ count_before takes xs
count_from_point takes [] i point within = omega arith
count_from_point takes (x ∷ xs) zero point within =
    let fails : takes x ≡ false = point.1 0 x (omega arith) (omega arith) in
    rw fails refl
count_from_point takes (x ∷ xs) (suc i) point within =
    let holds : takes x ≡ true = point.0 0 x (omega arith) (omega arith) in
    let rest = count_from_point takes xs i (λ k d low high. point.0 (suc k) d (omega arith) (omega arith), λ k d low high. point.1 (suc k) d (omega arith) (omega arith)) (omega arith) in
    rw holds (omega (arith, rest))

-- not above, and then below
below_after : (x y k : List ℕ) (o : Ordering) → is_lt (ordering_then (key_cmp x y) o) ≡ true → is_lt (key_cmp y k) ≡ true → is_lt (key_cmp x k) ≡ true
below_after x y k o e f = go (key_cmp x y) refl e
  where
    go : (r : Ordering) → key_cmp x y ≡ r → is_lt (ordering_then r o) ≡ true → is_lt (key_cmp x k) ≡ true
    go Less s h = lt_trans key_cmp-total x y k (rw s refl) f
    go Equal s h = ap is_lt (key_cmp-total.congr x y k s) ∙ f
    go Greater s h = cc

pub points_partitioned : (k : List ℕ) (es : List Entry) → IsTrue (list_all (λ e. is_point e.op) es && ascends (λ e f. is_lt (entry_cmp e f)) es) → IsPartitionedBy (λ e. is_lt (key_cmp (op_key e.op) k)) es
points_partitioned k es sorted =
    let parts = and_parts _ _ sorted in
    is_partitioned _ _ (λ e. is_lt (key_cmp (op_key e.op) k)) (λ x y p q up taken. below_after (op_key x.op) (op_key y.op) k (nat_cmp y.seq x.seq) up taken) es parts.0 parts.1

pub not_false : (b : Bool) → not b ≡ true → b ≡ false
not_false true e = cc
not_false false e = refl

span_below : (s : Span) → is_extent s ≡ true → is_lt (key_cmp s.start s.end) ≡ true
span_below s h = (and_parts _ _ h).0

ended_falls : (k : List ℕ) (s t : Span) → is_extent t ≡ true → not (is_lt (key_cmp t.start s.end)) ≡ true → not (is_lt (key_cmp k t.end)) ≡ true → not (is_lt (key_cmp k s.end)) ≡ true
ended_falls k s t h up taken =
    let back = lt_back key_cmp-total t.start t.end (span_below t h) in
    ap not (ge_trans key_cmp-total k t.end s.end (not_false _ taken) (ge_trans key_cmp-total t.end t.start s.end back (not_false _ up)))

begun_falls : (k : List ℕ) (s t : Span) → is_extent s ≡ true → not (is_lt (key_cmp t.start s.end)) ≡ true → is_lt (key_cmp t.start k) ≡ true → is_lt (key_cmp s.start k) ≡ true
begun_falls k s t h up taken =
    lt_trans key_cmp-total s.start t.start k (lt_ge key_cmp-total s.start s.end t.start (span_below s h) (not_false _ up)) taken

-- not above the key, and then not above it either
not_above_after : (x y k : List ℕ) (o : Ordering) → is_lt (ordering_then (key_cmp x y) o) ≡ true → is_lt (key_cmp k y) ≡ false → is_lt (key_cmp k x) ≡ false
not_above_after x y k o e f = go (key_cmp x y) refl e
  where
    go : (r : Ordering) → key_cmp x y ≡ r → is_lt (ordering_then r o) ≡ true → is_lt (key_cmp k x) ≡ false
    go Less s h = ge_trans key_cmp-total k y x f (lt_back key_cmp-total x y (rw s refl))
    go Equal s h = ap is_lt (alike_right key_cmp-total x y k s) ∙ f
    go Greater s h = cc

pub points_past : (k : List ℕ) (es : List Entry) → IsTrue (list_all (λ e. is_point e.op) es && ascends (λ e f. is_lt (entry_cmp e f)) es) → IsPartitionedBy (λ e. not (is_lt (key_cmp k (op_key e.op)))) es
points_past k es sorted =
    let parts = and_parts _ _ sorted in
    is_partitioned _ _ (λ e. not (is_lt (key_cmp k (op_key e.op)))) (λ x y p q up taken. ap not (not_above_after (op_key x.op) (op_key y.op) k (nat_cmp y.seq x.seq) up (not_false _ taken))) es parts.0 parts.1

pub ended_partitioned : (k : List ℕ) (ss : List Span) → IsTrue (list_all is_extent ss && ascends (λ s t. not (is_lt (key_cmp t.start s.end))) ss) → IsPartitionedBy (λ s. not (is_lt (key_cmp k s.end))) ss
ended_partitioned k ss sorted =
    let parts = and_parts _ _ sorted in
    is_partitioned is_extent _ _ (λ x y p q up taken. ended_falls k x y q up taken) ss parts.0 parts.1

pub begun_partitioned : (k : List ℕ) (ss : List Span) → IsTrue (list_all is_extent ss && ascends (λ s t. not (is_lt (key_cmp t.start s.end))) ss) → IsPartitionedBy (λ s. is_lt (key_cmp s.start k)) ss
begun_partitioned k ss sorted =
    let parts = and_parts _ _ sorted in
    is_partitioned is_extent _ _ (λ x y p q up taken. begun_falls k x y p up taken) ss parts.0 parts.1
