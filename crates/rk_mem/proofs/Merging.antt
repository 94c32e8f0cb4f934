-- Two sorted lists of points, of which the second is newer, merged into one.
use Rattle.std.proofs.Common.{◌≡◌, ℕ, suc, ◌+◌, ◌<◌, ◌≤◌, Bool, true, false, cond, List, [], ◌∷◌, ◌++◌, length, get_or, take, drop, refl, sym, ap, ◌∙◌, inl, inr, arith}
use Rattle.std.specs.Prelude.{IsTrue}
use Rattle.std.specs.List.{AllByRecursion, list_all}
use Rattle.std.specs.List.Sorted.{IsPermutation}
use Rattle.std.specs.Ordering.{is_lt}
use Rattle.std.proofs.lemmas.Bool.{and_parts}
use Rattle.std.proofs.lemmas.List.{append_assoc, drop_more, drop_all}
use Rattle.std.proofs.lemmas.List.Sorted.{IsPermutation-refl, IsPermutation-trans, IsPermutation-cons, IsPermutation-middle}
use Rattle.rk_key.proofs.TotalOrders.{lt_trans}
use Rattle.rk_model.proofs.Orders.{entry_total}
use Rattle.rk_model.specs.Covers.{is_point}
use Rattle.rk_model.specs.Cuts.{count_before}
use Rattle.rk_model.specs.Sources.{ascends, entry_cmp, are_points}
use Rattle.rk_model.specs.declared.op.Entry.{Entry}
use Rattle.rk_model.proofs.Lists.{all_weaker}
use Rattle.rk_mem.specs.Chunks.{AreNewer}
use Rattle.rk_mem.specs.Memory.{EachTwo}
use Rattle.rk_mem.proofs.Split.{all_true}
use Rattle.rk_mem.proofs.Sorting.{precedes, less}

-- the items of the first list, each behind those of the second that stand before it
abbrev pub into : Entry → (List Entry → List Entry) → List Entry → List Entry
into x next [] = x ∷ next []
into x next (y ∷ ys) = cond (precedes y x) (y ∷ into x next ys) (x ∷ next (y ∷ ys))

abbrev pub merge : List Entry → List Entry → List Entry
merge [] ys = ys
merge (x ∷ xs) ys = into x (merge xs) ys

pub into_is : (x : Entry) (next : List Entry → List Entry) (ys : List Entry)
    → into x next ys ≡ take (count_before (λ y. is_lt (entry_cmp y x)) ys) ys ++ x ∷ next (drop (count_before (λ y. is_lt (entry_cmp y x)) ys) ys)
into_is x next [] = refl
into_is x next (y ∷ ys) = go (precedes y x) (into_is x next ys)
  where
    count : ℕ
    count = count_before (λ y. is_lt (entry_cmp y x)) ys

    go : (b : Bool) → into x next ys ≡ take count ys ++ x ∷ next (drop count ys)
        → cond b (y ∷ into x next ys) (x ∷ next (y ∷ ys)) ≡ take (cond b (count + 1) 0) (y ∷ ys) ++ x ∷ next (drop (cond b (count + 1) 0) (y ∷ ys))
    go true ih = let one : count + 1 ≡ suc count = omega arith in rw one (ap (λ l. y ∷ l) ih)
    go false ih = refl

-- the merged list has the items of both
all_into : (P : Entry → Type 0) (x : Entry) (next : List Entry → List Entry) → P x → ((zs : List Entry) → AllByRecursion P zs → AllByRecursion P (next zs)) → (ys : List Entry) → AllByRecursion P ys → AllByRecursion P (into x next ys)
all_into P x next here rest [] h = (here, rest [] tt)
all_into P x next here rest (y ∷ ys) h = go (precedes y x) (all_into P x next here rest ys h.1)
  where
    go : (b : Bool) → AllByRecursion P (into x next ys) → AllByRecursion P (cond b (y ∷ into x next ys) (x ∷ next (y ∷ ys)))
    go true ih = (h.0, ih)
    go false ih = (here, rest (y ∷ ys) h)

all_merge : (P : Entry → Type 0) (xs ys : List Entry) → AllByRecursion P xs → AllByRecursion P ys → AllByRecursion P (merge xs ys)
all_merge P [] ys h k = k
all_merge P (x ∷ xs) ys h k = all_into P x (merge xs) h.0 (λ zs m. all_merge P xs zs h.1 m) ys k

same_into : (x : Entry) (xs : List Entry) → ((zs : List Entry) → IsPermutation (xs ++ zs) (merge xs zs)) → (ys : List Entry) → IsPermutation ((x ∷ xs) ++ ys) (into x (merge xs) ys)
same_into x xs rest [] = IsPermutation-cons x (xs ++ []) (merge xs []) (rest [])
same_into x xs rest (y ∷ ys) = go (precedes y x) (same_into x xs rest ys)
  where
    go : (b : Bool) → IsPermutation ((x ∷ xs) ++ ys) (into x (merge xs) ys) → IsPermutation ((x ∷ xs) ++ y ∷ ys) (cond b (y ∷ into x (merge xs) ys) (x ∷ merge xs (y ∷ ys)))
    go true ih =
        IsPermutation-trans ((x ∷ xs) ++ y ∷ ys) (y ∷ ((x ∷ xs) ++ ys)) (y ∷ into x (merge xs) ys) (IsPermutation-middle (x ∷ xs) y ys) (IsPermutation-cons y ((x ∷ xs) ++ ys) (into x (merge xs) ys) ih)
    go false ih = IsPermutation-cons x (xs ++ y ∷ ys) (merge xs (y ∷ ys)) (rest (y ∷ ys))

pub same_merge : (xs ys : List Entry) → IsPermutation (xs ++ ys) (merge xs ys)
same_merge [] ys = IsPermutation-refl ys
same_merge (x ∷ xs) ys = same_into x xs (same_merge xs) ys

-- each before all that follow it
abbrev IsBefore : Entry → Entry → Type 0
IsBefore e f = precedes e f ≡ true

before_trans : (e f g : Entry) → IsBefore e f → IsBefore f g → IsBefore e g
before_trans e f g p q = lt_trans entry_total e f g p q

each_of : (es : List Entry) → ascends precedes es ≡ true → EachTwo IsBefore es
each_of [] h = tt
each_of (e ∷ []) h = (tt, tt)
each_of (e ∷ f ∷ es) h =
    let parts = and_parts (precedes e f) (ascends precedes (f ∷ es)) h in
    let rest : EachTwo IsBefore (f ∷ es) = each_of (f ∷ es) parts.1 in
    ((parts.0, all_weaker (IsBefore f) (IsBefore e) (λ g q. before_trans e f g parts.0 q) es rest.0), rest)

ascends_of : (es : List Entry) → EachTwo IsBefore es → ascends precedes es ≡ true
ascends_of [] h = refl
ascends_of (e ∷ []) h = refl
ascends_of (e ∷ f ∷ es) h = rw h.0.0 (ascends_of (f ∷ es) h.1)

order_into : (x : Entry) (xs : List Entry) → AllByRecursion (IsBefore x) xs
    → ((zs : List Entry) → EachTwo IsBefore zs → AreNewer xs zs → EachTwo IsBefore (merge xs zs))
    → (ys : List Entry) → EachTwo IsBefore ys → AreNewer (x ∷ xs) ys → EachTwo IsBefore (into x (merge xs) ys)
order_into x xs first rest [] h newer =
    (all_merge (IsBefore x) xs [] first tt, rest [] tt (λ e f at_e at_f. newer e f (inr at_e) at_f))
order_into x xs first rest (y ∷ ys) h newer = go (precedes y x) refl (order_into x xs first rest ys h.1 (λ e f at_e at_f. newer e f at_e (inr at_f)))
  where
    go : (b : Bool) → precedes y x ≡ b → EachTwo IsBefore (into x (merge xs) ys) → EachTwo IsBefore (cond b (y ∷ into x (merge xs) ys) (x ∷ merge xs (y ∷ ys)))
    go true k ih =
        let behind : AllByRecursion (IsBefore y) xs = all_weaker (IsBefore x) (IsBefore y) (λ g q. before_trans y x g k q) xs first in
        (all_into (IsBefore y) x (merge xs) k (λ zs m. all_merge (IsBefore y) xs zs behind m) ys h.0, ih)
    go false k ih =
        let older : x.seq < y.seq = newer x y (inl refl) (inl refl) in
        let here : IsBefore x y = less x y k (λ same. omega arith) in
        let behind : AllByRecursion (IsBefore x) ys = all_weaker (IsBefore y) (IsBefore x) (λ g q. before_trans x y g here q) ys h.0 in
        (all_merge (IsBefore x) xs (y ∷ ys) first (here, behind), rest (y ∷ ys) h (λ e f at_e at_f. newer e f (inr at_e) at_f))

order_merge : (xs ys : List Entry) → EachTwo IsBefore xs → EachTwo IsBefore ys → AreNewer xs ys → EachTwo IsBefore (merge xs ys)
order_merge [] ys h k newer = k
order_merge (x ∷ xs) ys h k newer = order_into x xs h.0 (λ zs m less. order_merge xs zs h.1 m less) ys k newer

of_all : (es : List Entry) → AllByRecursion (λ e. is_point e.op ≡ true) es → list_all (λ e. is_point e.op) es ≡ true
of_all [] h = refl
of_all (e ∷ es) h = rw h.0 (of_all es h.1)

pub merge_in_order : (xs ys : List Entry) → IsTrue (are_points xs) → IsTrue (are_points ys) → AreNewer xs ys → IsTrue (are_points (merge xs ys))
merge_in_order xs ys h k newer =
    let of_xs = and_parts (list_all (λ e. is_point e.op) xs) (ascends precedes xs) h in
    let of_ys = and_parts (list_all (λ e. is_point e.op) ys) (ascends precedes ys) k in
    let points : list_all (λ e. is_point e.op) (merge xs ys) ≡ true = of_all (merge xs ys) (all_merge (λ e. is_point e.op ≡ true) xs ys (all_true (λ e. is_point e.op) xs of_xs.0) (all_true (λ e. is_point e.op) ys of_ys.0)) in
    let order : ascends precedes (merge xs ys) ≡ true = ascends_of (merge xs ys) (order_merge xs ys (each_of xs of_xs.1) (each_of ys of_ys.1) newer) in
    rw points order

-- a loop over the older points, which have been merged up to i
pub merge_turn : (points older newer rest : List Entry) (i : ℕ) (x : Entry) → i < length older → x ≡ get_or older i x → points ++ merge (drop i older) rest ≡ merge older newer
    → ((points ++ take (count_before (λ y. is_lt (entry_cmp y x)) rest) rest) ++ x ∷ []) ++ merge (drop (i + 1) older) (drop (count_before (λ y. is_lt (entry_cmp y x)) rest) rest) ≡ merge older newer
merge_turn points older newer rest i x within is so_far =
    append_assoc (points ++ take count rest) (x ∷ []) (merge (drop (i + 1) older) (drop count rest))
    ∙ append_assoc points (take count rest) (x ∷ merge (drop (i + 1) older) (drop count rest))
    ∙ ap (λ l. points ++ l) (sym (into_is x (merge (drop (i + 1) older)) rest))
    ∙ ap (λ l. points ++ merge l rest) (sym front)
    ∙ so_far
  where
    count : ℕ
    count = count_before (λ y. is_lt (entry_cmp y x)) rest

    front : drop i older ≡ x ∷ drop (i + 1) older
    front = drop_more older i x within ∙ ap (λ e. e ∷ drop (i + 1) older) (sym is)

pub merge_end : (points older newer rest : List Entry) (i : ℕ) → length older ≤ i → points ++ merge (drop i older) rest ≡ merge older newer → points ++ rest ≡ merge older newer
merge_end points older newer rest i all so_far = let none : drop i older ≡ [] = drop_all i older all in ap (λ l. points ++ merge l rest) (sym none) ∙ so_far
