-- Lists with the same entries over a key.
use Rattle.std.proofs.Common.{◌≡◌, ◌≢◌, ℕ, ◌<◌, ◌≤◌, Bool, true, false, not, ◌&&◌, cond, List, [], ◌∷◌, map, filter, Option, Some, None, IsPermutation, refl, ap, sym, ◌∙◌, ◌⊎◌, inl, inr, subst, arith, nat_lt, option_and_then}
use Rattle.std.specs.List.{AllByRecursion, list_any, filter_map, cons_option}
use Rattle.std.proofs.lemmas.Cmp.{eq_by_cmp_equiv}
use Rattle.std.proofs.lemmas.Bool.{lt-ltb, ltb-false, cases_order, and_parts, and_from, not-true}
use Rattle.std.proofs.lemmas.List.Sorted.{Contains-permutation, IsPermutation-sym}
use Rattle.rk_model.proofs.Numbers.{same_number, some_differ}
use Rattle.rk_model.specs.Operations.{is_over, NumbersDiffer}
use Rattle.rk_model.specs.Covers.{over, is_point, standing, ends_set, insert_pair, by_suffix, newest, put_value, point, cover_of}
use Rattle.rk_model.specs.declared.op.Op.{Op}
use Rattle.rk_model.specs.declared.op.Op.TheVariants.{Put, Del, RangeSet, RangeUnset, RangeDel}
use Rattle.rk_model.specs.declared.op.Entry.{Entry}
use Rattle.rk_model.specs.declared.span.SuffixValue.{SuffixValue}
use Rattle.rk_laws.specs.Prefixes.{spans_over, points_on}
use Rattle.rk_laws.specs.SameEntries.{without_ends, effects_over, SameElements, CoverOfEffects, PointOfElements, CellsInAnyOrder}
use Rattle.rk_model.specs.Lists.{Among}
use Rattle.rk_model.proofs.Members.{Ascending, among_all, all_among, among_filter, filter_among, among_map, map_among, among_contained, contains_among, any_from, any_gives, any_false, among_filter_map, filter_map_among, first_among, first_is, same_ascending, none_any}
use Rattle.rk_laws.proofs.Order.{suffix_total, lt_itself, lt_back, lt_trans, apart}
use Rattle.rk_laws.proofs.Pairs.{less, alike}
use Rattle.rk_laws.proofs.Plain.{is_span}
use Rattle.rk_laws.proofs.Dropped.{ends_after}

among_insert : (p a : SuffixValue) (l : List SuffixValue) → Among a (insert_pair p l) → (a ≡ p) ⊎ Among a l
among_insert p a [] m = m
among_insert p a (q ∷ qs) m = go (less p q) m (among_insert p a qs)
  where
    go : (s : Bool) → Among a (cond s (p ∷ q ∷ qs) (q ∷ insert_pair p qs)) → (Among a (insert_pair p qs) → (a ≡ p) ⊎ Among a qs) → (a ≡ p) ⊎ Among a (q ∷ qs)
    go true m ih = m
    go false (inl e) ih = inr (inl e)
    go false (inr m) ih = elim (ih m) [ inl e ↦ inl e | inr k ↦ inr (inr k) ]

insert_among : (p a : SuffixValue) (l : List SuffixValue) → (a ≡ p) ⊎ Among a l → Among a (insert_pair p l)
insert_among p a [] m = m
insert_among p a (q ∷ qs) m = go (less p q) m (insert_among p a qs)
  where
    go : (s : Bool) → (a ≡ p) ⊎ Among a (q ∷ qs) → ((a ≡ p) ⊎ Among a qs → Among a (insert_pair p qs)) → Among a (cond s (p ∷ q ∷ qs) (q ∷ insert_pair p qs))
    go true m ih = m
    go false (inl e) ih = inr (ih (inl e))
    go false (inr (inl e)) ih = inl e
    go false (inr (inr k)) ih = inr (ih (inr k))

sorted_pairs_among : (ps : List SuffixValue) (a : SuffixValue) → Among a (by_suffix ps) → Among a ps
sorted_pairs_among [] a m = m
sorted_pairs_among (p ∷ ps) a m = elim (among_insert p a (by_suffix ps) m) [ inl e ↦ inl e | inr k ↦ inr (sorted_pairs_among ps a k) ]

among_sorted_pairs : (ps : List SuffixValue) (a : SuffixValue) → Among a ps → Among a (by_suffix ps)
among_sorted_pairs [] a m = m
among_sorted_pairs (p ∷ ps) a (inl e) = insert_among p a (by_suffix ps) (inl e)
among_sorted_pairs (p ∷ ps) a (inr m) = insert_among p a (by_suffix ps) (inr (among_sorted_pairs ps a m))

-- no two pairs have one suffix
abbrev SuffixesDiffer : List SuffixValue → Type 0
SuffixesDiffer [] = Unit {0}
SuffixesDiffer (p ∷ ps) = AllByRecursion (λ q. alike p q ≡ false) ps × SuffixesDiffer ps

insert_ascends : (p : SuffixValue) (l : List SuffixValue) → ((q : SuffixValue) → Among q l → alike p q ≡ false) → Ascending less l → Ascending less (insert_pair p l)
insert_ascends p [] d h = (tt, tt)
insert_ascends p (q ∷ qs) d h = go (less p q) refl (insert_ascends p qs (λ r m. d r (inr m)) h.1)
  where
    after : less p q ≡ false → (r : SuffixValue) → (r ≡ p) ⊎ Among r qs → less q r ≡ true
    after e r (inl k) = rw k (apart suffix_total p.suffix q.suffix (d q (inl refl)) e)
    after e r (inr m) = among_all (λ r. less q r ≡ true) qs r h.0 m

    go : (s : Bool) → less p q ≡ s → Ascending less (insert_pair p qs) → Ascending less (cond s (p ∷ q ∷ qs) (q ∷ insert_pair p qs))
    go true e ih = ((e, all_among (λ r. less p r ≡ true) qs (λ r m. lt_trans suffix_total p.suffix q.suffix r.suffix e (among_all (λ r. less q r ≡ true) qs r h.0 m))), h)
    go false e ih = (all_among (λ r. less q r ≡ true) (insert_pair p qs) (λ r m. after e r (among_insert p r qs m)), ih)

by_suffix_ascends : (ps : List SuffixValue) → SuffixesDiffer ps → Ascending less (by_suffix ps)
by_suffix_ascends [] d = tt
by_suffix_ascends (p ∷ ps) d = insert_ascends p (by_suffix ps) (λ q m. among_all (λ q. alike p q ≡ false) ps q d.0 (sorted_pairs_among ps q m)) (by_suffix_ascends ps d.1)

-- what stands was set, and nothing newer ends it
pub data Stands (here : List Entry) (n : ℕ) (op : Op) (p : SuffixValue) : Type 0 where
  stands : (start end : List ℕ) → op ≡ RangeSet start end p.suffix p.value → list_any (ends_after n p.suffix) here ≡ false → Stands here n op p

stands_is : (here : List Entry) (n : ℕ) (op : Op) (p : SuffixValue) → standing here n op ≡ Some p → Stands here n op p
stands_is here n (Put key value) p h = cc
stands_is here n (Del key) p h = cc
stands_is here n (RangeSet start end s v) p h = go (list_any (ends_after n s) here) refl h
  where
    go : (b : Bool) → list_any (ends_after n s) here ≡ b → cond b None (Some (record { suffix = s; value = v })) ≡ Some p → Stands here n (RangeSet start end s v) p
    go true e h = cc
    go false e h =
        let q : SuffixValue = record { suffix = s; value = v } in
        let k : q ≡ p = cc in
        subst (λ r. Stands here n (RangeSet start end s v) r) k (stands start end refl e)
stands_is here n (RangeUnset start end s) p h = cc
stands_is here n (RangeDel start end) p h = cc

stands_gives : (here : List Entry) (n : ℕ) (op : Op) (p : SuffixValue) → Stands here n op p → standing here n op ≡ Some p
stands_gives here n op p (stands start end e h) = ap (standing here n) e ∙ rw h refl

-- of two sets that stand with different numbers, the suffixes differ
sets_differ : (here : List Entry) (e f : Entry) (p q : SuffixValue) → Among e here → Among f here → e.seq ≢ f.seq → Stands here e.seq e.op p → Stands here f.seq f.op q → alike p q ≡ false
sets_differ here e f p q m i d (stands a b g h) (stands u v j k) = go (alike p q) refl (cases_order e.seq f.seq)
  where
    go : (t : Bool) → alike p q ≡ t → (e.seq ≡ f.seq) ⊎ ((e.seq < f.seq) ⊎ (f.seq < e.seq)) → t ≡ false
    go false r o = refl
    go true r (inl o) = absurd (d o)
    go true r (inr (inl o)) =
        let x : ends_after e.seq p.suffix f ≡ false = any_false (ends_after e.seq p.suffix) here f h i in
        let w : alike q p ≡ true = (eq_by_cmp_equiv suffix_total).symm q.suffix p.suffix ∙ r in
        let y : ends_after e.seq p.suffix f ≡ true = and_from (nat_lt e.seq f.seq) (ends_set p.suffix f.op) (lt-ltb e.seq f.seq o) (ap (ends_set p.suffix) j ∙ w) in
        cc
    go true r (inr (inr o)) =
        let x : ends_after f.seq q.suffix e ≡ false = any_false (ends_after f.seq q.suffix) here e k m in
        let y : ends_after f.seq q.suffix e ≡ true = and_from (nat_lt f.seq e.seq) (ends_set q.suffix e.op) (lt-ltb f.seq e.seq o) (ap (ends_set q.suffix) g ∙ r) in
        cc

suffixes_differ : (here l : List Entry) → ((e : Entry) → Among e l → Among e here) → NumbersDiffer l → SuffixesDiffer (filter_map (λ e. standing here e.seq e.op) l)
suffixes_differ here [] within d = tt
suffixes_differ here (e ∷ es) within d = go (standing here e.seq e.op) refl (suffixes_differ here es (λ f m. within f (inr m)) d.1)
  where
    g : Entry → Option SuffixValue
    g e = standing here e.seq e.op

    go : (o : Option SuffixValue) → g e ≡ o → SuffixesDiffer (filter_map g es) → SuffixesDiffer (cons_option o (filter_map g es))
    go None h ih = ih
    go (Some p) h ih = (all_among (λ q. alike p q ≡ false) (filter_map g es) other, ih)
      where
        other : (q : SuffixValue) → Among q (filter_map g es) → alike p q ≡ false
        other q m =
            let (f, k) = filter_map_among g es q m in
            sets_differ here e f p q (within e (inl refl)) (within f (inr k.0)) (λ q. among_all (λ f. f.seq ≢ e.seq) es f d.0 k.0 (sym q)) (stands_is here e.seq e.op p h) (stands_is here f.seq f.op q k.1)

pub cover_of_ascends : (here : List Entry) → NumbersDiffer here → Ascending less (cover_of here)
cover_of_ascends here d = by_suffix_ascends (filter_map (λ e. standing here e.seq e.op) here) (suffixes_differ here here (λ e m. m) d)

abbrev effect : Entry → Entry
effect e = record { op = without_ends e.op; seq = e.seq }

-- each effect of the first is one of the second
abbrev Covers : List Entry → List Entry → Type 0
Covers here there = (e : Entry) → Among e (map effect (filter is_span here)) → Among e (map effect (filter is_span there))

span_across : (here there : List Entry) → Covers here there → (e : Entry) → Among e here → is_span e ≡ true → (f : Entry) × (Among f there × (effect e ≡ effect f))
span_across here there h e m s =
    let (f, k) = map_among effect (filter is_span there) (effect e) (h (effect e) (among_map effect (filter is_span here) e (among_filter is_span here e m s))) in
    (f, ((filter_among is_span there f k.0).0, k.1))

ends_without : (s : List ℕ) (op : Op) → ends_set s (without_ends op) ≡ ends_set s op
ends_without s (Put key value) = refl
ends_without s (Del key) = refl
ends_without s (RangeSet start end t v) = refl
ends_without s (RangeUnset start end t) = refl
ends_without s (RangeDel start end) = refl

ender_spans : (s : List ℕ) (op : Op) → ends_set s op ≡ true → not (is_point op) ≡ true
ender_spans s (Put key value) h = cc
ender_spans s (Del key) h = cc
ender_spans s (RangeSet start end t v) h = refl
ender_spans s (RangeUnset start end t) h = refl
ender_spans s (RangeDel start end) h = refl

ends_same : (n : ℕ) (s : List ℕ) (e f : Entry) → effect e ≡ effect f → ends_after n s e ≡ ends_after n s f
ends_same n s e f h =
    ap (λ b. nat_lt n e.seq && b) (sym (ends_without s e.op))
    ∙ ap (λ (g : Entry). nat_lt n g.seq && ends_set s g.op) h
    ∙ ap (λ b. nat_lt n f.seq && b) (ends_without s f.op)

ended_across : (here there : List Entry) → Covers here there → (n : ℕ) (s : List ℕ) → list_any (ends_after n s) here ≡ true → list_any (ends_after n s) there ≡ true
ended_across here there h n s k =
    let (e, m) = any_gives (ends_after n s) here k in
    let p = and_parts (nat_lt n e.seq) (ends_set s e.op) m.1 in
    let (f, i) = span_across here there h e m.0 (ender_spans s e.op p.1) in
    any_from (ends_after n s) there f i.0 (sym (ends_same n s e f i.1) ∙ m.1)

not_ended : (here there : List Entry) → Covers there here → (n : ℕ) (s : List ℕ) → list_any (ends_after n s) here ≡ false → list_any (ends_after n s) there ≡ false
not_ended here there h n s k = go (list_any (ends_after n s) there) refl
  where
    go : (b : Bool) → list_any (ends_after n s) there ≡ b → b ≡ false
    go true e = let p : list_any (ends_after n s) here ≡ true = ended_across there here h n s e in cc
    go false e = refl

set_across : (op : Op) (s v : List ℕ) → without_ends op ≡ RangeSet [] [] s v → (start : List ℕ) × ((end : List ℕ) × (op ≡ RangeSet start end s v))
set_across (Put key value) s v h = cc
set_across (Del key) s v h = cc
set_across (RangeSet start end t w) s v h = (start, (end, cc))
set_across (RangeUnset start end t) s v h = cc
set_across (RangeDel start end) s v h = cc

pairs_across : (here there : List Entry) → Covers here there → Covers there here → (p : SuffixValue) → Among p (cover_of here) → Among p (cover_of there)
pairs_across here there to back p m =
    let (e, k) = filter_map_among (λ e. standing here e.seq e.op) here p (sorted_pairs_among (filter_map (λ e. standing here e.seq e.op) here) p m) in
    go e k.0 (stands_is here e.seq e.op p k.1)
  where
    go : (e : Entry) → Among e here → Stands here e.seq e.op p → Among p (cover_of there)
    go e i (stands start end g h) =
        let s : is_span e ≡ true = ap (λ op. not (is_point op)) g in
        let (f, j) = span_across here there to e i s in
        let q : without_ends f.op ≡ RangeSet [] [] p.suffix p.value = sym (ap (λ (z : Entry). z.op) j.1) ∙ ap without_ends g in
        let n : e.seq ≡ f.seq = ap (λ (z : Entry). z.seq) j.1 in
        let (a, br) = set_across f.op p.suffix p.value q in
        let (b, r) = br in
        let t : list_any (ends_after f.seq p.suffix) there ≡ false = subst (λ z. list_any (ends_after z p.suffix) there ≡ false) n (not_ended here there back e.seq p.suffix h) in
        among_sorted_pairs (filter_map (λ e. standing there e.seq e.op) there) p (among_filter_map (λ e. standing there e.seq e.op) there f p j.0 (stands_gives there f.seq f.op p (stands a b r t)))

less_back : (p q : SuffixValue) → less p q ≡ true → less q p ≡ false
less_back p q h = lt_back suffix_total p.suffix q.suffix h

less_self : (p : SuffixValue) → less p p ≡ false
less_self p = lt_itself suffix_total p.suffix

covers_across : (here there : List Entry) → NumbersDiffer here → NumbersDiffer there → Covers here there → Covers there here → cover_of here ≡ cover_of there
covers_across here there d e to back = same_ascending less less_back less_self (cover_of here) (cover_of there) (cover_of_ascends here d) (cover_of_ascends there e) (pairs_across here there to back) (pairs_across there here back to)

elements_to : (es fs : List Entry) → SameElements es fs → (e : Entry) → Among e es → Among e fs
elements_to es fs h e m = among_contained fs e ((h e).0 (contains_among es e m))

elements_from : (es fs : List Entry) → SameElements es fs → (e : Entry) → Among e fs → Among e es
elements_from es fs h e m = among_contained es e ((h e).1 (contains_among fs e m))

pub cover_of_effects : CoverOfEffects
cover_of_effects es fs x d e h = covers_across (over x es) (over x fs) d e (elements_to (effects_over x es) (effects_over x fs) h) (elements_from (effects_over x es) (effects_over x fs) h)

-- the newest of some entries is one that none is newer than
newest_is : (l : List Entry) (e : Entry) → newest l ≡ Some e → Among e l × (list_any (λ f. nat_lt e.seq f.seq) l ≡ false)
newest_is l e h =
    let m = filter_among (λ e. not (list_any (λ f. nat_lt e.seq f.seq) l)) l e (first_among (filter (λ e. not (list_any (λ f. nat_lt e.seq f.seq) l)) l) e h) in
    (m.0, not-true (list_any (λ f. nat_lt e.seq f.seq) l) m.1)

newest_there : (l : List Entry) (e : Entry) → Among e l → list_any (λ f. nat_lt e.seq f.seq) l ≡ false → (f : Entry) × (newest l ≡ Some f)
newest_there l e m h = first_is (filter (λ e. not (list_any (λ f. nat_lt e.seq f.seq) l)) l) e (among_filter (λ e. not (list_any (λ f. nat_lt e.seq f.seq) l)) l e m (rw h refl))

none_newer_across : (l m : List Entry) → ((e : Entry) → Among e m → Among e l) → (n : ℕ) → list_any (λ f. nat_lt n f.seq) l ≡ false → list_any (λ f. nat_lt n f.seq) m ≡ false
none_newer_across l m back n h = none_any (λ f. nat_lt n f.seq) m (λ f i. any_false (λ f. nat_lt n f.seq) l f h (back f i))

newest_across : (l m : List Entry) → NumbersDiffer l → ((e : Entry) → Among e l → Among e m) → ((e : Entry) → Among e m → Among e l) → (e : Entry) → newest l ≡ Some e → newest m ≡ Some e
newest_across l m d to back e h =
    let i = newest_is l e h in
    let (f, k) = newest_there m e (to e i.0) (none_newer_across l m back e.seq i.1) in
    let j = newest_is m f k in
    let p : nat_lt e.seq f.seq ≡ false = any_false (λ f. nat_lt e.seq f.seq) l f i.1 (back f j.0) in
    let q : nat_lt f.seq e.seq ≡ false = any_false (λ g. nat_lt f.seq g.seq) m e j.1 (to e i.0) in
    let r : f.seq ≤ e.seq = ltb-false e.seq f.seq p in
    let s : e.seq ≤ f.seq = ltb-false f.seq e.seq q in
    let t : f.seq ≡ e.seq = omega arith in
    k ∙ ap Some (same_number l f e d (back f j.0) i.0 t)

newest_same : (l m : List Entry) → NumbersDiffer l → NumbersDiffer m → ((e : Entry) → Among e l → Among e m) → ((e : Entry) → Among e m → Among e l) → newest l ≡ newest m
newest_same l m d d' to back = go (newest l) refl (newest m) refl
  where
    go : (a : Option Entry) → newest l ≡ a → (b : Option Entry) → newest m ≡ b → a ≡ b
    go None h None k = refl
    go None h (Some f) k = let p : newest l ≡ Some f = newest_across m l d' back to f k in absurd cc
    go (Some e) h b k = sym (sym k ∙ newest_across l m d to back e h)

points_differ : (x : List ℕ) (es : List Entry) → NumbersDiffer (over x es) → NumbersDiffer (points_on x es)
points_differ x es d = some_differ (λ e. is_point e.op) (over x es) d

points_across : (es fs : List Entry) (x : List ℕ) → NumbersDiffer (over x es) → NumbersDiffer (over x fs) → ((e : Entry) → Among e (points_on x es) → Among e (points_on x fs)) → ((e : Entry) → Among e (points_on x fs) → Among e (points_on x es)) → point es x ≡ point fs x
points_across es fs x d e to back = ap (option_and_then (λ e. put_value e.op)) (newest_same (points_on x es) (points_on x fs) (points_differ x es d) (points_differ x fs e) to back)

pub point_of_elements : PointOfElements
point_of_elements es fs x d e h = points_across es fs x d e (elements_to (points_on x es) (points_on x fs) h) (elements_from (points_on x es) (points_on x fs) h)

filter_across : (t : Entry → Bool) (l m : List Entry) → ((e : Entry) → Among e l → Among e m) → (e : Entry) → Among e (filter t l) → Among e (filter t m)
filter_across t l m to e i = let p = filter_among t l e i in among_filter t m e (to e p.0) p.1

map_across : (f : Entry → Entry) (l m : List Entry) → ((e : Entry) → Among e l → Among e m) → (e : Entry) → Among e (map f l) → Among e (map f m)
map_across f l m to e i = let (g, k) = map_among f l e i in subst (λ z. Among z (map f m)) (sym k.1) (among_map f m g (to g k.0))

pub cells_in_any_order : CellsInAnyOrder
cells_in_any_order es fs x d e h =
    let to = permuted es fs h in
    let back = permuted fs es (IsPermutation-sym es fs h) in
    (covers_across (over x es) (over x fs) d e (effects es fs to) (effects fs es back), points_across es fs x d e (points es fs to) (points fs es back))
  where
    permuted : (es fs : List Entry) → IsPermutation es fs → (e : Entry) → Among e es → Among e fs
    permuted es fs h e m = among_contained fs e (Contains-permutation es fs e h (contains_among es e m))

    overs : (es fs : List Entry) → ((e : Entry) → Among e es → Among e fs) → (e : Entry) → Among e (over x es) → Among e (over x fs)
    overs es fs to = filter_across (λ e. is_over x e.op) es fs to

    points : (es fs : List Entry) → ((e : Entry) → Among e es → Among e fs) → (e : Entry) → Among e (points_on x es) → Among e (points_on x fs)
    points es fs to = filter_across (λ e. is_point e.op) (over x es) (over x fs) (overs es fs to)

    effects : (es fs : List Entry) → ((e : Entry) → Among e es → Among e fs) → Covers (over x es) (over x fs)
    effects es fs to = map_across effect (spans_over x es) (spans_over x fs) (filter_across is_span (over x es) (over x fs) (overs es fs to))
