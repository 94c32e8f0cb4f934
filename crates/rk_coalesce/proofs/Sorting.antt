-- A stable sort of the reversed list puts pairs as `by_suffix` does.
use Rattle.std.proofs.Common.{◌≡◌, ℕ, suc, ◌<◌, Bool, true, false, not, ◌&&◌, cond, List, [], ◌∷◌, ◌++◌, length, get_or, filter, reverse, subst, refl, ap, sym, ◌∙◌, add-one, arith}
use Rattle.std.specs.Cmp.{IsStrictWeakOrder}
use Rattle.std.specs.Ordering.{is_lt}
use Rattle.std.specs.List.{AllByRecursion}
use Rattle.std.specs.List.Sorted.{IsSortedBy, IsStableBy, ties}
use Rattle.std.proofs.lemmas.List.{append-nil, reverse-append}
use Rattle.std.proofs.lemmas.List.Elements.{filter-append}
use Rattle.std.proofs.lemmas.List.Sorted.{ranks_by, sorted_far}
use Rattle.rk_key.specs.Keys.{suffix_cmp}
use Rattle.rk_key.specs.Laws.{suffix_cmp-total}
use Rattle.rk_model.specs.Covers.{insert_pair, by_suffix}
use Rattle.rk_model.specs.declared.span.SuffixValue.{SuffixValue}

abbrev pub less : SuffixValue → SuffixValue → Bool
less p q = is_lt (suffix_cmp p.suffix q.suffix)

pub less_order : IsStrictWeakOrder less
less_order = ranks_by suffix_cmp-total (λ p. p.suffix)

-- no pair is less than one before it
abbrev Rising : List SuffixValue → Type 0
Rising [] = Unit {0}
Rising (p ∷ ps) = AllByRecursion (λ q. less q p ≡ false) ps × Rising ps

all_from_places : (P : SuffixValue → Type 0) (qs : List SuffixValue) → ((j : ℕ) (d : SuffixValue) → j < length qs → P (get_or qs j d)) → AllByRecursion P qs
all_from_places P [] h = tt
all_from_places P (q ∷ qs) h = (h 0 q (omega arith), all_from_places P qs (λ j d l. h (suc j) d (omega arith)))

rising_from : (ys : List SuffixValue) → IsSortedBy less ys → Rising ys
rising_from [] h = tt
rising_from (p ∷ ps) h = (
  all_from_places (λ q. less q p ≡ false) ps (λ j d l. sorted_far less less_order (p ∷ ps) h 0 (suc j) d (omega arith) (omega arith)),
  rising_from ps (λ k d low l. rw add-one (rw add-one at (h (suc k) d (omega arith) (omega arith)))),
)

irreflexive : (p : SuffixValue) → less p p ≡ false
irreflexive p = go (less p p) refl
  where
    go : (b : Bool) → less p p ≡ b → b ≡ false
    go true e = sym e ∙ less_order.one_way p p e
    go false e = refl

tied_itself : (p : SuffixValue) → ties less p p ≡ true
tied_itself p = rw (irreflexive p) refl

-- from a pair that is not less than the first on, none is less
less_all : (a b : SuffixValue) (l : List SuffixValue) → less a b ≡ true → AllByRecursion (λ r. less r b ≡ false) l → filter (ties less a) l ≡ []
less_all a b [] h k = refl
less_all a b (r ∷ l) h k = go (less a r) refl (less_all a b l h k.1)
  where
    go : (s : Bool) → less a r ≡ s → filter (ties less a) l ≡ [] → filter (ties less a) (r ∷ l) ≡ []
    go true e ih = rw e ih
    go false e ih = let f : less a b ≡ false = less_order.chain a r b e k.0 in cc

none_tie : (a b : SuffixValue) (l : List SuffixValue) → less a b ≡ true → Rising (b ∷ l) → filter (ties less a) (b ∷ l) ≡ []
none_tie a b l h k = less_all a b (b ∷ l) h (irreflexive b, k.0)

insert_rises : (p : SuffixValue) (l : List SuffixValue) → Rising l → Rising (insert_pair p l)
insert_rises p [] h = (tt, tt)
insert_rises p (q ∷ qs) h = go (less p q) refl (insert_rises p qs h.1)
  where
    above : less p q ≡ true → (l : List SuffixValue) → AllByRecursion (λ r. less r q ≡ false) l → AllByRecursion (λ r. less r p ≡ false) l
    above e [] k = tt
    above e (r ∷ l) k = (less_order.chain r q p k.0 (less_order.one_way p q e), above e l k.1)

    among : less p q ≡ false → (l : List SuffixValue) → AllByRecursion (λ r. less r q ≡ false) l → AllByRecursion (λ r. less r q ≡ false) (insert_pair p l)
    among e [] k = (e, tt)
    among e (r ∷ l) k = within (less p r) (among e l k.1)
      where
        within : (s : Bool) → AllByRecursion (λ r. less r q ≡ false) (insert_pair p l) → AllByRecursion (λ r. less r q ≡ false) (cond s (p ∷ r ∷ l) (r ∷ insert_pair p l))
        within true ih = (e, k)
        within false ih = (k.0, ih)

    go : (s : Bool) → less p q ≡ s → Rising (insert_pair p qs) → Rising (cond s (p ∷ q ∷ qs) (q ∷ insert_pair p qs))
    go true e ih = ((less_order.one_way p q e, above e qs h.0), h)
    go false e ih = (among e qs h.0, ih)

by_suffix_rises : (ps : List SuffixValue) → Rising (by_suffix ps)
by_suffix_rises [] = tt
by_suffix_rises (p ∷ ps) = insert_rises p (by_suffix ps) (by_suffix_rises ps)

-- an insert puts a pair after those that tie with it
ties_insert : (x p : SuffixValue) (l : List SuffixValue) → Rising l → filter (ties less x) (insert_pair p l) ≡ filter (ties less x) l ++ cond (ties less x p) (p ∷ []) []
ties_insert x p [] h = refl
ties_insert x p (q ∷ qs) h = go (less p q) refl (ties_insert x p qs h.1)
  where
    below : less p q ≡ true → less p x ≡ false → less x q ≡ true
    below e f = at (less x q) refl
      where
        at : (s : Bool) → less x q ≡ s → s ≡ true
        at true g = refl
        at false g = let k : less p q ≡ false = less_order.chain p x q f g in sym k ∙ e

    first : less p q ≡ true → (a b : Bool) → less x p ≡ a → less p x ≡ b →
        cond (not a && not b) (p ∷ filter (ties less x) (q ∷ qs)) (filter (ties less x) (q ∷ qs)) ≡ filter (ties less x) (q ∷ qs) ++ cond (not a && not b) (p ∷ []) []
    first e true b f g = sym (append-nil (filter (ties less x) (q ∷ qs)))
    first e false true f g = sym (append-nil (filter (ties less x) (q ∷ qs)))
    first e false false f g = let k : filter (ties less x) (q ∷ qs) ≡ [] = none_tie x q qs (below e g) h in rw k refl

    later : (t : Bool) → filter (ties less x) (insert_pair p qs) ≡ filter (ties less x) qs ++ cond (ties less x p) (p ∷ []) [] →
        cond t (q ∷ filter (ties less x) (insert_pair p qs)) (filter (ties less x) (insert_pair p qs)) ≡ cond t (q ∷ filter (ties less x) qs) (filter (ties less x) qs) ++ cond (ties less x p) (p ∷ []) []
    later true ih = ap (λ l. q ∷ l) ih
    later false ih = ih

    go : (s : Bool) → less p q ≡ s → filter (ties less x) (insert_pair p qs) ≡ filter (ties less x) qs ++ cond (ties less x p) (p ∷ []) [] →
        filter (ties less x) (cond s (p ∷ q ∷ qs) (q ∷ insert_pair p qs)) ≡ filter (ties less x) (q ∷ qs) ++ cond (ties less x p) (p ∷ []) []
    go true e ih = first e (less x p) (less p x) refl refl
    go false e ih = later (ties less x q) ih

ties_by_suffix : (x : SuffixValue) (ps : List SuffixValue) → filter (ties less x) (by_suffix ps) ≡ filter (ties less x) (reverse ps)
ties_by_suffix x [] = refl
ties_by_suffix x (p ∷ ps) =
    ties_insert x p (by_suffix ps) (by_suffix_rises ps)
    ∙ ap (λ l. l ++ cond (ties less x p) (p ∷ []) []) (ties_by_suffix x ps)
    ∙ sym (filter-append (ties less x) (reverse ps) (p ∷ []))
    ∙ sym (ap (filter (ties less x)) (reverse-append (p ∷ []) ps))

-- rising lists whose pairs tie in the same order are one
same_rising : (l m : List SuffixValue) → Rising l → Rising m → ((x : SuffixValue) → filter (ties less x) l ≡ filter (ties less x) m) → l ≡ m
same_rising [] [] h k t = refl
same_rising [] (q ∷ qs) h k t = let e : [] ≡ q ∷ filter (ties less q) qs = rw (tied_itself q) at (t q) in cc
same_rising (p ∷ ps) [] h k t = let e : p ∷ filter (ties less p) ps ≡ [] = rw (tied_itself p) at (t p) in cc
same_rising (p ∷ ps) (q ∷ qs) h k t = go (less p q) (less q p) refl refl (same_rising ps qs h.1 k.1)
  where
    here : p ∷ filter (ties less p) ps ≡ filter (ties less p) (q ∷ qs)
    here = rw (tied_itself p) at (t p)

    there : filter (ties less q) (p ∷ ps) ≡ q ∷ filter (ties less q) qs
    there = rw (tied_itself q) at (t q)

    without_first : (b : Bool) (xs ys : List SuffixValue) → cond b (q ∷ xs) xs ≡ cond b (q ∷ ys) ys → xs ≡ ys
    without_first true xs ys e = cc
    without_first false xs ys e = e

    heads : p ≡ q → (((x : SuffixValue) → filter (ties less x) ps ≡ filter (ties less x) qs) → ps ≡ qs) → p ∷ ps ≡ q ∷ qs
    heads e ih =
        let both : (x : SuffixValue) → filter (ties less x) (q ∷ ps) ≡ filter (ties less x) (q ∷ qs) = λ x. subst (λ (z : SuffixValue). filter (ties less x) (z ∷ ps) ≡ filter (ties less x) (q ∷ qs)) e (t x) in
        let rest : ps ≡ qs = ih (λ x. without_first (ties less x q) (filter (ties less x) ps) (filter (ties less x) qs) (both x)) in
        cc

    go : (a b : Bool) → less p q ≡ a → less q p ≡ b → (((x : SuffixValue) → filter (ties less x) ps ≡ filter (ties less x) qs) → ps ≡ qs) → p ∷ ps ≡ q ∷ qs
    go true b e f ih = let n : filter (ties less p) (q ∷ qs) ≡ [] = none_tie p q qs e k in let c : p ∷ filter (ties less p) ps ≡ [] = here ∙ n in cc
    go false true e f ih = let n : filter (ties less q) (p ∷ ps) ≡ [] = none_tie q p ps f h in let c : q ∷ filter (ties less q) qs ≡ [] = sym there ∙ n in cc
    go false false e f ih = heads (let g : p ∷ filter (ties less p) ps ≡ q ∷ filter (ties less p) qs = rw (e, f) at here in cc) ih

pub sorted_is : (ps rs ys : List SuffixValue) → rs ≡ reverse ps → IsSortedBy less ys → IsStableBy less rs ys → ys ≡ by_suffix ps
sorted_is ps rs ys turned up stable =
    same_rising ys (by_suffix ps) (rising_from ys up) (by_suffix_rises ps) (λ x. stable x ∙ ap (filter (ties less x)) turned ∙ sym (ties_by_suffix x ps))
