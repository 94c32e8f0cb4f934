-- Lists of pairs, ascending by suffix.
use Rattle.std.proofs.Common.{◌≡◌, Bool, true, false, cond, List, [], ◌∷◌, ◌++◌, filter, refl, ap, sym, ◌∙◌}
use Rattle.std.specs.Ordering.{is_lt, is_eq}
use Rattle.std.specs.List.{AllByRecursion}
use Rattle.rk_key.specs.Keys.{suffix_cmp}
use Rattle.rk_model.specs.Covers.{insert_pair, by_suffix}
use Rattle.rk_model.specs.declared.span.SuffixValue.{SuffixValue}
use Rattle.rk_model.proofs.Lists.{all_filter}
use Rattle.rk_laws.proofs.Order.{suffix_total, lt_back, lt_trans, ge_trans, lt_ge, apart}

abbrev pub less : SuffixValue → SuffixValue → Bool
less p q = is_lt (suffix_cmp p.suffix q.suffix)

abbrev pub alike : SuffixValue → SuffixValue → Bool
alike p q = is_eq (suffix_cmp p.suffix q.suffix)

-- no pair is less than one before it
abbrev pub Rising : List SuffixValue → Type 0
Rising [] = Unit {0}
Rising (p ∷ ps) = AllByRecursion (λ q. less q p ≡ false) ps × Rising ps

insert_before : (a b : SuffixValue) (l : List SuffixValue) → less a b ≡ true → insert_pair a (insert_pair b l) ≡ insert_pair b (insert_pair a l)
insert_before a b [] h = let k = lt_back suffix_total a.suffix b.suffix h in simp (h, k)
insert_before a b (q ∷ qs) h = go (less b q) (less a q) refl refl (insert_before a b qs h)
  where
    back : less b a ≡ false
    back = lt_back suffix_total a.suffix b.suffix h

    go : (s t : Bool) → less b q ≡ s → less a q ≡ t → insert_pair a (insert_pair b qs) ≡ insert_pair b (insert_pair a qs) →
        insert_pair a (cond s (b ∷ q ∷ qs) (q ∷ insert_pair b qs)) ≡ insert_pair b (cond t (a ∷ q ∷ qs) (q ∷ insert_pair a qs))
    go true true e f ih = simp (h, back, e, f)
    go true false e f ih = let k = lt_trans suffix_total a.suffix b.suffix q.suffix h e in cc
    go false true e f ih = simp (f, back, e)
    go false false e f ih = simp (e, f) (ap (λ l. q ∷ l) ih)

pub insert_swap : (a b : SuffixValue) (l : List SuffixValue) → alike a b ≡ false → insert_pair a (insert_pair b l) ≡ insert_pair b (insert_pair a l)
insert_swap a b l h = go (less a b) refl
  where
    go : (s : Bool) → less a b ≡ s → insert_pair a (insert_pair b l) ≡ insert_pair b (insert_pair a l)
    go true e = insert_before a b l e
    go false e = sym (insert_before b a l (apart suffix_total a.suffix b.suffix h e))

-- a pair whose suffix is none of the others' may come last
pub by_suffix_last : (ps : List SuffixValue) (p : SuffixValue) → AllByRecursion (λ q. alike q p ≡ false) ps → by_suffix (ps ++ p ∷ []) ≡ insert_pair p (by_suffix ps)
by_suffix_last [] p h = refl
by_suffix_last (q ∷ qs) p h = ap (insert_pair q) (by_suffix_last qs p h.1) ∙ insert_swap q p (by_suffix qs) h.0

pub all_insert : (P : SuffixValue → Type 0) (p : SuffixValue) (l : List SuffixValue) → P p → AllByRecursion P l → AllByRecursion P (insert_pair p l)
all_insert P p [] h k = (h, tt)
all_insert P p (q ∷ qs) h k = go (less p q) (all_insert P p qs h k.1)
  where
    go : (s : Bool) → AllByRecursion P (insert_pair p qs) → AllByRecursion P (cond s (p ∷ q ∷ qs) (q ∷ insert_pair p qs))
    go true ih = (h, (k.0, k.1))
    go false ih = (k.0, ih)

pub insert_rises : (p : SuffixValue) (l : List SuffixValue) → Rising l → Rising (insert_pair p l)
insert_rises p [] h = (tt, tt)
insert_rises p (q ∷ qs) h = go (less p q) refl (insert_rises p qs h.1)
  where
    above : less p q ≡ true → (l : List SuffixValue) → AllByRecursion (λ r. less r q ≡ false) l → AllByRecursion (λ r. less r p ≡ false) l
    above e [] k = tt
    above e (r ∷ l) k = (ge_trans suffix_total r.suffix q.suffix p.suffix k.0 (lt_back suffix_total p.suffix q.suffix e), above e l k.1)

    go : (s : Bool) → less p q ≡ s → Rising (insert_pair p qs) → Rising (cond s (p ∷ q ∷ qs) (q ∷ insert_pair p qs))
    go true e ih = ((lt_back suffix_total p.suffix q.suffix e, above e qs h.0), h)
    go false e ih = (all_insert (λ r. less r q ≡ false) p qs e h.0, ih)

pub by_suffix_rises : (ps : List SuffixValue) → Rising (by_suffix ps)
by_suffix_rises [] = tt
by_suffix_rises (p ∷ ps) = insert_rises p (by_suffix ps) (by_suffix_rises ps)

pub insert_front : (p : SuffixValue) (l : List SuffixValue) → AllByRecursion (λ q. less p q ≡ true) l → insert_pair p l ≡ p ∷ l
insert_front p [] h = refl
insert_front p (q ∷ qs) h = rw h.0 refl

filter_insert : (t : SuffixValue → Bool) (p : SuffixValue) (l : List SuffixValue) → Rising l → filter t (insert_pair p l) ≡ cond (t p) (insert_pair p (filter t l)) (filter t l)
filter_insert t p [] h = refl
filter_insert t p (q ∷ qs) h = go (less p q) (t p) (t q) refl refl refl (filter_insert t p qs h.1)
  where
    above : less p q ≡ true → (l : List SuffixValue) → AllByRecursion (λ r. less r q ≡ false) l → AllByRecursion (λ r. less p r ≡ true) l
    above e [] k = tt
    above e (r ∷ l) k = (lt_ge suffix_total p.suffix q.suffix r.suffix e k.0, above e l k.1)

    go : (s a b : Bool) → less p q ≡ s → t p ≡ a → t q ≡ b → filter t (insert_pair p qs) ≡ cond (t p) (insert_pair p (filter t qs)) (filter t qs) →
        filter t (cond s (p ∷ q ∷ qs) (q ∷ insert_pair p qs)) ≡ cond a (insert_pair p (cond b (q ∷ filter t qs) (filter t qs))) (cond b (q ∷ filter t qs) (filter t qs))
    go true true true e f g ih = simp (e, f, g)
    go true true false e f g ih = simp (f, g) (sym (insert_front p (filter t qs) (all_filter t (λ r. less p r ≡ true) qs (above e qs h.0))))
    go true false true e f g ih = simp (f, g)
    go true false false e f g ih = simp (f, g)
    go false true true e f g ih = simp (e, g) (ap (λ l. q ∷ l) (ih ∙ rw f refl))
    go false true false e f g ih = simp g (ih ∙ rw f refl)
    go false false true e f g ih = simp g (ap (λ l. q ∷ l) (ih ∙ rw f refl))
    go false false false e f g ih = simp g (ih ∙ rw f refl)

pub by_suffix_filter : (t : SuffixValue → Bool) (ps : List SuffixValue) → by_suffix (filter t ps) ≡ filter t (by_suffix ps)
by_suffix_filter t [] = refl
by_suffix_filter t (p ∷ ps) = go (t p) refl (by_suffix_filter t ps) ∙ sym (filter_insert t p (by_suffix ps) (by_suffix_rises ps))
  where
    go : (a : Bool) → t p ≡ a → by_suffix (filter t ps) ≡ filter t (by_suffix ps) → by_suffix (cond a (p ∷ filter t ps) (filter t ps)) ≡ cond a (insert_pair p (filter t (by_suffix ps))) (filter t (by_suffix ps))
    go true e ih = ap (insert_pair p) ih
    go false e ih = ih
