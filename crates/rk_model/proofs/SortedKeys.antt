-- Keys in order: what an insert keeps, and which keys are there.
use Rattle.std.proofs.Common.{◌≡◌, ℕ, Bool, true, false, cond, List, [], ◌∷◌, refl, sym, ◌⊎◌, inl, inr, subst}
use Rattle.std.specs.declared.cmp.Ordering.TheVariants.{Equal}
use Rattle.std.specs.Ordering.{is_lt, is_eq}
use Rattle.std.proofs.lemmas.Cmp.{tied_itself}
use Rattle.rk_key.specs.Keys.{key_cmp}
use Rattle.rk_key.specs.Laws.{key_cmp-total}
use Rattle.rk_key.proofs.TotalOrders.{eq_is}
use Rattle.rk_model.specs.Lists.{Among}
use Rattle.rk_model.specs.Spans.{insert_key, sorted_keys}

pub among_insert : (x a : List ℕ) (l : List (List ℕ)) → Among a (insert_key x l) → (a ≡ x) ⊎ Among a l
among_insert x a [] m = m
among_insert x a (y ∷ ys) m = go (is_lt (key_cmp x y)) (is_eq (key_cmp x y)) m (among_insert x a ys)
  where
    go : (s t : Bool) → Among a (cond s (x ∷ y ∷ ys) (cond t (y ∷ ys) (y ∷ insert_key x ys))) → (Among a (insert_key x ys) → (a ≡ x) ⊎ Among a ys) → (a ≡ x) ⊎ Among a (y ∷ ys)
    go true t m ih = m
    go false true m ih = inr m
    go false false (inl e) ih = inr (inl e)
    go false false (inr m) ih = elim (ih m) [ inl e ↦ inl e | inr k ↦ inr (inr k) ]

pub sorted_among : (xs : List (List ℕ)) (a : List ℕ) → Among a (sorted_keys xs) → Among a xs
sorted_among [] a m = m
sorted_among (x ∷ xs) a m = go (among_insert x a (sorted_keys xs) m) (sorted_among xs a)
  where
    go : (a ≡ x) ⊎ Among a (sorted_keys xs) → (Among a (sorted_keys xs) → Among a xs) → (a ≡ x) ⊎ Among a xs
    go (inl e) ih = inl e
    go (inr m) ih = inr (ih m)

-- a key that is ordered as x is
abbrev pub Like : List ℕ → List (List ℕ) → Type 0
Like x l = (b : List ℕ) × (Among b l × (key_cmp x b ≡ Equal))

pub insert_keeps : (x a : List ℕ) (l : List (List ℕ)) → Among a l → Among a (insert_key x l)
insert_keeps x a [] m = absurd m
insert_keeps x a (y ∷ ys) m = go (is_lt (key_cmp x y)) (is_eq (key_cmp x y)) m (insert_keeps x a ys)
  where
    go : (s t : Bool) → Among a (y ∷ ys) → (Among a ys → Among a (insert_key x ys)) → Among a (cond s (x ∷ y ∷ ys) (cond t (y ∷ ys) (y ∷ insert_key x ys)))
    go true t m ih = inr m
    go false true m ih = m
    go false false (inl e) ih = inl e
    go false false (inr m) ih = inr (ih m)

insert_puts : (x : List ℕ) (l : List (List ℕ)) → Like x (insert_key x l)
insert_puts x [] = (x, (inl refl, tied_itself key_cmp-total x))
insert_puts x (y ∷ ys) = go (is_lt (key_cmp x y)) (is_eq (key_cmp x y)) refl (insert_puts x ys)
  where
    go : (s t : Bool) → is_eq (key_cmp x y) ≡ t → Like x (insert_key x ys) → Like x (cond s (x ∷ y ∷ ys) (cond t (y ∷ ys) (y ∷ insert_key x ys)))
    go true t e ih = (x, (inl refl, tied_itself key_cmp-total x))
    go false true e ih = (y, (inl refl, eq_is key_cmp-total x y e))
    go false false e ih = let (b, m) = ih in (b, (inr m.0, m.1))

-- each key has one like it among the sorted ones
pub among_sorted : (xs : List (List ℕ)) (a : List ℕ) → Among a xs → Like a (sorted_keys xs)
among_sorted [] a m = absurd m
among_sorted (x ∷ xs) a (inl e) = subst (λ z. Like z (insert_key x (sorted_keys xs))) (sym e) (insert_puts x (sorted_keys xs))
among_sorted (x ∷ xs) a (inr m) = let (b, k) = among_sorted xs a m in (b, (insert_keeps x b (sorted_keys xs) k.0, k.1))
