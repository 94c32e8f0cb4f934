-- What a union holds.
use Rattle.std.proofs.Common.{◌≡◌, ℕ, zero, suc, ◌<◌, length, get_or, map, Bool, true, false, List, [], ◌∷◌, ◌⊎◌, inl, inr, cond, arith}
use Rattle.rk_merge.specs.Unions.{Among, insert_by, merge, union}

-- each of two gives the other
abbrev pub Same : Type 0 → Type 0 → Type 0
Same P Q = (P → Q) × (Q → P)

pub insert_has : {A : Type 0} (before : A → A → Bool) (x : A) (ys : List A) (z : A) → Same (Among z (insert_by before x ys)) ((z ≡ x) ⊎ Among z ys)
insert_has before x [] z = (λ m. m, λ m. m)
insert_has before x (y ∷ ys) z = go (before y x) (insert_has before x ys z)
  where
    go : (b : Bool) → Same (Among z (insert_by before x ys)) ((z ≡ x) ⊎ Among z ys) → Same (Among z (cond b (y ∷ insert_by before x ys) (x ∷ y ∷ ys))) ((z ≡ x) ⊎ Among z (y ∷ ys))
    go true ih = (
      λ m. elim m [ inl e ↦ inr (inl e) | inr n ↦ elim (ih.0 n) [ inl e ↦ inl e | inr k ↦ inr (inr k) ] ],
      λ m. elim m [ inl e ↦ inr (ih.1 (inl e)) | inr n ↦ elim n [ inl e ↦ inl e | inr k ↦ inr (ih.1 (inr k)) ] ],
    )
    go false ih = (λ m. m, λ m. m)

pub merge_has : {A : Type 0} (before : A → A → Bool) (xs ys : List A) (z : A) → Same (Among z (merge before xs ys)) (Among z xs ⊎ Among z ys)
merge_has before [] ys z = (λ m. inr m, λ m. elim m [ inl n ↦ absurd n | inr n ↦ n ])
merge_has before (x ∷ xs) ys z =
    let first = insert_has before x (merge before xs ys) z in
    let ih = merge_has before xs ys z in (
      λ m. elim (first.0 m) [ inl e ↦ inl (inl e) | inr n ↦ elim (ih.0 n) [ inl k ↦ inl (inr k) | inr k ↦ inr k ] ],
      λ m. first.1 (elim m [ inl n ↦ elim n [ inl e ↦ inl e | inr k ↦ inr (ih.1 (inl k)) ] | inr k ↦ inr (ih.1 (inr k)) ]),
    )

pub union_from : {A S : Type 0} (before : A → A → Bool) (f : S → List A) (ss : List S) (k : ℕ) (d : S) (z : A) → k < length ss → Among z (f (get_or ss k d)) → Among z (union before (map f ss))
union_from before f [] k d z h m = absurd (omega arith)
union_from before f (s ∷ ss) zero d z h m = (merge_has before (f s) (union before (map f ss)) z).1 (inl m)
union_from before f (s ∷ ss) (suc k) d z h m = (merge_has before (f s) (union before (map f ss)) z).1 (inr (union_from before f ss k d z (omega arith) m))

pub union_to : {A S : Type 0} (before : A → A → Bool) (f : S → List A) (ss : List S) (z : A) → Among z (union before (map f ss)) → (k : ℕ) × (k < length ss) × ((d : S) → Among z (f (get_or ss k d)))
union_to before f [] z m = absurd m
union_to before f (s ∷ ss) z m =
    elim ((merge_has before (f s) (union before (map f ss)) z).0 m) [
      | inl n ↦ (zero, omega arith, λ d. n)
      | inr n ↦ let found = union_to before f ss z n in (suc found.0, omega arith, found.2)
    ]
