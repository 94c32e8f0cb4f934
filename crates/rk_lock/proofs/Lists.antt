-- Lists of tickets, histories and views.
use Rattle.std.proofs.Common.{◌≡◌, ℕ, zero, suc, ◌+◌, ◌<◌, ◌≤◌, ◌⊎◌, inl, inr, ⊎_elim, List, [], ◌∷◌, ◌++◌, length, set, refl, sym, ap, ◌∙◌, arith, length-append, Bool, true, false, true≢false, ◌&&◌, eqb, leb, eq-eqb}
use Rattle.std.specs.Prelude.{if◌then◌else◌}
use Rattle.std.proofs.lemmas.Bool.{eqb-true, leb-true, leb-false}
use mathlib.Core.Logic.{dite}
use native.Mathlib.Decide.{ℕ_discrete}
use mathlib.Core.Option.{some, some-injective, some-ne-none}
use mathlib.Core.List.{append_assoc, append-nil, nil≢cons, head-eq_of_cons-eq, tail-eq_of_cons-eq}
use lib.ListN.{get_elem?}
use Rattle.atomic_table.proofs.Lists.{at_longer}
use Rattle.rk_lock.specs.Histories.{Among, IsPrefix, IsNumbered, longer, shorter, total, same_name, one_if, hits, without}

module _ {A : Type 0} where
  pub among_left : (x : A) (xs ys : List A) → Among x xs → Among x (xs ++ ys)
  among_left x [] ys a = absurd a
  among_left x (z ∷ xs) ys (inl e) = inl e
  among_left x (z ∷ xs) ys (inr a) = inr (among_left x xs ys a)

  pub among_right : (x : A) (xs ys : List A) → Among x ys → Among x (xs ++ ys)
  among_right x [] ys a = a
  among_right x (z ∷ xs) ys a = inr (among_right x xs ys a)

  pub among_either : (x : A) (xs ys : List A) → Among x (xs ++ ys) → Among x xs ⊎ Among x ys
  among_either x [] ys a = inr a
  among_either x (z ∷ xs) ys (inl e) = inl (inl e)
  among_either x (z ∷ xs) ys (inr a) = ⊎_elim (λ b. inl (inr b)) (λ b. inr b) (among_either x xs ys a)

  pub prefix_same : (xs : List A) → IsPrefix xs xs
  prefix_same xs = ([], sym (append-nil xs))

  pub prefix_trans : (xs ys zs : List A) → IsPrefix xs ys → IsPrefix ys zs → IsPrefix xs zs
  prefix_trans xs ys zs p q = (p.0 ++ q.0, q.1 ∙ (ap (λ l. l ++ q.0) p.1 ∙ append_assoc xs p.0 q.0))

  pub prefix_more : (xs ys zs : List A) → IsPrefix xs ys → IsPrefix xs (ys ++ zs)
  prefix_more xs ys zs p = prefix_trans xs ys (ys ++ zs) p (zs, refl)

  pub prefix_length : (xs ys : List A) → IsPrefix xs ys → length xs ≤ length ys
  prefix_length xs ys p = let l : length ys ≡ length xs + length p.0 = ap length p.1 ∙ length-append xs p.0 in omega arith

  pub numbered_more : (ticket : A → ℕ) (k : ℕ) (xs : List A) (e : A) → IsNumbered ticket k xs → ticket e ≡ k + length xs → IsNumbered ticket k (xs ++ e ∷ [])
  numbered_more ticket k [] e h is = (omega arith, tt)
  numbered_more ticket k (x ∷ xs) e h is = (h.0, numbered_more ticket (k + 1) xs e h.1 (omega arith))

  pub total_set : (f : A → ℕ) (l : List A) (i : ℕ) (v w : A) → get_elem? l i ≡ some v → total f (set l i w) + f v ≡ total f l + f w
  total_set f [] i v w e = absurd (some-ne-none v (sym e))
  total_set f (x ∷ xs) zero v w e = let is : f x ≡ f v = ap f (some-injective x v e) in omega arith
  total_set f (x ∷ xs) (suc i) v w e = let r = total_set f xs i v w e in omega arith

  pub total_same : (f : A → ℕ) (l : List A) (i : ℕ) (v w : A) → get_elem? l i ≡ some v → f w ≡ f v → total f (set l i w) ≡ total f l
  total_same f l i v w e is = let t = total_set f l i v w e in omega arith

  pub total_append : (f : A → ℕ) (xs ys : List A) → total f (xs ++ ys) ≡ total f xs + total f ys
  total_append f [] ys = omega arith
  total_append f (x ∷ xs) ys = let r = total_append f xs ys in omega arith

  pub prefix_none : (xs : List A) → IsPrefix [] xs
  prefix_none xs = (xs, refl)

  rest_none : (rest : List A) → length rest ≡ 0 → rest ≡ []
  rest_none [] e = refl
  rest_none (x ∷ xs) e = absurd (omega arith)

  -- a beginning that is as long is the whole
  pub prefix_whole : (xs ys : List A) → IsPrefix xs ys → length ys ≤ length xs → ys ≡ xs
  prefix_whole xs ys p le = let l : length ys ≡ length xs + length p.0 = ap length p.1 ∙ length-append xs p.0 in
      p.1 ∙ (ap (λ r. xs ++ r) (rest_none p.0 (omega arith)) ∙ append-nil xs)

  -- of two beginnings of one list the shorter begins the longer
  pub prefix_of_longer : (xs ys zs : List A) → IsPrefix xs zs → IsPrefix ys zs → length xs ≤ length ys → IsPrefix xs ys
  prefix_of_longer [] ys zs p q le = (ys, refl)
  prefix_of_longer (x ∷ xs) [] zs p q le = absurd (omega arith)
  prefix_of_longer (x ∷ xs) (y ∷ ys) [] p q le = absurd (nil≢cons (p.1))
  prefix_of_longer (x ∷ xs) (y ∷ ys) (z ∷ zs) p q le =
      let r = prefix_of_longer xs ys zs (p.0, tail-eq_of_cons-eq p.1) (q.0, tail-eq_of_cons-eq q.1) (omega arith) in
      (r.0, λ i. (sym (head-eq_of_cons-eq q.1) ∙ head-eq_of_cons-eq p.1) i ∷ r.1 i)

  longer_either : (P : List A → List A → Type 0) (xs ys : List A) (b : Bool) → (b ≡ true → P ys xs) → (b ≡ false → P xs ys)
      → P (if b then ys else xs) (if b then xs else ys)
  longer_either P xs ys true t f = t refl
  longer_either P xs ys false t f = f refl

  -- the two histories are the longer and the shorter
  pub longer_shorter : (P : List A → List A → Type 0) (xs ys : List A) → (length xs ≤ length ys → P ys xs) → (length ys ≤ length xs → P xs ys) → P (longer xs ys) (shorter xs ys)
  longer_shorter P xs ys t f = longer_either P xs ys (leb (length xs) (length ys)) (λ e. t (leb-true (length xs) (length ys) e)) (λ e. let l : length ys < length xs = leb-false (length xs) (length ys) e in f (omega arith))

  pub total_at : (f : A → ℕ) (l : List A) (i : ℕ) (x : A) → get_elem? l i ≡ some x → f x ≤ total f l
  total_at f [] i x e = absurd (some-ne-none x (sym e))
  total_at f (y ∷ ys) zero x e = let is : f y ≡ f x = ap f (some-injective y x e) in omega arith
  total_at f (y ∷ ys) (suc i) x e = let r = total_at f ys i x e in omega arith

  -- where the sum is not 0, one of its parts is not
  pub total_some : (f : A → ℕ) (l : List A) → 0 < total f l → (i : ℕ) × (x : A) × (get_elem? l i ≡ some x) × (0 < f x)
  total_some f [] h = absurd (omega arith)
  total_some f (x ∷ xs) h = dite (ℕ_discrete (f x) 0) (λ none. let r = total_some f xs (omega arith) in (suc r.0, r.1, r.2, r.3)) (λ more. (0, x, refl, (omega arith)))

  pub among_at : (l : List A) (i : ℕ) (x : A) → get_elem? l i ≡ some x → Among x l
  among_at [] i x e = absurd (some-ne-none x (sym e))
  among_at (y ∷ ys) zero x e = inl (sym (some-injective y x e))
  among_at (y ∷ ys) (suc i) x e = inr (among_at ys i x e)

  pub numbered_among : (ticket : A → ℕ) (k : ℕ) (xs : List A) (e : A) → IsNumbered ticket k xs → Among e xs → ticket e < k + length xs
  numbered_among ticket k [] e h a = absurd a
  numbered_among ticket k (x ∷ xs) e h (inl is) = let t : ticket e ≡ k = ap ticket is ∙ h.0 in omega arith
  numbered_among ticket k (x ∷ xs) e h (inr a) = let r = numbered_among ticket (k + 1) xs e h.1 a in omega arith

  -- what is at an old place stays there
  pub at_old : (l : List A) (a x y : A) (i : ℕ) → get_elem? l i ≡ some x → get_elem? (l ++ a ∷ []) i ≡ some y → get_elem? l i ≡ some y
  at_old l a x y i old new = old ∙ (sym (at_longer l (a ∷ []) i x old) ∙ new)

pub same_itself : (n : List ℕ) → same_name n n ≡ true
same_itself [] = refl
same_itself (x ∷ xs) = ap (λ b. b && same_name xs xs) (eq-eqb x x refl) ∙ same_itself xs

both_true : (a b : Bool) → (a && b) ≡ true → (a ≡ true) × (b ≡ true)
both_true true b e = (refl, e)
both_true false b e = absurd (true≢false (sym e))

pub same_is : (n m : List ℕ) → same_name n m ≡ true → n ≡ m
same_is [] [] e = refl
same_is [] (y ∷ ys) e = absurd (true≢false (sym e))
same_is (x ∷ xs) [] e = absurd (true≢false (sym e))
same_is (x ∷ xs) (y ∷ ys) e = let b = both_true (eqb x y) (same_name xs ys) e in λ i. eqb-true x y b.0 i ∷ same_is xs ys b.1 i

pub hits_is : (n m : List ℕ) → 0 < hits n m → n ≡ m
hits_is n [] h = absurd (omega arith)
hits_is n (k ∷ ks) h = same_is n (k ∷ ks) (one_is (same_name n (k ∷ ks)) h)
  where
    one_is : (b : Bool) → 0 < one_if b → b ≡ true
    one_is true l = refl
    one_is false l = absurd (omega arith)

pub hits_itself : (k : ℕ) (ks : List ℕ) → hits (k ∷ ks) (k ∷ ks) ≡ 1
hits_itself k ks = ap one_if (same_itself (k ∷ ks))

pub among_without : (n m : List ℕ) (ms : List (List ℕ)) → Among n (without m ms) → Among n ms
among_without n m [] a = a
among_without n m (x ∷ xs) a = by_test (λ h. among_without n m xs h) (same_name m x) a
  where
    by_test : (Among n (without m xs) → Among n xs) → (b : Bool) → Among n (if b then xs else x ∷ without m xs) → Among n (x ∷ xs)
    by_test on true h = inr h
    by_test on false (inl e) = inl e
    by_test on false (inr h) = inr (on h)

pub without_hits : (n m : List ℕ) (ms : List (List ℕ)) → Among m ms → total (hits n) (without m ms) + hits n m ≡ total (hits n) ms
without_hits n m [] a = absurd a
without_hits n m (x ∷ xs) a = by_test (λ h. without_hits n m xs h) (same_name m x) refl a
  where
    by_test : (Among m xs → total (hits n) (without m xs) + hits n m ≡ total (hits n) xs) → (b : Bool) → same_name m x ≡ b → Among m (x ∷ xs) → total (hits n) (if b then xs else x ∷ without m xs) + hits n m ≡ total (hits n) (x ∷ xs)
    by_test on true e h = let is : hits n m ≡ hits n x = ap (hits n) (same_is m x e) in omega arith
    by_test on false e (inl is) = absurd (true≢false (sym (same_itself m) ∙ (ap (same_name m) is ∙ e)))
    by_test on false e (inr h) = let r = on h in omega arith
