-- Lists of numbers with as many copies of each number are one list in two orders.
use Rattle.std.proofs.Common.{◌≡◌, ℕ, ◌+◌, ◌<◌, ◌≤◌, Bool, true, false, cond, eqb, List, [], ◌∷◌, ◌++◌, length, get_or, remove, IsPermutation, refl, ap, sym, subst, ◌∙◌, arith}
use Rattle.std.specs.List.{sum_by}
use Rattle.std.proofs.lemmas.Bool.{eqb-true}
use Rattle.rk_machine.specs.Snapshots.{TakesOne}
use Rattle.std.proofs.lemmas.Bool.Decides.{nat_tests}
use Rattle.std.proofs.lemmas.List.Sums.{sum_by-cons, sum_by-append}
use Rattle.std.proofs.lemmas.List.Sorted.{IsPermutation-refl, IsPermutation-sym, IsPermutation-trans, IsPermutation-cons, IsPermutation-middle, IsPermutation-remove, sum_by-IsPermutation}

abbrev one_if : ℕ → ℕ → ℕ
one_if n k = cond (eqb k n) 1 0

abbrev copies : ℕ → List ℕ → ℕ
copies n xs = sum_by (one_if n) xs

copies_split : (n x : ℕ) (xs before after : List ℕ) → xs ≡ before ++ x ∷ after → copies n xs ≡ one_if n x + copies n (before ++ after)
copies_split n x xs before after is = ap (copies n) is ∙ omega (arith, sum_by-append (one_if n) before (x ∷ after), sum_by-append (one_if n) before after, sum_by-cons (one_if n) x after)

itself : (x : ℕ) → one_if x x ≡ 1
itself x = grind (arith, nat_tests)

-- a number of which there is a copy splits the list
splits_at : (n : ℕ) (xs : List ℕ) → 1 ≤ copies n xs → (before : List ℕ) × (after : List ℕ) × (xs ≡ before ++ n ∷ after)
splits_at n [] some = absurd (omega (arith, some))
splits_at n (x ∷ xs) some = go (eqb x n) refl (splits_at n xs)
  where
    go : (b : Bool) → eqb x n ≡ b → (1 ≤ copies n xs → (before : List ℕ) × (after : List ℕ) × (xs ≡ before ++ n ∷ after)) → (before : List ℕ) × (after : List ℕ) × (x ∷ xs ≡ before ++ n ∷ after)
    go true is rest = ([], xs, ap (λ k. k ∷ xs) (eqb-true x n is))
    go false is rest =
        let none : one_if n x ≡ 0 = ap (λ b. cond b 1 0) is in
        let found = rest (omega (arith, some, none, sum_by-cons (one_if n) x xs)) in
        (x ∷ found.0, found.1, ap (λ l. x ∷ l) found.2)

same_copies : (xs ys : List ℕ) → ((n : ℕ) → copies n xs ≡ copies n ys) → IsPermutation xs ys
same_copies [] [] same = IsPermutation-refl []
same_copies [] (y ∷ ys) same = absurd (omega (arith, same y, itself y, sum_by-cons (one_if y) y ys))
same_copies (x ∷ xs) ys same =
    let some : 1 ≤ copies x ys = omega (arith, same x, itself x, sum_by-cons (one_if x) x xs) in
    let (before, after, is) = splits_at x ys some in
    let rest : IsPermutation xs (before ++ after) = same_copies xs (before ++ after) (λ n. omega (arith, same n, copies_split n x ys before after is, sum_by-cons (one_if n) x xs)) in
    IsPermutation-trans (x ∷ xs) (x ∷ (before ++ after)) ys (IsPermutation-cons x xs (before ++ after) rest)
    (subst (λ l. IsPermutation (x ∷ (before ++ after)) l) (sym is) (IsPermutation-sym (before ++ x ∷ after) (x ∷ (before ++ after)) (IsPermutation-middle before x after)))

-- a list that stays in another order, where one copy of a number is taken from both
pub record Left (xs ys : List ℕ) (i n : ℕ) : Type 0 where
  pub before : List ℕ
  pub after : List ℕ
  pub is : ys ≡ before ++ n ∷ after
  pub same : IsPermutation (remove xs i) (before ++ after)

pub taken : (xs ys : List ℕ) (i n : ℕ) → IsPermutation xs ys → i < length xs → n ≡ get_or xs i n → Left xs ys i n
taken xs ys i n same less at =
    let out : IsPermutation xs (n ∷ remove xs i) = IsPermutation-remove xs i n less at in
    let copies_out : (k : ℕ) → one_if k n + copies k (remove xs i) ≡ copies k xs = λ k. omega (arith, sum_by-IsPermutation (one_if k) xs (n ∷ remove xs i) out, sum_by-cons (one_if k) n (remove xs i)) in
    let some : 1 ≤ copies n ys = omega (arith, sum_by-IsPermutation (one_if n) xs ys same, copies_out n, itself n) in
    let (before, after, is) = splits_at n ys some in
    record {
      before = before;
      after = after;
      is = is;
      same = same_copies (remove xs i) (before ++ after) (λ k. omega (arith, copies_out k, sum_by-IsPermutation (one_if k) xs ys same, copies_split k n ys before after is));
    }

-- two lists in another order, from each of which one copy of a number is taken, are so again
pub still_same : (n : ℕ) (xs xs' ys ys' : List ℕ) → IsPermutation xs ys → TakesOne n xs xs' → TakesOne n ys ys' → IsPermutation xs' ys'
still_same n xs xs' ys ys' same (before, after, is, is') (before', after', is_too, is_too') = same_copies xs' ys' (λ k.
    let ours : copies k xs ≡ one_if k n + copies k xs' = subst (λ l. copies k xs ≡ one_if k n + copies k l) (sym is') (copies_split k n xs before after is) in
    let theirs : copies k ys ≡ one_if k n + copies k ys' = subst (λ l. copies k ys ≡ one_if k n + copies k l) (sym is_too') (copies_split k n ys before' after' is_too) in
    omega (arith, ours, theirs, sum_by-IsPermutation (one_if k) xs ys same))
