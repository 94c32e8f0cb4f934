-- The last of a list.
use Rattle.std.proofs.Common.{◌≡◌, ℕ, suc, ◌+◌, ◌-◌, ◌<◌, ◌≤◌, ◌∙◌, sym, ap, arith, List, [], ◌∷◌, ◌++◌, length, get_or, take, Bool, true, cond, Some, refl}
use Rattle.std.specs.Prelude.{filter}
use Rattle.std.specs.List.{slice_get}
use Rattle.std.proofs.lemmas.List.{take_more}
use Rattle.rk_model.specs.Lists.{last_of}
use Rattle.rk_model.proofs.Positions.{filter-append}

pub last_of_is : {A : Type 0} (xs : List A) → slice_get xs (length xs - 1) ≡ last_of xs
last_of_is [] = refl
last_of_is (x ∷ []) = refl
last_of_is (x ∷ y ∷ ys) =
    let e : length (x ∷ y ∷ ys) - 1 ≡ suc (length (y ∷ ys) - 1) = omega arith in
    rw e (last_of_is (y ∷ ys))

last_of-push : {A : Type 0} (xs : List A) (y : A) → last_of (xs ++ y ∷ []) ≡ Some y
last_of-push [] y = refl
last_of-push (x ∷ []) y = refl
last_of-push (x ∷ z ∷ zs) y = last_of-push (z ∷ zs) y

-- the last of the first i elements, where it passes
pub last_passing : {A : Type 0} (p : A → Bool) (xs : List A) (i : ℕ) (x : A) →
    0 < i → i ≤ length xs → x ≡ get_or xs (i - 1) x → p x ≡ true
    → last_of (filter p (take i xs)) ≡ Some x
last_passing p xs i x some within here passes =
    let n : i ≡ (i - 1) + 1 = omega arith in
    ap (λ j. last_of (filter p (take j xs))) n
    ∙ ap (λ l. last_of (filter p l)) (take_more xs (i - 1) x (omega arith))
    ∙ ap (λ y. last_of (filter p (take (i - 1) xs ++ y ∷ []))) (sym here)
    ∙ ap last_of (filter-append p (take (i - 1) xs) (x ∷ []))
    ∙ ap (λ b. last_of (filter p (take (i - 1) xs) ++ cond b (x ∷ []) [])) passes
    ∙ last_of-push (filter p (take (i - 1) xs)) x
