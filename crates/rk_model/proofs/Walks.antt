-- A loop that walks a list from its end.
use Rattle.std.proofs.Common.{◌≡◌, ℕ, ◌+◌, ◌-◌, ◌<◌, ◌≤◌, ◌∙◌, sym, ap, arith, List, ◌∷◌, length, get_or, drop}
use Rattle.std.proofs.lemmas.List.{drop_more}

pub drop_before_at : {X : Type 0} (xs : List X) (i : ℕ) (d : X) → 0 < i → i ≤ length xs → drop (i - 1) xs ≡ get_or xs (i - 1) d ∷ drop i xs
drop_before_at xs i d some within =
    let last : (i - 1) + 1 ≡ i = omega arith in
    drop_more xs (i - 1) d (omega arith) ∙ ap (λ n. get_or xs (i - 1) d ∷ drop n xs) last

pub drop_before : {X : Type 0} (xs : List X) (i : ℕ) (e : X) → 0 < i → i ≤ length xs → e ≡ get_or xs (i - 1) e → drop (i - 1) xs ≡ e ∷ drop i xs
drop_before xs i e some within here = drop_before_at xs i e some within ∙ ap (λ x. x ∷ drop i xs) (sym here)
