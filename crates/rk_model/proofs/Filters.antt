-- Searches of what a filter keeps.
use Rattle.std.proofs.Common.{◌≡◌, ◌∙◌, ap, Bool, true, false, cond, List, [], ◌∷◌, Some, refl}
use Rattle.std.specs.Prelude.{◌&&◌, ◌||◌, not, filter, map}
use Rattle.std.specs.List.{list_any, list_all, find}
use Rattle.std.specs.Option.{option_map}
use Rattle.rk_model.specs.Lists.{first_of}

pub and_swaps : (a b : Bool) → (a && b) ≡ (b && a)
and_swaps true true = refl
and_swaps true false = refl
and_swaps false true = refl
and_swaps false false = refl

pub list_any-filter : {A : Type 0} (q p : A → Bool) (xs : List A) → list_any q (filter p xs) ≡ list_any (λ x. p x && q x) xs
list_any-filter q p [] = refl
list_any-filter q p (x ∷ xs) =
    elim (p x) as (λ b. list_any q (cond b (x ∷ filter p xs) (filter p xs)) ≡ ((b && q x) || list_any (λ y. p y && q y) xs)) [
      | true ↦ ap (λ b. q x || b) (list_any-filter q p xs)
      | false ↦ list_any-filter q p xs
    ]

-- the same with the two tests the other way round
pub list_any-filter_last : {A : Type 0} (q p : A → Bool) (xs : List A) → list_any q (filter p xs) ≡ list_any (λ x. q x && p x) xs
list_any-filter_last q p xs = list_any-filter q p xs ∙ (λ i. list_any (λ x. and_swaps (p x) (q x) i) xs)

pub filter-filter : {A : Type 0} (q p : A → Bool) (xs : List A) → filter q (filter p xs) ≡ filter (λ x. p x && q x) xs
filter-filter q p [] = refl
filter-filter q p (x ∷ xs) =
    elim (p x) as (λ b. filter q (cond b (x ∷ filter p xs) (filter p xs)) ≡ cond (b && q x) (x ∷ filter (λ y. p y && q y) xs) (filter (λ y. p y && q y) xs)) [
      | true ↦ ap (λ l. cond (q x) (x ∷ l) l) (filter-filter q p xs)
      | false ↦ filter-filter q p xs
    ]

pub find-filter : {A : Type 0} (q p : A → Bool) (xs : List A) → find q (filter p xs) ≡ find (λ x. p x && q x) xs
find-filter q p [] = refl
find-filter q p (x ∷ xs) =
    elim (p x) as (λ b. find q (cond b (x ∷ filter p xs) (filter p xs)) ≡ cond (b && q x) (Some x) (find (λ y. p y && q y) xs)) [
      | true ↦ ap (λ l. cond (q x) (Some x) l) (find-filter q p xs)
      | false ↦ find-filter q p xs
    ]

pub first_of-filter : {A : Type 0} (p : A → Bool) (xs : List A) → first_of (filter p xs) ≡ find p xs
first_of-filter p [] = refl
first_of-filter p (x ∷ xs) =
    elim (p x) as (λ b. first_of (cond b (x ∷ filter p xs) (filter p xs)) ≡ cond b (Some x) (find p xs)) [
      | true ↦ refl
      | false ↦ first_of-filter p xs
    ]

pub list_all-filter : {A : Type 0} (r p : A → Bool) (xs : List A) → list_all r (filter p xs) ≡ list_all (λ x. not (p x) || r x) xs
list_all-filter r p [] = refl
list_all-filter r p (x ∷ xs) =
    elim (p x) as (λ b. list_all r (cond b (x ∷ filter p xs) (filter p xs)) ≡ ((not b || r x) && list_all (λ y. not (p y) || r y) xs)) [
      | true ↦ ap (λ b. r x && b) (list_all-filter r p xs)
      | false ↦ list_all-filter r p xs
    ]

pub find-map : {A B : Type 0} (f : A → B) (p : B → Bool) (xs : List A) → find p (map f xs) ≡ option_map f (find (λ x. p (f x)) xs)
find-map f p [] = refl
find-map f p (x ∷ xs) =
    elim (p (f x)) as (λ b. cond b (Some (f x)) (find p (map f xs)) ≡ option_map f (cond b (Some x) (find (λ y. p (f y)) xs))) [
      | true ↦ refl
      | false ↦ find-map f p xs
    ]

pub filter-map : {A B : Type 0} (f : A → B) (p : B → Bool) (xs : List A) → filter p (map f xs) ≡ map f (filter (λ x. p (f x)) xs)
filter-map f p [] = refl
filter-map f p (x ∷ xs) =
    elim (p (f x)) as (λ b. cond b (f x ∷ filter p (map f xs)) (filter p (map f xs)) ≡ map f (cond b (x ∷ filter (λ y. p (f y)) xs) (filter (λ y. p (f y)) xs))) [
      | true ↦ ap (λ l. f x ∷ l) (filter-map f p xs)
      | false ↦ filter-map f p xs
    ]
