-- Lemmas on filters and tests of lists.
use Rattle.std.proofs.Common.{◌≡◌, Bool, true, false, ◌||◌, cond, List, [], ◌∷◌, filter, Option, Some, None, refl, ap}
use Rattle.std.specs.List.{AllByRecursion, list_any, filter_map, cons_option}

-- a test that passes none of what a filter drops
pub any_filter : {X : Type 0} (p q : X → Bool) → ((x : X) → q x ≡ false → p x ≡ false) → (xs : List X) → list_any p (filter q xs) ≡ list_any p xs
any_filter p q h [] = refl
any_filter p q h (x ∷ xs) = go (q x) refl (any_filter p q h xs)
  where
    go : (b : Bool) → q x ≡ b → list_any p (filter q xs) ≡ list_any p xs → list_any p (cond b (x ∷ filter q xs) (filter q xs)) ≡ (p x || list_any p xs)
    go true e ih = ap (λ t. p x || t) ih
    go false e ih = rw (h x e) ih

pub filter_map_filter : {X Y : Type 0} (g : X → Option Y) (q : X → Bool) → ((x : X) → q x ≡ false → g x ≡ None) → (xs : List X) → filter_map g (filter q xs) ≡ filter_map g xs
filter_map_filter g q h [] = refl
filter_map_filter g q h (x ∷ xs) = go (q x) refl (filter_map_filter g q h xs)
  where
    go : (b : Bool) → q x ≡ b → filter_map g (filter q xs) ≡ filter_map g xs → filter_map g (cond b (x ∷ filter q xs) (filter q xs)) ≡ cons_option (g x) (filter_map g xs)
    go true e ih = ap (cons_option (g x)) ih
    go false e ih = rw (h x e) ih

pub filter_map_same : {X Y : Type 0} (g h : X → Option Y) → ((x : X) → g x ≡ h x) → (xs : List X) → filter_map g xs ≡ filter_map h xs
filter_map_same g h e [] = refl
filter_map_same g h e (x ∷ xs) = rw (e x, filter_map_same g h e xs) refl

pub filter_twice : {X : Type 0} (p : X → Bool) (xs : List X) → filter p (filter p xs) ≡ filter p xs
filter_twice p [] = refl
filter_twice p (x ∷ xs) = go (p x) refl (filter_twice p xs)
  where
    go : (b : Bool) → p x ≡ b → filter p (filter p xs) ≡ filter p xs → filter p (cond b (x ∷ filter p xs) (filter p xs)) ≡ cond b (x ∷ filter p xs) (filter p xs)
    go true e ih = rw e (ap (λ t. x ∷ t) ih)
    go false e ih = ih

pub filter_swap : {X : Type 0} (p q : X → Bool) (xs : List X) → filter p (filter q xs) ≡ filter q (filter p xs)
filter_swap p q [] = refl
filter_swap p q (x ∷ xs) = go (p x) (q x) refl refl (filter_swap p q xs)
  where
    go : (a b : Bool) → p x ≡ a → q x ≡ b → filter p (filter q xs) ≡ filter q (filter p xs) → filter p (cond b (x ∷ filter q xs) (filter q xs)) ≡ filter q (cond a (x ∷ filter p xs) (filter p xs))
    go true true e f ih = rw (e, f) (ap (λ t. x ∷ t) ih)
    go true false e f ih = rw f ih
    go false true e f ih = rw e ih
    go false false e f ih = ih

pub all_filter : {X : Type 0} (t : X → Bool) (P : X → Type 0) (xs : List X) → AllByRecursion P xs → AllByRecursion P (filter t xs)
all_filter t P [] h = tt
all_filter t P (x ∷ xs) h = go (t x) (all_filter t P xs h.1)
  where
    go : (a : Bool) → AllByRecursion P (filter t xs) → AllByRecursion P (cond a (x ∷ filter t xs) (filter t xs))
    go true ih = (h.0, ih)
    go false ih = ih

-- what passes a filter passes its test
pub all_pass : {X : Type 0} (t : X → Bool) (xs : List X) → AllByRecursion (λ x. t x ≡ true) (filter t xs)
all_pass t [] = tt
all_pass t (x ∷ xs) = go (t x) refl (all_pass t xs)
  where
    go : (a : Bool) → t x ≡ a → AllByRecursion (λ x. t x ≡ true) (filter t xs) → AllByRecursion (λ x. t x ≡ true) (cond a (x ∷ filter t xs) (filter t xs))
    go true e ih = (e, ih)
    go false e ih = ih

pub all_weaker : {X : Type 0} (P Q : X → Type 0) → ((x : X) → P x → Q x) → (xs : List X) → AllByRecursion P xs → AllByRecursion Q xs
all_weaker P Q w [] h = tt
all_weaker P Q w (x ∷ xs) h = (w x h.0, all_weaker P Q w xs h.1)

pub filter_none : {X : Type 0} (t : X → Bool) (xs : List X) → AllByRecursion (λ x. t x ≡ false) xs → filter t xs ≡ []
filter_none t [] h = refl
filter_none t (x ∷ xs) h = rw h.0 (filter_none t xs h.1)

pub filter_all : {X : Type 0} (t : X → Bool) (xs : List X) → AllByRecursion (λ x. t x ≡ true) xs → filter t xs ≡ xs
filter_all t [] h = refl
filter_all t (x ∷ xs) h = rw h.0 (ap (λ l. x ∷ l) (filter_all t xs h.1))

pub any_none : {X : Type 0} (t : X → Bool) (xs : List X) → AllByRecursion (λ x. t x ≡ false) xs → list_any t xs ≡ false
any_none t [] h = refl
any_none t (x ∷ xs) h = rw h.0 (any_none t xs h.1)

-- a value that passes the test
abbrev pub kept_if : {Y : Type 0} → (Y → Bool) → Option Y → Option Y
kept_if t None = None
kept_if t (Some y) = cond (t y) (Some y) None

pub filter_map_kept : {X Y : Type 0} (g h : X → Option Y) (t : Y → Bool) (Q : X → Type 0) → ((x : X) → Q x → g x ≡ kept_if t (h x)) → (xs : List X) → AllByRecursion Q xs → filter_map g xs ≡ filter t (filter_map h xs)
filter_map_kept g h t Q says [] k = refl
filter_map_kept {X} {Y} g h t Q says (x ∷ xs) k = rw (says x k.0) (go (h x) (filter_map_kept g h t Q says xs k.1))
  where
    at : (b : Bool) (y : Y) → t y ≡ b → filter_map g xs ≡ filter t (filter_map h xs) → cons_option (cond b (Some y) None) (filter_map g xs) ≡ cond b (y ∷ filter t (filter_map h xs)) (filter t (filter_map h xs))
    at true y e ih = ap (λ l. y ∷ l) ih
    at false y e ih = ih

    go : (o : Option Y) → filter_map g xs ≡ filter t (filter_map h xs) → cons_option (kept_if t o) (filter_map g xs) ≡ filter t (cons_option o (filter_map h xs))
    go None ih = ih
    go (Some y) ih = at (t y) y refl ih

pub or_true : (b : Bool) → (b || true) ≡ true
or_true true = refl
or_true false = refl
