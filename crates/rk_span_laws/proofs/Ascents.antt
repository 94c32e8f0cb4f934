-- Lists that rise: by neighbours and by all, mapped, and what is found of each element.
use Rattle.std.proofs.Common.{◌≡◌, Bool, true, List, [], ◌∷◌, map, Option, Some, None, refl, ap, ◌∙◌, inl, inr}
use Rattle.std.specs.List.{filter_map, cons_option}
use Rattle.std.proofs.lemmas.Bool.{and_parts, and_from}
use Rattle.rk_model.specs.Lists.{Among}
use Rattle.rk_model.specs.Sources.{ascends}
use Rattle.rk_model.proofs.Members.{Ascending, among_all, all_among, filter_map_among, map_among}

pub ascends_of : {X : Type 0} (before : X → X → Bool) (xs : List X) → Ascending before xs → ascends before xs ≡ true
ascends_of before [] h = refl
ascends_of before (x ∷ []) h = refl
ascends_of before (x ∷ y ∷ ys) h = and_from (before x y) (ascends before (y ∷ ys)) h.0.0 (ascends_of before (y ∷ ys) h.1)

-- where each stands before its neighbour, and that goes on over each element with a property
pub ascending_from : {X : Type 0} (before : X → X → Bool) (Q : X → Type 0) → ((x y z : X) → Q y → before x y ≡ true → before y z ≡ true → before x z ≡ true) →
    (xs : List X) → ((x : X) → Among x xs → Q x) → ascends before xs ≡ true → Ascending before xs
ascending_from before Q goes_on [] q up = tt
ascending_from before Q goes_on (x ∷ []) q up = (tt, tt)
ascending_from {X} before Q goes_on (x ∷ y ∷ ys) q up = go (and_parts (before x y) (ascends before (y ∷ ys)) up) (ascending_from before Q goes_on (y ∷ ys) (λ z m. q z (inr m)))
  where
    later : before x y ≡ true → Ascending before (y ∷ ys) → (z : X) → Among z (y ∷ ys) → before x z ≡ true
    later first rest z (inl e) = ap (before x) e ∙ first
    later first rest z (inr m) = goes_on x y z (q y (inr (inl refl))) first (among_all (λ z. before y z ≡ true) ys z rest.0 m)

    go : (before x y ≡ true) × (ascends before (y ∷ ys) ≡ true) → (ascends before (y ∷ ys) ≡ true → Ascending before (y ∷ ys)) → Ascending before (x ∷ y ∷ ys)
    go parts ih = (all_among (λ z. before x z ≡ true) (y ∷ ys) (later parts.0 (ih parts.1)), ih parts.1)

pub ascending_map : {A B : Type 0} (before : B → B → Bool) (f : A → B) (xs : List A) → Ascending (λ a b. before (f a) (f b)) xs → Ascending before (map f xs)
ascending_map before f [] up = tt
ascending_map {A} {B} before f (x ∷ xs) up = (all_among (λ b. before (f x) b ≡ true) (map f xs) later, ascending_map before f xs up.1)
  where
    later : (b : B) → Among b (map f xs) → before (f x) b ≡ true
    later b m = let (a, i) = map_among f xs b m in ap (before (f x)) i.1 ∙ among_all (λ a. before (f x) (f a) ≡ true) xs a up.0 i.0

pub filter_map_ascends : {X Y : Type 0} (below : X → X → Bool) (before : Y → Y → Bool) (g : X → Option Y) (xs : List X) → Ascending below xs →
    ((a b : X) (v w : Y) → Among a xs → Among b xs → below a b ≡ true → g a ≡ Some v → g b ≡ Some w → before v w ≡ true) → Ascending before (filter_map g xs)
filter_map_ascends below before g [] up h = tt
filter_map_ascends {X} {Y} below before g (x ∷ xs) up h = go (g x) refl (filter_map_ascends below before g xs up.1 (λ a b v w m n. h a b v w (inr m) (inr n)))
  where
    go : (found : Option Y) → g x ≡ found → Ascending before (filter_map g xs) → Ascending before (cons_option found (filter_map g xs))
    go None e ih = ih
    go (Some v) e ih = (all_among (λ w. before v w ≡ true) (filter_map g xs) later, ih)
      where
        later : (w : Y) → Among w (filter_map g xs) → before v w ≡ true
        later w m = let (b, k) = filter_map_among g xs w m in h x b v w (inl refl) (inr k.0) (among_all (λ y. below x y ≡ true) xs b up.0 k.0) e k.1
