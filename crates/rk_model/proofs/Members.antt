-- What is among the elements of a list, and lists that rise strictly.
use Rattle.std.proofs.Common.{◌≡◌, zero, suc, map, Contains, Bool, true, false, ◌&&◌, ◌||◌, cond, List, [], ◌∷◌, ◌++◌, filter, Option, Some, None, refl, ap, sym, ◌∙◌, ◌⊎◌, inl, inr, subst, arith}
use Rattle.std.specs.List.{AllByRecursion, list_any, list_all, flat_map, filter_map, cons_option}
use Rattle.rk_model.specs.Lists.{first_of, Among}

pub among_all : {X : Type 0} (P : X → Type 0) (xs : List X) (a : X) → AllByRecursion P xs → Among a xs → P a
among_all P [] a h m = absurd m
among_all P (x ∷ xs) a h (inl e) = subst P (sym e) h.0
among_all P (x ∷ xs) a h (inr m) = among_all P xs a h.1 m

pub all_among : {X : Type 0} (P : X → Type 0) (xs : List X) → ((a : X) → Among a xs → P a) → AllByRecursion P xs
all_among P [] h = tt
all_among P (x ∷ xs) h = (h x (inl refl), all_among P xs (λ a m. h a (inr m)))

pub among_filter : {X : Type 0} (t : X → Bool) (xs : List X) (a : X) → Among a xs → t a ≡ true → Among a (filter t xs)
among_filter t [] a m h = m
among_filter {X} t (x ∷ xs) a (inl e) h = go (t x) refl
  where
    go : (b : Bool) → t x ≡ b → Among a (cond b (x ∷ filter t xs) (filter t xs))
    go true k = inl e
    go false k = let f : t x ≡ true = ap t (sym e) ∙ h in cc
among_filter {X} t (x ∷ xs) a (inr m) h = go (t x) (among_filter t xs a m h)
  where
    go : (b : Bool) → Among a (filter t xs) → Among a (cond b (x ∷ filter t xs) (filter t xs))
    go true ih = inr ih
    go false ih = ih

pub filter_among : {X : Type 0} (t : X → Bool) (xs : List X) (a : X) → Among a (filter t xs) → Among a xs × (t a ≡ true)
filter_among t [] a m = absurd m
filter_among {X} t (x ∷ xs) a m = go (t x) refl m (filter_among t xs a)
  where
    go : (b : Bool) → t x ≡ b → Among a (cond b (x ∷ filter t xs) (filter t xs)) → (Among a (filter t xs) → Among a xs × (t a ≡ true)) → Among a (x ∷ xs) × (t a ≡ true)
    go true k (inl e) ih = (inl e, ap t e ∙ k)
    go true k (inr m) ih = (inr (ih m).0, (ih m).1)
    go false k m ih = (inr (ih m).0, (ih m).1)

pub among_left : {X : Type 0} (xs ys : List X) (a : X) → Among a xs → Among a (xs ++ ys)
among_left [] ys a m = absurd m
among_left (x ∷ xs) ys a (inl e) = inl e
among_left (x ∷ xs) ys a (inr m) = inr (among_left xs ys a m)

pub among_right : {X : Type 0} (xs ys : List X) (a : X) → Among a ys → Among a (xs ++ ys)
among_right [] ys a m = m
among_right (x ∷ xs) ys a m = inr (among_right xs ys a m)

pub among_append : {X : Type 0} (xs ys : List X) (a : X) → Among a (xs ++ ys) → Among a xs ⊎ Among a ys
among_append [] ys a m = inr m
among_append (x ∷ xs) ys a (inl e) = inl (inl e)
among_append (x ∷ xs) ys a (inr m) = elim (among_append xs ys a m) [ inl l ↦ inl (inr l) | inr r ↦ inr r ]

pub any_from : {X : Type 0} (t : X → Bool) (xs : List X) (a : X) → Among a xs → t a ≡ true → list_any t xs ≡ true
any_from t [] a m h = absurd m
any_from t (x ∷ xs) a (inl e) h = rw (ap t (sym e) ∙ h) refl
any_from t (x ∷ xs) a (inr m) h = go (t x) (any_from t xs a m h)
  where
    go : (b : Bool) → list_any t xs ≡ true → (b || list_any t xs) ≡ true
    go true ih = refl
    go false ih = ih

pub any_gives : {X : Type 0} (t : X → Bool) (xs : List X) → list_any t xs ≡ true → (a : X) × (Among a xs × (t a ≡ true))
any_gives t [] h = cc
any_gives {X} t (x ∷ xs) h = go (t x) refl h (any_gives t xs)
  where
    go : (b : Bool) → t x ≡ b → (b || list_any t xs) ≡ true → (list_any t xs ≡ true → (a : X) × (Among a xs × (t a ≡ true))) → (a : X) × (Among a (x ∷ xs) × (t a ≡ true))
    go true e h ih = (x, (inl refl, e))
    go false e h ih = let (a, m) = ih h in (a, (inr m.0, m.1))

pub any_false : {X : Type 0} (t : X → Bool) (xs : List X) (a : X) → list_any t xs ≡ false → Among a xs → t a ≡ false
any_false t xs a h m = go (t a) refl
  where
    go : (b : Bool) → t a ≡ b → b ≡ false
    go true e = let f = any_from t xs a m e in cc
    go false e = refl

pub none_any : {X : Type 0} (t : X → Bool) (xs : List X) → ((a : X) → Among a xs → t a ≡ false) → list_any t xs ≡ false
none_any t [] h = refl
none_any t (x ∷ xs) h = rw (h x (inl refl)) (none_any t xs (λ a m. h a (inr m)))

pub every_gives : {X : Type 0} (t : X → Bool) (xs : List X) (a : X) → list_all t xs ≡ true → Among a xs → t a ≡ true
every_gives t [] a h m = absurd m
every_gives {X} t (x ∷ xs) a h m = go (t x) refl h m (every_gives t xs a)
  where
    go : (b : Bool) → t x ≡ b → (b && list_all t xs) ≡ true → Among a (x ∷ xs) → (list_all t xs ≡ true → Among a xs → t a ≡ true) → t a ≡ true
    go true e h (inl f) ih = ap t f ∙ e
    go true e h (inr m) ih = ih h m
    go false e h m ih = cc

pub every_from : {X : Type 0} (t : X → Bool) (xs : List X) → ((a : X) → Among a xs → t a ≡ true) → list_all t xs ≡ true
every_from t [] h = refl
every_from t (x ∷ xs) h = rw (h x (inl refl)) (every_from t xs (λ a m. h a (inr m)))

pub among_flat_map : {X Y : Type 0} (f : X → List Y) (xs : List X) (x : X) (y : Y) → Among x xs → Among y (f x) → Among y (flat_map f xs)
among_flat_map f [] x y m k = absurd m
among_flat_map f (a ∷ xs) x y (inl e) k = among_left (f a) (flat_map f xs) y (subst (λ z. Among y (f z)) e k)
among_flat_map f (a ∷ xs) x y (inr m) k = among_right (f a) (flat_map f xs) y (among_flat_map f xs x y m k)

pub flat_map_among : {X Y : Type 0} (f : X → List Y) (xs : List X) (y : Y) → Among y (flat_map f xs) → (x : X) × (Among x xs × Among y (f x))
flat_map_among f [] y m = absurd m
flat_map_among {X} {Y} f (a ∷ xs) y m = go (among_append (f a) (flat_map f xs) y m) (flat_map_among f xs y)
  where
    go : Among y (f a) ⊎ Among y (flat_map f xs) → (Among y (flat_map f xs) → (x : X) × (Among x xs × Among y (f x))) → (x : X) × (Among x (a ∷ xs) × Among y (f x))
    go (inl k) ih = (a, (inl refl, k))
    go (inr k) ih = let (x, m) = ih k in (x, (inr m.0, m.1))

pub among_filter_map : {X Y : Type 0} (g : X → Option Y) (xs : List X) (x : X) (y : Y) → Among x xs → g x ≡ Some y → Among y (filter_map g xs)
among_filter_map g [] x y m h = absurd m
among_filter_map g (a ∷ xs) x y (inl e) h = rw (ap g (sym e) ∙ h) (inl refl)
among_filter_map {X} {Y} g (a ∷ xs) x y (inr m) h = go (g a) (among_filter_map g xs x y m h)
  where
    go : (o : Option Y) → Among y (filter_map g xs) → Among y (cons_option o (filter_map g xs))
    go None ih = ih
    go (Some z) ih = inr ih

pub filter_map_among : {X Y : Type 0} (g : X → Option Y) (xs : List X) (y : Y) → Among y (filter_map g xs) → (x : X) × (Among x xs × (g x ≡ Some y))
filter_map_among g [] y m = absurd m
filter_map_among {X} {Y} g (a ∷ xs) y m = go (g a) refl m (filter_map_among g xs y)
  where
    go : (o : Option Y) → g a ≡ o → Among y (cons_option o (filter_map g xs)) → (Among y (filter_map g xs) → (x : X) × (Among x xs × (g x ≡ Some y))) → (x : X) × (Among x (a ∷ xs) × (g x ≡ Some y))
    go None e m ih = let (x, k) = ih m in (x, (inr k.0, k.1))
    go (Some z) e (inl f) ih = (a, (inl refl, e ∙ ap Some (sym f)))
    go (Some z) e (inr m) ih = let (x, k) = ih m in (x, (inr k.0, k.1))

pub first_among : {X : Type 0} (xs : List X) (a : X) → first_of xs ≡ Some a → Among a xs
first_among [] a h = cc
first_among (x ∷ xs) a h = inl (cc)

pub first_is : {X : Type 0} (xs : List X) (a : X) → Among a xs → (b : X) × (first_of xs ≡ Some b)
first_is [] a m = absurd m
first_is (x ∷ xs) a m = (x, refl)

-- each element is below those after it
abbrev pub Ascending : {X : Type 0} → (X → X → Bool) → List X → Type 0
Ascending lt [] = Unit {0}
Ascending lt (x ∷ xs) = AllByRecursion (λ y. lt x y ≡ true) xs × Ascending lt xs

pub ascending_filter : {X : Type 0} (lt : X → X → Bool) (t : X → Bool) (xs : List X) → Ascending lt xs → Ascending lt (filter t xs)
ascending_filter lt t [] h = tt
ascending_filter {X} lt t (x ∷ xs) h = go (t x) (ascending_filter lt t xs h.1)
  where
    go : (b : Bool) → Ascending lt (filter t xs) → Ascending lt (cond b (x ∷ filter t xs) (filter t xs))
    go true ih = (all_among (λ y. lt x y ≡ true) (filter t xs) (λ a m. among_all (λ y. lt x y ≡ true) xs a h.0 (filter_among t xs a m).0), ih)
    go false ih = ih

-- of a list that ascends, none is below the first
pub first_least : {X : Type 0} (lt : X → X → Bool) → ((x y : X) → lt x y ≡ true → lt y x ≡ false) → ((x : X) → lt x x ≡ false) → (xs : List X) (a b : X) → Ascending lt xs → first_of xs ≡ Some a → Among b xs → lt b a ≡ false
first_least lt back self [] a b h f m = absurd m
first_least lt back self (x ∷ xs) a b h f (inl e) = let g : x ≡ a = cc in rw (e ∙ g) (self a)
first_least lt back self (x ∷ xs) a b h f (inr m) = let g : x ≡ a = cc in rw (← g) (back x b (among_all (λ y. lt x y ≡ true) xs b h.0 m))

module _ {X : Type 0} (lt : X → X → Bool) (back : (x y : X) → lt x y ≡ true → lt y x ≡ false) (self : (x : X) → lt x x ≡ false) where
  heads : (x y : X) (xs ys : List X) → Ascending lt (x ∷ xs) → Ascending lt (y ∷ ys) → Among x (y ∷ ys) → Among y (x ∷ xs) → x ≡ y
  heads x y xs ys h k (inl e) m = e
  heads x y xs ys h k (inr m) (inl e) = sym e
  heads x y xs ys h k (inr m) (inr n) =
      let p : lt y x ≡ true = among_all (λ z. lt y z ≡ true) ys x k.0 m in
      let q : lt x y ≡ true = among_all (λ z. lt x z ≡ true) xs y h.0 n in
      let r : lt y x ≡ false = back x y q in
      cc

  rest : (x y a : X) (xs ys : List X) → x ≡ y → Ascending lt (x ∷ xs) → Among a xs → Among a (y ∷ ys) → Among a ys
  rest x y a xs ys e h m (inr n) = n
  rest x y a xs ys e h m (inl f) =
      let p : lt x a ≡ true = among_all (λ z. lt x z ≡ true) xs a h.0 m in
      let q : lt x a ≡ false = rw (e ∙ sym f) (self a) in
      cc

  -- lists that ascend and have the same elements are one
  pub same_ascending : (xs ys : List X) → Ascending lt xs → Ascending lt ys → ((a : X) → Among a xs → Among a ys) → ((a : X) → Among a ys → Among a xs) → xs ≡ ys
  same_ascending [] [] h k p q = refl
  same_ascending [] (y ∷ ys) h k p q = absurd (q y (inl refl))
  same_ascending (x ∷ xs) [] h k p q = absurd (p x (inl refl))
  same_ascending (x ∷ xs) (y ∷ ys) h k p q =
      let e : x ≡ y = heads x y xs ys h k (p x (inl refl)) (q y (inl refl)) in
      let f : xs ≡ ys = same_ascending xs ys h.1 k.1 (λ a m. rest x y a xs ys e h m (p a (inr m))) (λ a m. rest y x a ys xs (sym e) k m (q a (inr m))) in
      rw (e, f) refl

pub among_map : {X Y : Type 0} (f : X → Y) (xs : List X) (x : X) → Among x xs → Among (f x) (map f xs)
among_map f [] x m = absurd m
among_map f (y ∷ ys) x (inl e) = inl (ap f e)
among_map f (y ∷ ys) x (inr m) = inr (among_map f ys x m)

pub map_among : {X Y : Type 0} (f : X → Y) (xs : List X) (y : Y) → Among y (map f xs) → (x : X) × (Among x xs × (y ≡ f x))
map_among f [] y m = absurd m
map_among f (x ∷ xs) y (inl e) = (x, (inl refl, e))
map_among f (x ∷ xs) y (inr m) = let (z, k) = map_among f xs y m in (z, (inr k.0, k.1))

pub among_contained : {X : Type 0} (xs : List X) (x : X) → Contains xs x → Among x xs
among_contained [] x (k, l, e) = absurd (omega arith)
among_contained (y ∷ ys) x (zero, l, e) = inl (sym e)
among_contained (y ∷ ys) x (suc k, l, e) = inr (among_contained ys x (k, omega arith, e))

pub contains_among : {X : Type 0} (xs : List X) (x : X) → Among x xs → Contains xs x
contains_among [] x m = absurd m
contains_among (y ∷ ys) x (inl e) = (zero, omega arith, sym e)
contains_among (y ∷ ys) x (inr m) = let (k, l, e) = contains_among ys x m in (suc k, omega arith, e)
