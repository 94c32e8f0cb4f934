-- The first thing of a name in a list.
use Rattle.std.proofs.Common.{◌≡◌, ℕ, ◌<◌, Bool, true, false, List, [], ◌∷◌, ◌++◌, map, length, take, set, zero, suc, get_or, Some, None, arith, ap, refl, subst}
use Rattle.std.specs.Prelude.{◌||◌, if◌then◌else◌, Contains, IsSome}
use Rattle.std.specs.List.{remove}
use Rattle.rk_model.specs.Named.{named, with_named}
use Rattle.rk_model.specs.Spans.{same_bytes}
use Rattle.rk_script.proofs.Texts.{same_bytes-Decides}
use Rattle.rk_script.specs.Naming.{is_called}
use Rattle.rk_machine.specs.Snapshots.{TakesOne}
use Rattle.rk_machine.specs.Iterators.{without_named}

-- what is kept under the names of things, as a list of names and values
abbrev pub named_values : {T A : Type 0} → (T → List ℕ) → (T → A) → List T → List (List ℕ × A)
named_values called value xs = map (λ x. (called x, value x)) xs

pub or_false : (a b : Bool) → (a || b) ≡ false → (a ≡ false) × (b ≡ false)
or_false true b h = cc
or_false false b h = (refl, h)

pub same_bytes-refl : (xs ys : List ℕ) → xs ≡ ys → same_bytes xs ys ≡ true
same_bytes-refl xs ys = (same_bytes-Decides xs ys).1

pub same_bytes-equal : (xs ys : List ℕ) → same_bytes xs ys ≡ true → xs ≡ ys
same_bytes-equal xs ys = (same_bytes-Decides xs ys).0

pub named-there : {T A : Type 0} (called : T → List ℕ) (value : T → A) (name : List ℕ) (xs : List T)
    → is_called name (map called xs) ≡ true → IsSome (named name (named_values called value xs))
named-there called value name [] there = cc
named-there called value name (x ∷ xs) there = at (same_bytes (called x) name) there (named-there called value name xs) where
  at : (t : Bool) → (t || is_called name (map called xs)) ≡ true → (is_called name (map called xs) ≡ true → IsSome (named name (named_values called value xs)))
      → IsSome (if t then Some (value x) else named name (named_values called value xs))
  at true there later = refl
  at false there later = later there

pub named-absent : {T A : Type 0} (called : T → List ℕ) (value : T → A) (name : List ℕ) (xs : List T)
    → is_called name (map called xs) ≡ false → named name (named_values called value xs) ≡ None
named-absent called value name [] none = refl
named-absent called value name (x ∷ xs) none =
    let both = or_false (same_bytes (called x) name) (is_called name (map called xs)) none in
    rw both.0 (named-absent called value name xs both.1)

pub with_named-absent : {T A : Type 0} (called : T → List ℕ) (value : T → A) (name : List ℕ) (a : A) (xs : List T)
    → is_called name (map called xs) ≡ false → with_named name a (named_values called value xs) ≡ named_values called value xs ++ (name, a) ∷ []
with_named-absent called value name a [] none = refl
with_named-absent called value name a (x ∷ xs) none =
    let both = or_false (same_bytes (called x) name) (is_called name (map called xs)) none in
    rw both.0 (ap (λ ys. (called x, value x) ∷ ys) (with_named-absent called value name a xs both.1))

pub named-found : {T A : Type 0} (called : T → List ℕ) (value : T → A) (name : List ℕ) (xs : List T) (i : ℕ) (d : T)
    → i < length xs → is_called name (map called (take i xs)) ≡ false → called (get_or xs i d) ≡ name
    → named name (named_values called value xs) ≡ Some (value (get_or xs i d))
named-found called value name [] i d within none here = absurd (omega arith)
named-found called value name (x ∷ xs) zero d within none here = rw (same_bytes-refl (called x) name here) refl
named-found called value name (x ∷ xs) (suc i) d within none here =
    let both = or_false (same_bytes (called x) name) (is_called name (map called (take i xs))) none in
    rw both.0 (named-found called value name xs i d (omega arith) both.1 here)

-- another thing of the name in the place of the first
pub with_named-found : {T A : Type 0} (called : T → List ℕ) (value : T → A) (name : List ℕ) (xs : List T) (i : ℕ) (d y : T)
    → i < length xs → is_called name (map called (take i xs)) ≡ false → called (get_or xs i d) ≡ name → called y ≡ name
    → named_values called value (set xs i y) ≡ with_named name (value y) (named_values called value xs)
with_named-found called value name [] i d y within none here same = absurd (omega arith)
with_named-found called value name (x ∷ xs) zero d y within none here same =
    rw (same_bytes-refl (called x) name here) (ap (λ n. (n, value y) ∷ named_values called value xs) same)
with_named-found called value name (x ∷ xs) (suc i) d y within none here same =
    let both = or_false (same_bytes (called x) name) (is_called name (map called (take i xs))) none in
    rw both.0 (ap (λ ys. (called x, value x) ∷ ys) (with_named-found called value name xs i d y (omega arith) both.1 here same))

-- without the first thing of the name
pub without_named-found : {T A : Type 0} (called : T → List ℕ) (value : T → A) (name : List ℕ) (xs : List T) (i : ℕ) (d : T)
    → i < length xs → is_called name (map called (take i xs)) ≡ false → called (get_or xs i d) ≡ name
    → named_values called value (remove xs i) ≡ without_named name (named_values called value xs)
without_named-found called value name [] i d within none here = absurd (omega arith)
without_named-found called value name (x ∷ xs) zero d within none here = rw (same_bytes-refl (called x) name here) refl
without_named-found called value name (x ∷ xs) (suc i) d within none here =
    let both = or_false (same_bytes (called x) name) (is_called name (map called (take i xs))) none in
    rw both.0 (ap (λ ys. (called x, value x) ∷ ys) (without_named-found called value name xs i d (omega arith) both.1 here))

-- The place of the first thing of a name, as a search over a slice tells it.
pub record IsFirst {T : Type 0} (called : T → List ℕ) (xs : List T) (name : List ℕ) (i : ℕ) : Type 0 where
  pub within : i < length xs
  pub first : is_called name (map called (take i xs)) ≡ false
  pub here : (d : T) → called (get_or xs i d) ≡ name

pub IsFirst-of : {T : Type 0} (called : T → List ℕ) (xs slice : List T) (name bytes : List ℕ) (i : ℕ) → slice ≡ xs → bytes ≡ name
    → i < length slice → is_called bytes (map called (take i slice)) ≡ false → ((d : T) → called (get_or slice i d) ≡ bytes) → IsFirst called xs name i
IsFirst-of called xs slice name bytes i same_list same_name within first here =
    let Q : List ℕ → Type 0 = λ n. IsFirst called slice n i in
    let P : List _ → Type 0 = λ ys. IsFirst called ys name i in
    subst P same_list (subst Q same_name (record { within = within; first = first; here = here }))

pub absent_in : {T : Type 0} (called : T → List ℕ) (xs slice : List T) (name bytes : List ℕ) → slice ≡ xs → bytes ≡ name
    → is_called bytes (map called slice) ≡ false → is_called name (map called xs) ≡ false
absent_in called xs slice name bytes same_list same_name absent =
    let Q : List ℕ → Type 0 = λ n. is_called n (map called slice) ≡ false in
    let P : List _ → Type 0 = λ ys. is_called name (map called ys) ≡ false in
    subst P same_list (subst Q same_name absent)

pub IsFirst-named : {T A : Type 0} (called : T → List ℕ) (value : T → A) (xs : List T) (name : List ℕ) (i : ℕ) (d : T)
    → IsFirst called xs name i → named name (named_values called value xs) ≡ Some (value (get_or xs i d))
IsFirst-named called value xs name i d f = named-found called value name xs i d f.within f.first (f.here d)

pub IsFirst-set : {T A : Type 0} (called : T → List ℕ) (value : T → A) (xs : List T) (name : List ℕ) (i : ℕ) (y : T)
    → IsFirst called xs name i → called y ≡ name → named_values called value (set xs i y) ≡ with_named name (value y) (named_values called value xs)
IsFirst-set called value xs name i y f same = with_named-found called value name xs i y y f.within f.first (f.here y) same

pub IsFirst-remove : {T A : Type 0} (called : T → List ℕ) (value : T → A) (xs : List T) (name : List ℕ) (i : ℕ) (d : T)
    → IsFirst called xs name i → named_values called value (remove xs i) ≡ without_named name (named_values called value xs)
IsFirst-remove called value xs name i d f = without_named-found called value name xs i d f.within f.first (f.here d)

-- Numbers under names, as those of snapshots.

pub named-Contains : (name : List ℕ) (n : ℕ) (ps : List (List ℕ × ℕ)) → named name ps ≡ Some n → Contains (map (λ x. x.1) ps) n
named-Contains name n [] h = cc
named-Contains name n (p ∷ ps) h = at (same_bytes p.0 name) h (named-Contains name n ps) where
  at : (t : Bool) → (if t then Some p.1 else named name ps) ≡ Some n → (named name ps ≡ Some n → Contains (map (λ x. x.1) ps) n)
      → Contains (p.1 ∷ map (λ x. x.1) ps) n
  at true h later = (0, omega arith, cc)
  at false h later = let r = later h in (suc r.0, omega (arith, r.1), r.2)

pub named-TakesOne : (name : List ℕ) (n : ℕ) (ps : List (List ℕ × ℕ)) → named name ps ≡ Some n
    → TakesOne n (map (λ x. x.1) ps) (map (λ x. x.1) (without_named name ps))
named-TakesOne name n [] h = cc
named-TakesOne name n (p ∷ ps) h = at (same_bytes p.0 name) h (named-TakesOne name n ps) where
  at : (t : Bool) → (if t then Some p.1 else named name ps) ≡ Some n
      → (named name ps ≡ Some n → TakesOne n (map (λ x. x.1) ps) (map (λ x. x.1) (without_named name ps)))
      → TakesOne n (p.1 ∷ map (λ x. x.1) ps) (map (λ x. x.1) (if t then ps else p ∷ without_named name ps))
  at true h later = let same : p.1 ≡ n = cc in ([], map (λ x. x.1) ps, ap (λ m. m ∷ map (λ x. x.1) ps) same, refl)
  at false h later = let r = later h in (p.1 ∷ r.0, r.1, ap (λ l. p.1 ∷ l) r.2, ap (λ l. p.1 ∷ l) r.3)
