-- The first thing of a name in a list.
use Rattle.std.proofs.Common.{◌≡◌, ℕ, ◌+◌, ◌<◌, Bool, true, false, List, [], ◌∷◌, ◌++◌, map, length, take, zero, suc, get_or, ap, sym, ◌∙◌, refl, arith, add-one, subst}
use Rattle.std.proofs.Math.Seq.{take-suc}
use Rattle.std.proofs.lemmas.List.{map-id}
use Rattle.std.specs.Prelude.{nat_eq, ◌||◌}
use Rattle.std.specs.Cmp.Lexicographic.{pointwise}
use Rattle.std.specs.List.{remove}
use Rattle.rk_model.specs.Spans.{same_bytes}
use Rattle.rk_script.proofs.Texts.{same_bytes_is, same_bytes-Decides}
use Rattle.rk_script.specs.Naming.{is_called, without_name}

is_called-one_more : {T : Type 0} (called : T → List ℕ) (name : List ℕ) (xs : List T) (x : T)
    → is_called name (map called xs) ≡ false → same_bytes (called x) name ≡ false → is_called name (map called (xs ++ x ∷ [])) ≡ false
is_called-one_more called name [] x none other = rw other refl
is_called-one_more called name (y ∷ ys) x none other = at (same_bytes (called y) name) none (is_called-one_more called name ys x) where
  at : (t : Bool) → (t || is_called name (map called ys)) ≡ false
      → (is_called name (map called ys) ≡ false → same_bytes (called x) name ≡ false → is_called name (map called (ys ++ x ∷ [])) ≡ false)
      → (t || is_called name (map called (ys ++ x ∷ []))) ≡ false
  at true none later = none
  at false none later = later none other

pub past_another : {T : Type 0} (called : T → List ℕ) (name : List ℕ) (xs : List T) (i : ℕ) (x : T) → i < length xs → x ≡ get_or xs i x
    → is_called name (map called (take i xs)) ≡ false → pointwise nat_eq (called x) name ≡ false → is_called name (map called (take (i + 1) xs)) ≡ false
past_another called name xs i x within is none other =
    rw (add-one, take-suc xs i x within, ← is) (is_called-one_more called name (take i xs) x none (sym (same_bytes_is (called x) name) ∙ other))

pub or_false : (a b : Bool) → (a || b) ≡ false → (a ≡ false) × (b ≡ false)
or_false true b h = cc
or_false false b h = (refl, h)

pub without-absent : {T : Type 0} (called : T → List ℕ) (name : List ℕ) (xs : List T) → is_called name (map called xs) ≡ false → without_name name (map called xs) ≡ map called xs
without-absent called name [] none = refl
without-absent called name (x ∷ xs) none =
    let both = or_false (same_bytes (called x) name) (is_called name (map called xs)) none in
    rw both.0 (ap (λ ns. called x ∷ ns) (without-absent called name xs both.1))

pub without-found : {T : Type 0} (called : T → List ℕ) (name : List ℕ) (xs : List T) (i : ℕ) (d : T)
    → i < length xs → is_called name (map called (take i xs)) ≡ false → called (get_or xs i d) ≡ name → map called (remove xs i) ≡ without_name name (map called xs)
without-found called name [] i d within none here = absurd (omega arith)
without-found called name (x ∷ xs) zero d within none here = rw ((same_bytes-Decides (called x) name).1 here) refl
without-found called name (x ∷ xs) (suc i) d within none here =
    let both = or_false (same_bytes (called x) name) (is_called name (map called (take i xs))) none in
    rw both.0 (ap (λ ns. called x ∷ ns) (without-found called name xs i d (omega arith) both.1 here))

-- a list of names in which there is none to take out
pub name-absent : (name : List ℕ) (slice names : List (List ℕ)) → slice ≡ names → is_called name (map (λ n. n) slice) ≡ false → names ≡ without_name name names
name-absent name slice names same none =
    let P : List (List ℕ) → Type 0 = λ ns. ns ≡ without_name name ns in
    subst P same (sym (ap (without_name name) (sym (map-id slice)) ∙ without-absent (λ n. n) name slice none ∙ map-id slice))

-- a list of names without the first of this name
pub name-found : (name : List ℕ) (slice names after : List (List ℕ)) (i : ℕ) → slice ≡ names → i < length slice → is_called name (map (λ n. n) (take i slice)) ≡ false
    → ((d : List ℕ) → get_or slice i d ≡ name) → after ≡ remove names i → after ≡ without_name name names
name-found name slice names after i same within none here removed =
    let P : List (List ℕ) → Type 0 = λ ns. remove ns i ≡ without_name name ns in
    removed ∙ subst P same (sym (map-id (remove slice i)) ∙ without-found (λ n. n) name slice i [] within none (here []) ∙ ap (without_name name) (map-id slice))
