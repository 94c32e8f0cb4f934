-- Reading a source out, from a gap in a direction.
use Prim.Native.Nat.{zero, suc}
use Rattle.std.proofs.Common.{◌≡◌, ℕ, ◌-◌, ◌≤◌, Bool, true, false, List, [], ◌∷◌, ◌++◌, length, take, drop, reverse, Option, Some, None, IfSome, is_some, refl, sym, ap, ◌∙◌, arith, add-one}
use Rattle.std.specs.Prelude.{IsTrue}
use Rattle.std.specs.List.{slice_get}
use Rattle.std.specs.Option.{option_map, option_map_or}
use Rattle.std.proofs.lemmas.List.{reverse-append, drop_all}
use Rattle.std.proofs.lemmas.Option.{slice_get_within}
use Rattle.rk_model.specs.Cuts.{item_from, gap_on}
use Rattle.rk_model.specs.Reads.{read_from, end_gap, walk_at}
use Rattle.rk_model.specs.Standings.{Listing, WalksRise, walked}
use Rattle.rk_model.proofs.Gaps.{past_none}
use Rattle.rk_model.proofs.Passing.{Seen}

drop_from : {A : Type 0} (xs : List A) (i : ℕ) (x : A) → slice_get xs i ≡ Some x → drop i xs ≡ x ∷ drop (suc i) xs
drop_from [] i x e = cc
drop_from (y ∷ ys) zero x e = cc
drop_from (y ∷ ys) (suc i) x e = drop_from ys i x e

take_to : {A : Type 0} (xs : List A) (i : ℕ) (x : A) → slice_get xs i ≡ Some x → take (suc i) xs ≡ take i xs ++ x ∷ []
take_to [] i x e = cc
take_to (y ∷ ys) zero x e = cc
take_to (y ∷ ys) (suc i) x e = ap (λ zs. y ∷ zs) (take_to ys i x e)

-- the item that is seen, and what is left behind it
read_one : {A : Type 0} (d : Bool) (xs : List A) (g : ℕ) (x : A) → item_from d xs g ≡ Some x → read_from d g xs ≡ x ∷ read_from d (gap_on d g) xs
read_one true xs g x is = rw add-one (drop_from xs g x is)
read_one false xs zero x is = cc
read_one false xs (suc g) x is =
    let one : g ≡ suc g - 1 = omega arith in
    ap reverse (take_to xs g x is) ∙ reverse-append (take g xs) (x ∷ []) ∙ ap (λ k. x ∷ reverse (take k xs)) one

at_end : {A : Type 0} (d : Bool) (xs : List A) (g : ℕ) → g ≤ length xs → item_from d xs g ≡ None → g ≡ end_gap d xs
at_end true xs g within is = let a = past_none xs g is in omega arith
at_end false xs zero within is = refl
at_end false xs (suc g) within is = let a = past_none xs g is in absurd (omega arith)

read_end : {A : Type 0} (d : Bool) (xs : List A) → read_from d (end_gap d xs) xs ≡ []
read_end true xs = drop_all (length xs) xs (omega arith)
read_end false xs = refl

append_in : {A : Type 0} (xs ys : List A) (x : A) → (xs ++ x ∷ []) ++ ys ≡ xs ++ x ∷ ys
append_in [] ys x = refl
append_in (y ∷ xs) ys x = ap (λ zs. y ∷ zs) (append_in xs ys x)

append_none : {A : Type 0} (xs : List A) → xs ++ [] ≡ xs
append_none [] = refl
append_none (x ∷ xs) = ap (λ ys. x ∷ ys) (append_none xs)

-- what was read, and what is left to read, are all that was to be read
abbrev pub IsReading : {A : Type 0} → Bool → Option (List A) → Option ℕ → (List A → ℕ) → List A → Type 0
IsReading d held gap first read = IfSome held (λ xs. IfSome gap (λ g. read ++ read_from d g xs ≡ read_from d (first xs) xs))

pub one_more : {A : Type 0} (d : Bool) (h : Option (List A)) (p p' : Option ℕ) (first : List A → ℕ) (here : Option A) (x : A) (read read' : List A)
    → Seen d h p here → here ≡ Some x → read' ≡ read ++ x ∷ [] → IfSome h (λ xs. p' ≡ option_map (gap_on d) p) → IsReading d h p first read → IsReading d h p' first read'
one_more d None p p' first here x read read' shown is more there reading = tt
one_more d (Some xs) None p' first here x read read' shown is more there reading = rw there tt
one_more d (Some xs) (Some g) p' first here x read read' shown is more there reading =
    rw (there, more) (append_in read (read_from d (gap_on d g) xs) x ∙ ap (λ ys. read ++ ys) (sym (read_one d xs g x (sym shown.1 ∙ is))) ∙ reading)

pub all_read : {A : Type 0} (d : Bool) (h : Option (List A)) (p : Option ℕ) (first : List A → ℕ) (here : Option A) (read : List A)
    → Seen d h p here → here ≡ None → is_some p ≡ true → IsReading d h p first read → IfSome h (λ xs. read ≡ read_from d (first xs) xs)
all_read d None p first here read shown is known reading = tt
all_read d (Some xs) None first here read shown is known reading = cc
all_read d (Some xs) (Some g) first here read shown is known reading =
    let last = at_end d xs g shown.0 (sym shown.1 ∙ is) in
    sym (append_none read) ∙ ap (λ ys. read ++ ys) (sym (ap (λ k. read_from d k xs) last ∙ read_end d xs)) ∙ reading

-- no gap is dearer than the last one
to_end : {A : Type 0} (l : Listing A) (d : Bool) (xs : List A) (g : ℕ) → WalksRise l → IsTrue (is_some l.held) → g ≤ length xs → l.walk_price d g ≤ l.walk_price d (end_gap d xs)
to_end l true xs g rise told within = rise.forward told g (length xs) within
to_end l false xs g rise told within = rise.backward told 0 g (omega arith)

pub walk_within : {A : Type 0} (l : Listing A) (d : Bool) (p : Option ℕ) (here : Option A) → WalksRise l → Seen d l.held p here → IsTrue (is_some l.held) → walked l d p ≤ walk_at l d (end_gap d)
walk_within {A} l d p here rise shown told = go l.held p shown told
  where
    go : (h : Option (List A)) (p : Option ℕ) → Seen d h p here → IsTrue (is_some h) → walked l d p ≤ option_map_or (λ xs. l.walk_price d (end_gap d xs)) h 0
    go None p shown told' = cc
    go (Some xs) None shown told' = omega arith
    go (Some xs) (Some g) shown told' = to_end l d xs g rise told shown.0

-- nor is a step that has an item to pass
step_inside : {A : Type 0} (d : Bool) (xs : List A) (g : ℕ) (x : A) → g ≤ length xs → item_from d xs g ≡ Some x → gap_on d g ≤ length xs
step_inside true xs g x within is = let a = slice_get_within xs g x is in omega arith
step_inside false xs g x within is = omega arith

pub walk_beyond : {A : Type 0} (l : Listing A) (d : Bool) (p : Option ℕ) (here : Option A) (x : A) → WalksRise l → Seen d l.held p here → here ≡ Some x → IsTrue (is_some l.held) → option_map_or (λ g. l.walk_price d (gap_on d g)) p 0 ≤ walk_at l d (end_gap d)
walk_beyond {A} l d p here x rise shown is told = go l.held p shown told
  where
    go : (h : Option (List A)) (p : Option ℕ) → Seen d h p here → IsTrue (is_some h) → option_map_or (λ g. l.walk_price d (gap_on d g)) p 0 ≤ option_map_or (λ xs. l.walk_price d (end_gap d xs)) h 0
    go None p shown told' = cc
    go (Some xs) None shown told' = omega arith
    go (Some xs) (Some g) shown told' = to_end l d xs (gap_on d g) rise told (step_inside d xs g x shown.0 (sym shown.1 ∙ is))

pub first_within : {A : Type 0} (l : Listing A) (d : Bool) (first : List A → ℕ) → ((xs : List A) → first xs ≤ length xs) → WalksRise l → IsTrue (is_some l.held) → walk_at l d first ≤ walk_at l d (end_gap d)
first_within {A} l d first within rise told = go l.held told
  where
    go : (h : Option (List A)) → IsTrue (is_some h) → option_map_or (λ xs. l.walk_price d (first xs)) h 0 ≤ option_map_or (λ xs. l.walk_price d (end_gap d xs)) h 0
    go None told' = cc
    go (Some xs) told' = to_end l d xs (first xs) rise told (within xs)
