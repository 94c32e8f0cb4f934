-- The union of sorted lists.
use Rattle.std.specs.Prelude.{Bool, List, [], ◌∷◌, if◌then◌else◌, ◌⊎◌}
pub use Rattle.rk_model.specs.Lists.{Among}

-- the item behind all that stand before it
abbrev pub insert_by : {A : Type 0} → (A → A → Bool) → A → List A → List A
insert_by before x [] = x ∷ []
insert_by before x (y ∷ ys) = if before y x then y ∷ insert_by before x ys else x ∷ y ∷ ys

-- the items of both lists, in order
abbrev pub merge : {A : Type 0} → (A → A → Bool) → List A → List A → List A
merge before [] ys = ys
merge before (x ∷ xs) ys = insert_by before x (merge before xs ys)

-- the items of all lists, in order
abbrev pub union : {A : Type 0} → (A → A → Bool) → List (List A) → List A
union before [] = []
union before (xs ∷ xss) = merge before xs (union before xss)

-- an item is one of one of the lists
abbrev pub AmongAny : {A : Type 0} → A → List (List A) → Type 0
AmongAny a [] = ⊥
AmongAny a (xs ∷ xss) = Among a xs ⊎ AmongAny a xss
