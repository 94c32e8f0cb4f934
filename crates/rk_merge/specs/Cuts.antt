-- Sorted lists, cut where a test begins to fail. Seen forward from a cut is the item behind it, and seen backward the
-- one before it. What is said of both directions is said once, of the direction.
use Rattle.std.specs.Prelude.{Bool, not, List, [], ◌∷◌, if◌then◌else◌, Option, Some, None}
use Rattle.std.specs.Option.{option_or}

-- the first item that a test doesn't take, and the last of those before it
abbrev pub first_behind : {A : Type 0} → (A → Bool) → List A → Option A
first_behind takes [] = None
first_behind takes (x ∷ xs) = if takes x then first_behind takes xs else Some x

abbrev pub last_before : {A : Type 0} → (A → Bool) → List A → Option A
last_before takes [] = None
last_before takes (x ∷ xs) = if takes x then option_or (last_before takes xs) (Some x) else None

-- the item next to the cut, forward or backward
abbrev pub near_cut : {A : Type 0} → Bool → (A → Bool) → List A → Option A
near_cut forward takes xs = if forward then first_behind takes xs else last_before takes xs

-- an item that is reached from the cut
abbrev pub is_beyond : {A : Type 0} → Bool → (A → Bool) → A → Bool
is_beyond forward takes x = if forward then not (takes x) else takes x

-- the first item is reached before the second
abbrev pub is_nearer : {A : Type 0} → Bool → (A → A → Bool) → A → A → Bool
is_nearer forward before x y = if forward then before x y else before y x
