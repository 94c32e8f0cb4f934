-- Lists of things with names.
use Rattle.std.specs.Prelude.{ℕ, List, [], ◌∷◌, if◌then◌else◌, Option, Some, None}
use Rattle.rk_model.specs.Spans.{same_bytes}

-- what has the name
abbrev pub named : {A : Type 0} → List ℕ → List (List ℕ × A) → Option A
named name [] = None
named name (i ∷ is) = if same_bytes i.0 name then Some i.1 else named name is

-- the same list with this under the name: in the place of what had the name, or at the end
abbrev pub with_named : {A : Type 0} → List ℕ → A → List (List ℕ × A) → List (List ℕ × A)
with_named name a [] = (name, a) ∷ []
with_named name a (i ∷ is) = if same_bytes i.0 name then (name, a) ∷ is else i ∷ with_named name a is
