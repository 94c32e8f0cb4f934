-- Lists of names.
use Rattle.std.specs.Prelude.{ℕ, Bool, List, [], ◌∷◌, ◌++◌, if◌then◌else◌}
use Rattle.std.specs.List.{list_any}
use Rattle.rk_model.specs.Spans.{same_bytes}

-- whether the name is among the names
abbrev pub is_called : List ℕ → List (List ℕ) → Bool
is_called name names = list_any (λ n. same_bytes n name) names

-- the names and this one, which is added at the end where it is not among them
abbrev pub with_name : List ℕ → List (List ℕ) → List (List ℕ)
with_name name names = if is_called name names then names else names ++ name ∷ []

-- the names without the first that is this one
abbrev pub without_name : List ℕ → List (List ℕ) → List (List ℕ)
without_name name [] = []
without_name name (n ∷ ns) = if same_bytes n name then ns else n ∷ without_name name ns
