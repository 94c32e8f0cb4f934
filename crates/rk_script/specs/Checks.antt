-- Checks in the order in which they are made, and what the first that fails says.
use Rattle.std.specs.Prelude.{Bool, List, [], ◌∷◌, if◌then◌else◌, Result, Ok, Err}
use Rattle.rk_script.specs.declared.line.Why.{Why}

-- whether it passes, and why a line is refused where it does not
abbrev pub Check : Type 0
Check = Bool × Why

-- the answer, where all checks pass, or what the first that fails says
abbrev pub checked : {A : Type 0} → List Check → A → Result A Why
checked [] a = Ok a
checked (check ∷ checks) a = if check.0 then checked checks a else Err check.1
