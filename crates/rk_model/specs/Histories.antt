-- The numbers at which commits end, and what of a history comes up to one of them.
use Rattle.std.specs.Prelude.{ℕ, ◌+◌, ◌-◌, ◌≤◌, nat_le, if◌then◌else◌, List, [], ◌∷◌, length}
use Rattle.std.specs.List.{AllByRecursion}
use Rattle.rk_model.specs.Operations.{History}

-- no commit is empty
abbrev pub AreCommits : History → Type 0
AreCommits h = AllByRecursion (λ commit. 1 ≤ length commit) h

-- the last number of each commit, behind a first number
abbrev pub ends_after : ℕ → History → List ℕ
ends_after n [] = n ∷ []
ends_after n (commit ∷ commits) = n ∷ ends_after (n + length commit) commits

-- where a history may end: before all commits, and behind each
abbrev pub ends : History → List ℕ
ends h = ends_after 0 h

-- the commits up to a number, whole ones alone
abbrev pub part_to : ℕ → History → History
part_to n [] = []
part_to n (commit ∷ commits) = if nat_le (length commit) n then commit ∷ part_to (n - length commit) commits else []
