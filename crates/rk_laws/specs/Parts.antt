-- A history up to one of its ends.
use Rattle.std.specs.Prelude.{◌≡◌, ℕ, ◌++◌}
use Rattle.rk_model.specs.Lists.{Among}
use Rattle.rk_model.specs.Operations.{History, entries, last}
use Rattle.rk_model.specs.Covers.{upto}
use Rattle.rk_model.specs.Histories.{AreCommits, ends, part_to}

-- the part up to an end is a first part, ends there, and has exactly the entries up to that number
pub record IsPartTo (n : ℕ) (h : History) : Type 0 where
  pub first : (rest : History) × (h ≡ part_to n h ++ rest)
  pub last : last (part_to n h) ≡ n
  pub entries : entries (part_to n h) ≡ upto n (entries h)

abbrev pub EachEndHasItsPart : Type 0
EachEndHasItsPart = (h : History) (n : ℕ) → AreCommits h → Among n (ends h) → IsPartTo n h
