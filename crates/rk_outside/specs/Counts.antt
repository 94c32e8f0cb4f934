-- The two counts of a reader.
use Rattle.std.specs.Prelude.{ℕ}

-- how many reads failed, and how many there were
pub record Counts : Type 0 where
  pub faults : ℕ
  pub reads : ℕ
