-- How a memtable piles up its chunks.
use Rattle.std.specs.Prelude.{◌*◌, ◌<◌, ◌≤◌, List, length}
use Rattle.std.specs.List.{AllByRecursion}
use Rattle.rk_model.specs.declared.op.Entry.{Entry}
use Rattle.rk_mem.specs.Chunks.{AreNewer, IsArranged}
use Rattle.rk_mem.specs.Memory.{EachTwo}

-- the second chunk may stand on the first: it is newer, and at most half as long
abbrev pub IsAbove : List Entry → List Entry → Type 0
IsAbove below above = AreNewer below above × (2 * length above ≤ length below)

-- entries in order, and one at least
abbrev pub IsFilled : List Entry → Type 0
IsFilled chunk = IsArranged chunk × (0 < length chunk)

-- chunks that stand one on the other
pub record IsTower (chunks : List (List Entry)) : Type 0 where
  pub filled : AllByRecursion IsFilled chunks
  pub above : EachTwo IsAbove chunks

-- a chunk that is newer than a tower
pub record IsNewest (chunks : List (List Entry)) (newest : List Entry) : Type 0 where
  pub filled : IsFilled newest
  pub newer : AllByRecursion (λ chunk. AreNewer chunk newest) chunks
