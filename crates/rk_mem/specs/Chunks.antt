-- A chunk: the entries of some commits, its points in order and then its range entries.
use Rattle.std.specs.Prelude.{◌≡◌, ◌<◌, nat_lt, not, List, ◌++◌, filter, IsTrue}
use Rattle.std.specs.List.Sorted.{IsPermutation}
use Rattle.rk_model.specs.Lists.{Among}
use Rattle.rk_model.specs.Covers.{is_point}
use Rattle.rk_model.specs.Sources.{ascends, are_points}
use Rattle.rk_model.specs.declared.op.Entry.{Entry}

abbrev pub points_of : List Entry → List Entry
points_of es = filter (λ e. is_point e.op) es

abbrev pub ranges_of : List Entry → List Entry
ranges_of es = filter (λ e. not (is_point e.op)) es

-- each number is above the one before it
abbrev pub NumbersRise : List Entry → Type 0
NumbersRise es = IsTrue (ascends (λ e f. nat_lt e.seq f.seq) es)

-- each entry of the second list is newer than each of the first
abbrev pub AreNewer : List Entry → List Entry → Type 0
AreNewer old new = (e f : Entry) → Among e old → Among f new → e.seq < f.seq

-- points in order, and behind them range entries
pub record IsArranged (chunk : List Entry) : Type 0 where
  pub parts : chunk ≡ points_of chunk ++ ranges_of chunk
  pub in_order : IsTrue (are_points (points_of chunk))

-- The chunk has exactly the entries, and its range entries are as they came.
pub record IsChunkOf (entries chunk : List Entry) : Type 0 where
  pub same : IsPermutation entries chunk
  pub arranged : IsArranged chunk
  pub ranges : ranges_of chunk ≡ ranges_of entries
