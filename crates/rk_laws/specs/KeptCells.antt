-- Laws of the entries that a flush or a compaction keeps, among any other entries.
use Rattle.std.specs.Prelude.{◌≡◌, ℕ, ◌<◌, true, false, List, [], ◌++◌}
use Rattle.std.specs.List.{All, Contains}
use Rattle.std.specs.List.Sorted.{IsStrictlyIncreasing}
use Rattle.rk_model.specs.Operations.{NumbersDiffer}
use Rattle.rk_model.specs.Covers.{over}
use Rattle.rk_model.specs.Kept.{cells, kept}
use Rattle.rk_model.specs.declared.op.Entry.{Entry}

-- at the number of each stripe, the kept entries give what all of them give, whatever is before and after them
abbrev pub KeptGivesCells : Type 0
KeptGivesCells = (older es newer : List Entry) (stripes : List ℕ) (n : ℕ) (x : List ℕ) → IsStrictlyIncreasing stripes → Contains stripes n →
    cells (older ++ es ++ newer) n x ≡ cells (older ++ kept es stripes false x ++ newer) n x

-- the entries of the second list are all newer than those of the first
abbrev pub Newer : List Entry → List Entry → Type 0
Newer es fs = All (λ e. All (λ f. e.seq < f.seq) fs) es

-- the same at the bottom, where no other entry over the key is older
abbrev pub KeptAtBottomGivesCells : Type 0
KeptAtBottomGivesCells = (older es newer : List Entry) (stripes : List ℕ) (n : ℕ) (x : List ℕ) → IsStrictlyIncreasing stripes → Contains stripes n →
    over x older ≡ [] → NumbersDiffer (over x es) → Newer (over x es) (over x newer) →
    cells (older ++ es ++ newer) n x ≡ cells (older ++ kept es stripes true x ++ newer) n x
