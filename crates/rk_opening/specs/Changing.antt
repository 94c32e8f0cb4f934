-- Changes of some files alone.
use Rattle.std.specs.Prelude.{◌≡◌, ℕ, ◌<◌, ◌≤◌}
use Rattle.rk_outside.specs.Disks.{Files, Disk, TellsFiles, TellsAlike, IsHonest, IsImageNow, LeavesOnly}
use Rattle.rk_opening.specs.Stores.{first_table}

abbrev pub IsTable : ℕ → Type 0
IsTable file = first_table ≤ file

-- the file is a log's or the manifest's
abbrev pub IsJournal : ℕ → Type 0
IsJournal file = (1 ≤ file) × (file < 5)

-- all files but those that may change are as they were
abbrev pub OthersStay : (ℕ → Type 0) → Files → Files → Type 0
OthersStay May old new = (f : ℕ) → (May f → ⊥) → new f ≡ old f

-- but for such files an image of now
pub record IsImageBesides (May : ℕ → Type 0) (d : Disk) (image : Files) : Type 0 where
  pub before : Files
  pub is_image : IsImageNow d before
  pub others : OthersStay May before image

-- such files alone changed, as reads give them and in each image of each moment since
pub record ChangesOnly (May : ℕ → Type 0) (old new : Disk) : Type 0 where
  pub told : TellsAlike old new
  pub others : TellsFiles old → OthersStay May old.files new.files
  pub honest : IsHonest old → IsHonest new
  pub crash : IsHonest old → LeavesOnly old new (IsImageBesides May old)
