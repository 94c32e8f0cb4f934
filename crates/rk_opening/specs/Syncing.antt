-- What syncs do, which change no content.
use Rattle.std.specs.Prelude.{◌≡◌, ℕ, ◌<◌}
use Rattle.rk_outside.specs.Disks.{Disk, TellsFiles, TellsAlike, IsHonest, IsImageNow, EachImage, LeavesOnly}

-- what reads give stays, and each image of each moment since is one from before
pub record OnlySyncs (old new : Disk) : Type 0 where
  pub told : TellsAlike old new
  pub reads : TellsFiles old → (f : ℕ) → new.files f ≡ old.files f
  pub honest : IsHonest old → IsHonest new
  pub crash : IsHonest old → LeavesOnly old new (IsImageNow old)

-- a crash now leaves of the file what reads give
abbrev pub IsSettledAt : ℕ → Disk → Type 0
IsSettledAt file d = IsHonest d → EachImage d (λ image. image file ≡ d.files file)

-- the files below a number were synced
pub record SyncedUpTo (n : ℕ) (old new : Disk) : Type 0 where
  pub syncs : OnlySyncs old new
  pub settled : (f : ℕ) → f < n → IsSettledAt f new
