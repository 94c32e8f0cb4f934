-- What becomes of a log whose groups are all in tables, and of a store with such logs.
use Rattle.std.specs.Prelude.{◌≡◌, ℕ, ◌<◌, ◌⊎◌, Option, Ok, List, []}
use Rattle.rk_outside.specs.Disks.{Files, Disk, TellsFiles, TellsAlike, IsHonest, LeavesOnly}
use Rattle.rk_gate.specs.Changes.{HasRecordsOf}
use Rattle.rk_gate.specs.Records.{recovered_file}
use Rattle.rk_log.specs.Logs.{LogsSeen, later}
use Rattle.rk_log.specs.declared.group.Logged.{Logged}

-- a log's file has the records that it had, or none where its groups are all in tables
abbrev pub MayBeSettled : ℕ → List Logged → Option (List ℕ) → Option (List ℕ) → Type 0
MayBeSettled flushed groups old file = HasRecordsOf old file ⊎ ((later flushed groups ≡ []) × (recovered_file file ≡ Ok []))

-- the head, the logs and the manifest are as they were
abbrev pub FrontStays : Files → Files → Type 0
FrontStays old files = (f : ℕ) → f < 5 → files f ≡ old f

-- the same, but that logs may be emptied whose groups are all in tables
pub record IsSettledCopy (flushed : ℕ) (logs : LogsSeen) (old files : Files) : Type 0 where
  pub head : files 0 ≡ old 0
  pub first : MayBeSettled flushed logs.first (old 1) (files 1)
  pub second : MayBeSettled flushed logs.second (old 2) (files 2)
  pub third : files 3 ≡ old 3
  pub fourth : files 4 ≡ old 4

-- what reads give afterwards has P, and so has each image of each moment since
pub record Leaves (old new : Disk) (P : Files → Type 0) : Type 0 where
  pub told : TellsAlike old new
  pub reads : TellsFiles old → P new.files
  pub honest : IsHonest old → IsHonest new
  pub crash : IsHonest old → LeavesOnly old new P
