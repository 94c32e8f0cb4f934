-- What the calls of a manifest say of the vault that they change.
use Rattle.std.specs.Prelude.{◌≡◌, ◌≢◌, ◌≤◌, ℕ, Bool, IsTrue, if◌then◌else◌, Option, Result, Ok, IfErr, OnOk, List, [], ◌⊎◌}
use Rattle.rk_outside.specs.declared.error.StoreError.{StoreError}
use Rattle.rk_outside.specs.Disks.{Files, Disk, TellsFiles, TellsAlike, IsHonest, IsImageNow, LeavesOnly}
use Rattle.rk_gate.specs.declared.record.Record.{Record}
use Rattle.rk_gate.specs.Records.{recovered_file}
use Rattle.rk_gate.specs.Changes.{HasRecordsOf, after_append}
use Rattle.rk_gate.specs.Calls.{IsReadRefusal, IsWriteRefusal}
use Rattle.rk_manifest.specs.Manifests.{ManifestState}

-- all files but 3 and 4 are as they were
abbrev pub OthersStay : Files → Files → Type 0
OthersStay old new = (f : ℕ) → f ≢ 3 → f ≢ 4 → new f ≡ old f

-- but for the files 3 and 4 an image of now
pub record IsImageBesides (d : Disk) (image : Files) : Type 0 where
  pub before : Files
  pub is_image : IsImageNow d before
  pub others : OthersStay before image

-- A call changed the files 3 and 4 alone: the others read as before, and each image of each moment since its start is one
-- from before it but for these.
pub record ChangesManifest (old new : Disk) : Type 0 where
  pub told : TellsAlike old new
  pub others : TellsFiles old → OthersStay old.files new.files
  pub honest : IsHonest old → IsHonest new
  pub crash : IsHonest old → LeavesOnly old new (IsImageBesides old)

-- the files 3 and 4 have the records of others
pub record HasManifestOf (old files : Files) : Type 0 where
  pub third : HasRecordsOf (old 3) (files 3)
  pub fourth : HasRecordsOf (old 4) (files 4)

-- there is room for what the journals have made room for
pub record HasRoom (m : ManifestState) (room : ℕ → ℕ) : Type 0 where
  pub third : m.third.room ≤ room 3
  pub fourth : m.fourth.room ≤ room 4

-- the manifest is as it was, but for the memory that its journals have
pub record IsAsBefore (old new : ManifestState) : Type 0 where
  pub third : new.third.gate ≡ old.third.gate
  pub fourth : new.fourth.gate ≡ old.fourth.gate
  pub in_fourth : new.in_fourth ≡ old.in_fourth

-- A change before which a length is read: the count never falls, a refusal has its cause, and no fault is passed over. As no
-- record is refused then, it does not matter of which file it would be
pub record HasInstallCause {T : Type 0} (before now : ℕ) (result : Result T StoreError) : Type 0 where
  pub later : before ≤ now
  pub failed : IfErr result (λ e. IsWriteRefusal before now e ⊎ IsReadRefusal 3 (λ at. ⊥) before now e)
  pub kept : OnOk result (now ≡ before)

-- what an append begins with: no record where the file is emptied first, and else what it had
abbrev pub start_of : Bool → Result (List Record) ℕ → Result (List Record) ℕ
start_of emptied rs = if emptied then Ok [] else rs

-- the file has the records that it had, or none where it is emptied
abbrev pub MayStart : Bool → Option (List ℕ) → Option (List ℕ) → Type 0
MayStart emptied old file = HasRecordsOf old file ⊎ (IsTrue emptied × (recovered_file file ≡ Ok []))

-- or these and one more
abbrev pub MayHold : Bool → List ℕ → Option (List ℕ) → Option (List ℕ) → Type 0
MayHold emptied payload old file =
    MayStart emptied old file ⊎ (recovered_file file ≡ after_append payload (start_of emptied (recovered_file old)))
