-- The records of a manifest's two files, the newest version that they describe, and what a new one makes of them.
use Rattle.std.specs.Prelude.{◌≡◌, ℕ, nat_lt, nat_le, Bool, true, false, IsTrue, not, if◌then◌else◌, Option, Some, None, unwrap_or, Result, Ok, Err, IsOkAnd, List, [], ◌∷◌, length, ◌⊎◌}
use Rattle.rk_outside.specs.declared.error.StoreError.{StoreError}
use Rattle.rk_outside.specs.Disks.{Files}
use Rattle.rk_pieces.specs.Pieces.{◌>>=◌, tested, then_do, or_refuse}
use Rattle.rk_gate.specs.declared.record.Record.{Record}
use Rattle.rk_gate.specs.Records.{recovered_file}
use Rattle.rk_gate.specs.Calls.{in_journal}
use Rattle.rk_gate.specs.Changes.{JournalState, IsJournalWithGate}
use Rattle.rk_manifest.specs.Versions.{Version, version_of, no_version, is_version}

-- the version of a payload, where its next file number is above a floor
abbrev pub version_above : ℕ → List ℕ → Option Version
version_above floor payload = version_of payload >>= tested (λ v. nat_lt floor v.next_file)

-- The versions of open records, of which each has a greater next file number than the one before; or the place of the
-- first that isn't so
abbrev pub versions_above : ℕ → List Record → Result (List Version) ℕ
versions_above floor [] = Ok []
versions_above floor (r ∷ rs) = then_do (or_refuse r.at (version_above floor r.payload))
    (λ v. then_do (versions_above v.next_file rs) (λ vs. Ok (v ∷ vs)))

-- the versions of a file of the manifest, or the place of the first bad record
abbrev pub versions_in : Option (List ℕ) → Result (List Version) ℕ
versions_in bytes = then_do (recovered_file bytes) (versions_above 0)

-- the second is there, and is newer than the first, if that is there
abbrev pub is_newer : Option Version → Option Version → Bool
is_newer old None = false
is_newer None (Some new) = true
is_newer (Some old) (Some new) = nat_lt old.next_file new.next_file

-- the newer of the two, and the first where neither is newer
abbrev pub newer_of : Option Version → Option Version → Option Version
newer_of first second = if is_newer first second then second else first

-- the version with the greatest next file number, the first of equal ones, and none where there is none
abbrev pub newest : List Version → Option Version
newest [] = None
newest (v ∷ vs) = newer_of (Some v) (newest vs)

-- The newest version that the manifest's files 3 and 4 have recorded, that of file 3 where both are equal, and none where
-- there is none; or the first bad record, those of file 3 before those of file 4
abbrev pub newest_recorded : Option (List ℕ) → Option (List ℕ) → Result (Option Version) StoreError
newest_recorded third fourth =
    then_do (in_journal 3 (versions_in third)) (λ vs. then_do (in_journal 4 (versions_in fourth)) (λ ws. Ok (newer_of (newest vs) (newest ws))))

-- the version that these files have, or the first bad record
abbrev pub manifest_of : Option (List ℕ) → Option (List ℕ) → Result Version StoreError
manifest_of third fourth = then_do (newest_recorded third fourth) (λ v. Ok (unwrap_or v no_version))

-- the same of a vault's files
abbrev pub manifest_in : Files → Result Version StoreError
manifest_in files = manifest_of (files 3) (files 4)

-- what contracts see of a manifest: its two journals, and whether the newest record stands in file 4
pub record ManifestState : Type 0 where
  pub third : JournalState
  pub fourth : JournalState
  pub in_fourth : Bool

-- the newest record stands in file 4
abbrev pub IsInFourth : Bool → Option (List ℕ) → Option (List ℕ) → Type 0
IsInFourth in_fourth third fourth =
    IsOkAnd (versions_in third) (λ vs. IsOkAnd (versions_in fourth) (λ ws. in_fourth ≡ is_newer (newest vs) (newest ws)))

-- the manifest stands for these files: it knows where their closed gates and their newest record are
pub record StandsFor (m : ManifestState) (files : Files) : Type 0 where
  pub third : IsJournalWithGate m.third.gate (files 3)
  pub fourth : IsJournalWithGate m.fourth.gate (files 4)
  pub in_fourth : IsInFourth m.in_fourth (files 3) (files 4)

-- a file of this length or more is left for the other one
abbrev pub is_full : Option (List ℕ) → Bool
is_full None = false
is_full (Some bytes) = nat_le 4194304 (length bytes)

abbrev pub file_of : Bool → ℕ
file_of in_fourth = if in_fourth then 4 else 3

-- whether the next record goes to file 4: where the newest one is, unless that file is full
abbrev pub goes_to_fourth : Bool → Files → Bool
goes_to_fourth in_fourth files = if is_full (files (file_of in_fourth)) then not in_fourth else in_fourth

-- a version may follow: it meets its rules, and is newer than the newest that these files have recorded
pub record MayFollow (files : Files) (v : Version) : Type 0 where
  pub is_version : IsTrue (is_version v)
  pub newer : IsOkAnd (newest_recorded (files 3) (files 4)) (λ old. IsTrue (is_newer old (Some v)))

-- these files have the old version or the new one
abbrev pub HasOldOrNew : Files → Version → Files → Type 0
HasOldOrNew old v files = (manifest_in files ≡ manifest_in old) ⊎ (manifest_in files ≡ Ok v)
