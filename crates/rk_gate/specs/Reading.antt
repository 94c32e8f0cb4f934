-- How the front of a journal's bytes is read, and what a write, a cut and a sync leave, which the contracts of private
-- functions cite.
use Rattle.std.specs.Prelude.{◌≡◌, ◌≢◌, ℕ, ◌+◌, ◌≤◌, true, false, List, [], ◌∷◌, ◌++◌, length, take, drop, Option, Some, None, Result, Ok, Err}
use Rattle.rk_outside.specs.Disks.{Disk, TellsFiles, TellsMoments, FileFacts, Synced, IsFileImage}
use Rattle.rk_gate.specs.declared.record.Record.{Record}
use Rattle.rk_gate.specs.declared.reading.Front.{Front}
use Rattle.rk_gate.specs.declared.reading.Front.TheVariants.{Open, Closed, Bad}
use Rattle.rk_gate.specs.Records.{is_whole, payload_of}

-- what stands at the front of bytes: an open record of a payload, a closed gate, or neither
abbrev pub IsFront : Front → List ℕ → Type 0
IsFront (Open payload) [] = ⊥
IsFront (Open payload) (gate ∷ bytes) = (gate ≡ 1) × (is_whole bytes ≡ true) × (payload.now ≡ payload_of bytes)
IsFront Closed [] = ⊥
IsFront Closed (gate ∷ bytes) = gate ≢ 1
IsFront Bad [] = Unit {0}
IsFront Bad (gate ∷ bytes) = (gate ≡ 1) × (is_whole bytes ≡ false)

-- these records, and then what is read behind them
abbrev pub with_records : List Record → Result (List Record) ℕ → Result (List Record) ℕ
with_records rs (Ok more) = Ok (rs ++ more)
with_records rs (Err at) = Err at

-- bytes with anything over so many of them from a place on, and maybe more behind their end
pub record IsOver (at n : ℕ) (old new : List ℕ) : Type 0 where
  pub rest : List ℕ
  pub before : take at new ≡ take at old
  pub after : drop (at + n) new ≡ drop (at + n) old ++ rest
  pub no_shorter : length old ≤ length new

-- the same of a file that is there or not
abbrev pub IsFileOver : ℕ → ℕ → Option (List ℕ) → Option (List ℕ) → Type 0
IsFileOver at n None None = Unit {0}
IsFileOver at n None (Some new) = ⊥
IsFileOver at n (Some old) None = ⊥
IsFileOver at n (Some old) (Some new) = IsOver at n old new

-- one of the images from before a write, by the crash facts then, with anything where it wrote
pub record IsImageOver (facts : FileFacts) (at n : ℕ) (image : Option (List ℕ)) : Type 0 where
  pub before : Option (List ℕ)
  pub is_image : IsFileImage facts before
  pub over : IsFileOver at n before image

-- two files that are there or not have the same first bytes
abbrev pub HasFrontOf : ℕ → Option (List ℕ) → Option (List ℕ) → Type 0
HasFrontOf len None None = Unit {0}
HasFrontOf len None (Some new) = ⊥
HasFrontOf len (Some old) None = ⊥
HasFrontOf len (Some old) (Some new) = take len new ≡ take len old

-- one of the images from before a cut, by the crash facts then, as far as the cut
pub record IsImageCut (facts : FileFacts) (len : ℕ) (image : Option (List ℕ)) : Type 0 where
  pub before : Option (List ℕ)
  pub is_image : IsFileImage facts before
  pub front : HasFrontOf len before image

-- where both are told, a crash now leaves of the file what a read gives
abbrev pub IsSynced : ℕ → Disk → Type 0
IsSynced file d = TellsFiles d → TellsMoments d → d.moments.now file ≡ Synced (d.files file)
