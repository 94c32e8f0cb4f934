-- What the calls of a journal say of the vault that they change.
use Rattle.std.specs.Prelude.{◌≡◌, ◌≤◌, ◌⊎◌, ℕ, true, List, [], ◌∷◌, Option, Result, Ok, Err, OnOk, IfErr}
use Rattle.rk_outside.specs.declared.error.StoreError.{StoreError}
use Rattle.rk_outside.specs.declared.error.StoreError.TheVariants.{Memory, WriteFault, ReadFault, BadRecord, TooLong, BadTable, Halted, EmptyBatch, SequenceEnd, MemFull, NoSnap, TooManySnaps, NotAStore, FileEnd, TooManyTables, StrangeJob}
use Rattle.rk_outside.specs.Causes.{Rose}
use Rattle.rk_outside.specs.Disks.{Disk, Moments, Change, done, facts_after, with_file, then_now, TellsFiles, TellsMoments, TellsAlike, FilesStayBut, IsHonest, LeavesFileOnly}

-- A call changed one file alone: the others read as before, and each image of each moment since its start is one from
-- before it but for that file, of which it has P.
pub record ChangesFile (file : ℕ) (old new : Disk) (P : Option (List ℕ) → Type 0) : Type 0 where
  pub told : TellsAlike old new
  pub others : TellsFiles old → FilesStayBut file old.files new.files
  pub honest : IsHonest old → IsHonest new
  pub crash : IsHonest old → LeavesFileOnly file old new P

-- the moments after changes of one file, of these bytes, that were all done
abbrev pub moments_through : ℕ → List Change → Option (List ℕ) → Moments → Moments
moments_through file [] bytes ms = ms
moments_through file (change ∷ more) bytes ms =
    moments_through file more (done change bytes) (then_now (with_file file (facts_after true bytes change (ms.now file)) ms.now) ms)

-- these changes of one file were all done, and no other change of the vault
abbrev pub HasDone : ℕ → List Change → Disk → Disk → Type 0
HasDone file changes old new = TellsFiles old → TellsMoments old → new.moments ≡ moments_through file changes (old.files file) old.moments

-- a change was refused: for want of memory, or by a fault, which carries the count that rose
abbrev pub IsWriteRefusal : ℕ → ℕ → StoreError → Type 0
IsWriteRefusal before now Memory = now ≡ before
IsWriteRefusal before now (WriteFault faults) = (faults ≡ now) × Rose before now
IsWriteRefusal before now (ReadFault faults) = ⊥
IsWriteRefusal before now (BadRecord file at) = ⊥
IsWriteRefusal before now (TooLong what have limit) = ⊥
IsWriteRefusal before now (BadTable file at) = ⊥
IsWriteRefusal before now (Halted faults) = ⊥
IsWriteRefusal before now EmptyBatch = ⊥
IsWriteRefusal before now (SequenceEnd last ops) = ⊥
IsWriteRefusal before now (MemFull active batch) = ⊥
IsWriteRefusal before now (NoSnap number) = ⊥
IsWriteRefusal before now (TooManySnaps live) = ⊥
IsWriteRefusal before now (NotAStore file) = ⊥
IsWriteRefusal before now (FileEnd next tables) = ⊥
IsWriteRefusal before now (TooManyTables have more) = ⊥
IsWriteRefusal before now (StrangeJob job out) = ⊥

-- the count never falls, a refusal of a change has its cause, and no fault is passed over
pub record HasWriteCause {T : Type 0} (before now : ℕ) (result : Result T StoreError) : Type 0 where
  pub later : before ≤ now
  pub failed : IfErr result (IsWriteRefusal before now)
  pub kept : OnOk result (now ≡ before)

-- A reading was refused: for want of memory, by a fault, which carries the count that rose, or by a record of this file
-- whose place is bad
abbrev pub IsReadRefusal : ℕ → (ℕ → Type 0) → ℕ → ℕ → StoreError → Type 0
IsReadRefusal of_file IsBad before now Memory = now ≡ before
IsReadRefusal of_file IsBad before now (ReadFault faults) = (faults ≡ now) × Rose before now
IsReadRefusal of_file IsBad before now (BadRecord file at) = (file ≡ of_file) × IsBad at × (now ≡ before)
IsReadRefusal of_file IsBad before now (WriteFault faults) = ⊥
IsReadRefusal of_file IsBad before now (TooLong what have limit) = ⊥
IsReadRefusal of_file IsBad before now (BadTable file at) = ⊥
IsReadRefusal of_file IsBad before now (Halted faults) = ⊥
IsReadRefusal of_file IsBad before now EmptyBatch = ⊥
IsReadRefusal of_file IsBad before now (SequenceEnd last ops) = ⊥
IsReadRefusal of_file IsBad before now (MemFull active batch) = ⊥
IsReadRefusal of_file IsBad before now (NoSnap number) = ⊥
IsReadRefusal of_file IsBad before now (TooManySnaps live) = ⊥
IsReadRefusal of_file IsBad before now (NotAStore file) = ⊥
IsReadRefusal of_file IsBad before now (FileEnd next tables) = ⊥
IsReadRefusal of_file IsBad before now (TooManyTables have more) = ⊥
IsReadRefusal of_file IsBad before now (StrangeJob job out) = ⊥

-- the same of a reading
pub record HasReadCause {T : Type 0} (file : ℕ) (IsBad : ℕ → Type 0) (before now : ℕ) (result : Result T StoreError) : Type 0 where
  pub later : before ≤ now
  pub failed : IfErr result (IsReadRefusal file IsBad before now)
  pub kept : OnOk result (now ≡ before)

-- the same of a reading of two files, of which the record is one
pub record HasReadCauseOfTwo {T : Type 0} (first second : ℕ) (IsBad : ℕ → ℕ → Type 0) (before now : ℕ) (result : Result T StoreError) : Type 0 where
  pub later : before ≤ now
  pub failed : IfErr result (λ e. IsReadRefusal first (IsBad first) before now e ⊎ IsReadRefusal second (IsBad second) before now e)
  pub kept : OnOk result (now ≡ before)

-- a bad record of a file, where a place is refused
abbrev pub in_journal : {A : Type 0} → ℕ → Result A ℕ → Result A StoreError
in_journal file (Ok a) = Ok a
in_journal file (Err at) = Err (BadRecord file at)
