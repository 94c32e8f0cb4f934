-- What an opening does.
use Rattle.std.specs.Prelude.{◌≡◌, ℕ, ◌<◌, ◌≤◌, true, false, ◌⊎◌, Option, Some, None, IsSome, Result, Ok, Err, OnOk, IfErr}
use Rattle.rk_outside.specs.declared.error.StoreError.{StoreError}
use Rattle.rk_outside.specs.declared.error.StoreError.TheVariants.{Memory, WriteFault, ReadFault, BadRecord, TooLong, BadTable, Halted, EmptyBatch, SequenceEnd, MemFull, NoSnap, TooManySnaps, NotAStore, FileEnd, TooManyTables, StrangeJob}
use Rattle.rk_outside.specs.Causes.{Rose}
use Rattle.rk_outside.specs.Disks.{Files, Disk, IsImageNow}
use Rattle.rk_opening.specs.Stores.{StoreSeen, store_of, has_magic, first_table, IsUnmade, new_store, settled, AreAlike}

-- the files are a store's that holds this, or none was made and it holds nothing
abbrev pub HoldsStore : Files → StoreSeen → Type 0
HoldsStore files s = ((has_magic (files 0) ≡ true) × (store_of files ≡ Ok s)) ⊎ (IsUnmade files × (s ≡ new_store))

-- what was opened of these files: what they hold, but for groups that are in tables
pub record IsOpened (files : Files) (s : StoreSeen) : Type 0 where
  pub before : StoreSeen
  pub held : HoldsStore files before
  pub is_settled : s ≡ settled before

-- the files behind an opening: a store that holds this, and no table
pub record Holds (files : Files) (s : StoreSeen) : Type 0 where
  pub head : has_magic (files 0) ≡ true
  pub store : store_of files ≡ Ok s
  pub no_tables : (f : ℕ) → first_table ≤ f → files f ≡ None

-- the files between the manifest's and the tables' are as they were
abbrev pub UnusedStay : Files → Files → Type 0
UnusedStay old new = (f : ℕ) → 5 ≤ f → f < first_table → new f ≡ old f

-- the files above the head, the logs and the manifest are as they were
abbrev pub OthersStayAbove : Files → Files → Type 0
OthersStayAbove old new = (f : ℕ) → 5 ≤ f → new f ≡ old f

-- a store that holds the same as another, but for groups that are in tables
pub record IsAlike (old files : Files) : Type 0 where
  pub had_head : has_magic (old 0) ≡ true
  pub head : has_magic (files 0) ≡ true
  pub alike : AreAlike (store_of old) (store_of files)

-- a store that was just made: it holds nothing
pub record IsMade (files : Files) : Type 0 where
  pub head : has_magic (files 0) ≡ true
  pub store : AreAlike (Ok new_store) (store_of files)

-- No store is made yet: there is no head, as there was none in an image from before, which has the same files above the head,
-- the logs and the manifest.
pub record IsUnmadeYet (d : Disk) (image : Files) : Type 0 where
  pub head : has_magic (image 0) ≡ false
  pub before : Files
  pub is_image : IsImageNow d before
  pub had_no_head : has_magic (before 0) ≡ false
  pub others : OthersStayAbove before image

-- what a crash may leave while a store is made
abbrev pub MayBeMade : Disk → Files → Type 0
MayBeMade old image = IsUnmadeYet old image ⊎ IsMade image

-- what stood behind a head stays, or a store was made where there was none
abbrev pub StaysOrIsNew : Files → Files → Type 0
StaysOrIsNew old new =
    ((has_magic (old 0) ≡ true) × ((f : ℕ) → new f ≡ old f))
    ⊎ (IsUnmade old × (store_of new ≡ Ok new_store) × OthersStayAbove old new)

-- what a crash may leave where a store is made if there is none
abbrev pub MayBeNew : Disk → Files → Type 0
MayBeNew old image = IsImageNow old image ⊎ ((has_magic (old.files 0) ≡ false) × MayBeMade old image)

-- What a crash may leave of an opening: an image from before it, a store that holds the same as what reads gave then, and where
-- that was no store, none or a new one
abbrev pub MayBeLeft : Disk → Files → Type 0
MayBeLeft old image = IsImageNow old image ⊎ IsAlike old.files image ⊎ ((has_magic (old.files 0) ≡ false) × MayBeMade old image)

-- what reads give behind an opening, whatever it answered
abbrev pub Reads : Files → Files → Type 0
Reads old new = ((f : ℕ) → new f ≡ old f) ⊎ IsAlike old new ⊎ (IsUnmade old × (IsUnmade new ⊎ IsMade new))

-- the least number of a table's file
pub record IsLeastTable (files : Files) (file : ℕ) : Type 0 where
  pub is_table : first_table ≤ file
  pub there : IsSome (files file)
  pub least : (f : ℕ) → first_table ≤ f → f < file → files f ≡ None

-- that number, or none where no table is there
abbrev pub IsLeast : Files → Option ℕ → Type 0
IsLeast files None = (f : ℕ) → first_table ≤ f → files f ≡ None
IsLeast files (Some file) = IsLeastTable files file

-- An opening was refused: for want of memory, by a fault, which carries the count that rose, by the first bad record, or since
-- a table stands where no store was made. What depends on contents is said where a vault tells them.
abbrev pub IsOpenRefusal : (Type 0 → Type 0) → Files → (before now : ℕ) → StoreError → Type 0
IsOpenRefusal Told files before now Memory = now ≡ before
IsOpenRefusal Told files before now (WriteFault faults) = (faults ≡ now) × Rose before now
IsOpenRefusal Told files before now (ReadFault faults) = (faults ≡ now) × Rose before now
IsOpenRefusal Told files before now (BadRecord file at) =
    (now ≡ before) × Told ((has_magic (files 0) ≡ true) × (store_of files ≡ Err (BadRecord file at)))
IsOpenRefusal Told files before now (NotAStore file) = (now ≡ before) × Told ((has_magic (files 0) ≡ false) × IsLeastTable files file)
IsOpenRefusal Told files before now (TooLong what have limit) = ⊥
IsOpenRefusal Told files before now (BadTable file at) = ⊥
IsOpenRefusal Told files before now (Halted faults) = ⊥
IsOpenRefusal Told files before now EmptyBatch = ⊥
IsOpenRefusal Told files before now (SequenceEnd last ops) = ⊥
IsOpenRefusal Told files before now (MemFull active batch) = ⊥
IsOpenRefusal Told files before now (NoSnap number) = ⊥
IsOpenRefusal Told files before now (TooManySnaps live) = ⊥
IsOpenRefusal Told files before now (FileEnd next tables) = ⊥
IsOpenRefusal Told files before now (TooManyTables have more) = ⊥
IsOpenRefusal Told files before now (StrangeJob job out) = ⊥

-- the count never falls, a refusal has its cause, and no fault is passed over
pub record HasOpenCause {T : Type 0} (Told : Type 0 → Type 0) (files : Files) (before now : ℕ) (result : Result T StoreError) : Type 0 where
  pub later : before ≤ now
  pub failed : IfErr result (IsOpenRefusal Told files before now)
  pub kept : OnOk result (now ≡ before)
