-- What the calls of a log writer make of a store's files.
use Rattle.std.specs.Prelude.{◌≡◌, ℕ, ◌≤◌, Bool, true, false, not, List}
use Rattle.rk_outside.specs.Disks.{Files}
use Rattle.rk_gate.specs.Changes.{JournalState, HasMemory, HasRecordsOf, IsJournalWithGate, after_append}
use Rattle.rk_gate.specs.Records.{recovered_file}
use Rattle.rk_manifest.specs.Calls.{HasManifestOf}
use Rattle.rk_opening.specs.Stores.{has_magic}

-- What contracts see of a writer: the journals of both logs, and which of them is written to
pub record WriterSeen : Type 0 where
  pub first : JournalState
  pub second : JournalState
  pub in_second : Bool

-- the file of a log, and its journal
abbrev pub file_of : Bool → ℕ
file_of true = 2
file_of false = 1

abbrev pub journal_of : Bool → WriterSeen → JournalState
journal_of true w = w.second
journal_of false w = w.first

-- the writer knows where the closed gates of both logs are
pub record WritesTo (w : WriterSeen) (files : Files) : Type 0 where
  pub first : IsJournalWithGate w.first.gate (files 1)
  pub second : IsJournalWithGate w.second.gate (files 2)

-- there is room for what the journals have made room for
pub record HasRoom (w : WriterSeen) (room : ℕ → ℕ) : Type 0 where
  pub first : w.first.room ≤ room 1
  pub second : w.second.room ≤ room 2

-- the writer is as it was, but for the memory that its journals have
pub record IsAsBefore (old new : WriterSeen) : Type 0 where
  pub first : new.first.gate ≡ old.first.gate
  pub second : new.second.gate ≡ old.second.gate
  pub in_second : new.in_second ≡ old.in_second

-- there is memory in a log for so many appends, each of a payload of at most that length
abbrev pub HasMemoryIn : Bool → WriterSeen → (count len : ℕ) → Type 0
HasMemoryIn in_second w count len = HasMemory (journal_of in_second w) count len

-- the head, and the records of the logs and of the manifest, are as they were
pub record HasStoreOf (old files : Files) : Type 0 where
  pub head : has_magic (files 0) ≡ has_magic (old 0)
  pub first : HasRecordsOf (old 1) (files 1)
  pub second : HasRecordsOf (old 2) (files 2)
  pub manifest : HasManifestOf old files

-- the same, but that one log has a record more
pub record HasMore (in_second : Bool) (payload : List ℕ) (old files : Files) : Type 0 where
  pub head : has_magic (files 0) ≡ has_magic (old 0)
  pub this : recovered_file (files (file_of in_second)) ≡ after_append payload (recovered_file (old (file_of in_second)))
  pub other : HasRecordsOf (old (file_of (not in_second))) (files (file_of (not in_second)))
  pub manifest : HasManifestOf old files
