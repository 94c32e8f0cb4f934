-- What a vault in memory that keeps a record of its calls is: a replay of the record.
use Rattle.std.specs.Prelude.{◌≡◌, ℕ, ◌==◌, Bool, true, false, IsTrue, IsFalse, if◌then◌else◌, List, [], ◌∷◌, ◌++◌, Some, None, Result, Ok, Err, ◌⊎◌}
use Rattle.rk_outside.specs.declared.error.VaultError.{VaultError}
use Rattle.rk_outside.specs.declared.error.VaultError.TheVariants as vault_error
use Rattle.rk_outside.specs.Calls.{Calls, one_more, IsNextListed, after_call}
use Rattle.rk_outside.specs.Disks.{Files, Disk, Change, Write, Cut, Sync, Remove, done, with_file, moments_after, told, restarted}
use Rattle.rk_memvault.specs.declared.record.Edit.{Edit}
use Rattle.rk_memvault.specs.declared.record.Edit.TheVariants as edit
use Rattle.rk_memvault.specs.declared.record.Call.{Call}
use Rattle.rk_memvault.specs.declared.record.Call.TheVariants.{Numbers, MakeRoom, Length, Read, Edited, Open}
use Rattle.rk_memvault.specs.declared.record.Noted.{Noted}
use Rattle.rk_memvault.specs.Slots.{Held, files_in}

-- the change that an edit asks for
abbrev pub change_of : Edit → Change
change_of (edit.Write at bytes) = Write at bytes
change_of (edit.Cut len) = Cut len
change_of edit.Sync = Sync
change_of edit.Remove = Remove

-- what reads give after a change that was done, or that failed: then nothing was done
abbrev pub files_after : Bool → ℕ → Change → Files → Files
files_after true file change files = with_file file (done change (files file)) files
files_after false file change files = files

-- the disk after one call more, which was done or failed
abbrev pub disk_after : Call → Bool → Disk → Disk
disk_after (Edited file e) ok d = told (files_after ok file (change_of e) d.files) (moments_after file (change_of e) ok d.files d.moments)
disk_after Numbers ok d = d
disk_after (MakeRoom file upto) ok d = d
disk_after (Length file) ok d = d
disk_after (Read file at len) ok d = d
disk_after (Open file) ok d = d

-- the disk after these calls, the oldest first
abbrev pub replayed : List Noted → Disk → Disk
replayed [] d = d
replayed (n ∷ ns) d = replayed ns (disk_after n.call n.ok d)

-- A record: the calls that could be noted, the oldest first; which calls fail, and how many were made and failed; and how
-- many could not be noted
pub record Kept : Type 0 where
  pub entries : List Noted
  pub calls : Calls
  pub starved : ℕ

abbrev pub noted : Call → Bool → Noted
noted call ok = record { call = call; ok = ok }

-- after a call that was noted
abbrev pub after_noted : Call → Bool → Kept → Kept
after_noted call true kept = record { entries = kept.entries ++ noted call true ∷ []; calls = after_call false kept.calls; starved = kept.starved }
after_noted call false kept = record { entries = kept.entries ++ noted call false ∷ []; calls = after_call true kept.calls; starved = kept.starved }

-- after a call that could not be noted
abbrev pub after_starved : Kept → Kept
after_starved kept = record { entries = kept.entries; calls = after_call true kept.calls; starved = one_more kept.starved }

-- A call fails exactly where it is listed or could not be noted. It is counted, and so is its fault; only a call that
-- could not be noted raises the count of those.
pub record IsCounted (failed : Bool) (old new : Kept) : Type 0 where
  pub calls : new.calls ≡ after_call failed old.calls
  pub listed : IsNextListed old.calls → IsTrue failed
  pub cause : IsTrue failed → (IsNextListed old.calls × (new.starved ≡ old.starved)) ⊎ (new.starved ≡ one_more old.starved)
  pub fed : IsFalse failed → new.starved ≡ old.starved

-- the answer is `Failed`
abbrev pub is_failed : {T : Type 0} → Result T VaultError → Bool
is_failed (Ok _) = false
is_failed (Err vault_error.Memory) = false
is_failed (Err vault_error.Failed) = true

-- files as numbers with their bytes
abbrev pub files_of : List (ℕ × List ℕ) → Files
files_of [] f = None
files_of (file ∷ files) f = if f == file.0 then Some file.1 else files_of files f

-- What contracts see of a vault in memory: its slots, the files that it began with, its record, and which reads of a reader
-- fail
pub record Memory : Type 0 where
  pub slots : List (ℕ × Held)
  pub origin : List (ℕ × List ℕ)
  pub kept : Kept
  pub fail_reads : List ℕ

-- its disk
abbrev pub disk_of : Memory → Disk
disk_of m = replayed m.kept.entries (restarted (files_of m.origin))

-- what it holds is what its record gives
abbrev pub IsTied : Memory → Type 0
IsTied m = (f : ℕ) → files_in m.slots f ≡ (disk_of m).files f

-- a call that changes nothing
abbrev pub ChangesNothing : Call → Type 0
ChangesNothing call = (ok : Bool) (d : Disk) → disk_after call ok d ≡ d
