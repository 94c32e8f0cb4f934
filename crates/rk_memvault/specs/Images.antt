-- The crash images that a vault in memory gives of a moment.
use Rattle.std.specs.Prelude.{◌≡◌, ◌≢◌, ℕ, ◌<◌, ◌≤◌, Bool, true, false, not, if◌then◌else◌, List, [], ◌∷◌, length, take, replicate, slice_index, Option, Some, None, ◌⊎◌}
use Rattle.rk_memvault.specs.declared.free.Free.{Free}
use Rattle.rk_memvault.specs.declared.free.Free.TheVariants.{Kept, Lost, Filled}
use Rattle.std.specs.Ordering.{nat_cmp}
use Rattle.std.specs.Map.{lookup}
use Rattle.std.specs.BTreeMap.{is_at}
use Rattle.std.specs.List.{AllZip, AllByRecursion}
use Rattle.rk_memvault.specs.declared.record.Call.{Call}
use Rattle.rk_memvault.specs.declared.record.Call.TheVariants.{Numbers, MakeRoom, Length, Read, Edited, Open}
use Rattle.rk_memvault.specs.declared.record.Noted.{Noted}
use Rattle.rk_memvault.specs.Records.{Memory, replayed, files_of, disk_of}
use Rattle.rk_outside.specs.Disks.{Disk, restarted, moment, IsImageAt, FileFacts, Synced, Changed, Unsynced, IsLeft, is_written, Change, Write, Cut, Sync, Remove, overwritten}

-- What is kept of a file to make images of it: whether reads give it; whether it was made or removed since its last sync;
-- and its bytes where each place that a crash leaves free is as it was read last, is as if nothing had been written
-- since that sync, or is filled with one byte
pub record Trace : Type 0 where
  pub there : Bool
  pub loose : Bool
  pub kept : List ℕ
  pub lost : List ℕ
  pub filled : List ℕ

-- a file that was never there
abbrev pub no_trace : Trace
no_trace = record { there = false; loose = false; kept = []; lost = []; filled = [] }

-- a file that was there from the start
abbrev pub settled_trace : List ℕ → Trace
settled_trace bytes = record { there = true; loose = false; kept = bytes; lost = bytes; filled = bytes }

abbrev pub written_trace : ℕ → Bool → ℕ → List ℕ → Trace → Trace
written_trace fill ok at bytes t = record {
  there = true;
  loose = t.loose;
  kept = if ok then overwritten t.kept at bytes else t.kept;
  lost = t.lost;
  filled = overwritten t.filled at (replicate (length bytes) fill);
}

-- a write that failed and would have made the file leaves it away
abbrev pub made_trace : ℕ → Bool → ℕ → List ℕ → Trace
made_trace fill ok at bytes = record {
  there = ok;
  loose = true;
  kept = if ok then overwritten [] at bytes else [];
  lost = [];
  filled = overwritten [] at (replicate (length bytes) fill);
}

abbrev pub cut_trace : Bool → ℕ → Trace → Trace
cut_trace ok len t = record { there = true; loose = t.loose; kept = if ok then take len t.kept else t.kept; lost = take len t.lost; filled = take len t.filled }

abbrev pub removed_trace : Bool → Trace → Trace
removed_trace ok t = record { there = not ok; loose = true; kept = t.kept; lost = t.lost; filled = t.filled }

-- after a change of the file, by whether it was done
abbrev pub trace_after : ℕ → Change → Bool → Trace → Trace
trace_after fill (Write at bytes) ok t = if t.there then written_trace fill ok at bytes t else made_trace fill ok at bytes
trace_after fill (Cut len) ok t = if t.there then cut_trace ok len t else t
trace_after fill Sync ok t = if ok then (if t.there then settled_trace t.kept else no_trace) else t
trace_after fill Remove ok t = if t.there then removed_trace ok t else t

-- a place that a crash leaves free
abbrev pub IsFree : Unsynced → ℕ → Type 0
IsFree u i = (length u.front ≤ i) ⊎ (is_written u.writes i ≡ true)

-- a crash may leave these bytes, and each free place holds this byte
pub record IsFilled (fill : ℕ) (u : Unsynced) (bytes : List ℕ) : Type 0 where
  pub left : IsLeft u bytes
  pub free : (i : ℕ) → i < length bytes → IsFree u i → slice_index bytes i ≡ fill

-- what reads give of the file
abbrev pub seen : Trace → Option (List ℕ)
seen t = if t.there then Some t.kept else None

-- the trace of a file that has met this since its last sync
pub record IsTraceSince (fill : ℕ) (u : Unsynced) (t : Trace) : Type 0 where
  pub loose : t.loose ≡ u.loose
  pub kept : IsLeft u t.kept
  pub lost : t.lost ≡ u.front
  pub filled : IsFilled fill u t.filled

-- the trace of a file by its crash facts
abbrev pub IsTraceBy : ℕ → FileFacts → Trace → Type 0
IsTraceBy fill (Synced None) t = t ≡ no_trace
IsTraceBy fill (Synced (Some bytes)) t = t ≡ settled_trace bytes
IsTraceBy fill (Changed u) t = IsTraceSince fill u t × (t.there ≡ false → t.loose ≡ true)

pub record IsTraceOf (fill : ℕ) (file : Option (List ℕ)) (facts : FileFacts) (t : Trace) : Type 0 where
  pub read : file ≡ seen t
  pub met : IsTraceBy fill facts t

-- the traces of files by their numbers
abbrev pub trace_of : Option Trace → Trace
trace_of None = no_trace
trace_of (Some t) = t

abbrev pub trace_at : List (ℕ × Trace) → ℕ → Trace
trace_at traces f = trace_of (lookup (is_at (nat_cmp f)) traces)

-- a change of one file, seen by the traces
pub record TracesChange (fill file : ℕ) (change : Change) (ok : Bool) (old new : List (ℕ × Trace)) : Type 0 where
  pub this : trace_at new file ≡ trace_after fill change ok (trace_at old file)
  pub others : (f : ℕ) → f ≢ file → trace_at new f ≡ trace_at old f

-- the traces of the files of a disk as it is now
abbrev pub AreTracesOf : ℕ → Disk → List (ℕ × Trace) → Type 0
AreTracesOf fill d traces = (f : ℕ) → IsTraceOf fill (d.files f) (d.moments.now f) (trace_at traces f)

-- An image: what the places that a crash leaves free hold, and whether each file that was made or removed since its
-- last sync is there
abbrev pub bytes_by : Free → Trace → List ℕ
bytes_by Kept t = t.kept
bytes_by Lost t = t.lost
bytes_by Filled t = t.filled

abbrev pub image_by : Free → Bool → Trace → Option (List ℕ)
image_by free there t = if t.loose then (if there then Some (bytes_by free t) else None) else (if t.there then Some (bytes_by free t) else None)

-- the trace of a file that was there from the start, or was not
abbrev pub start_trace : Option (List ℕ) → Trace
start_trace None = no_trace
start_trace (Some bytes) = settled_trace bytes

abbrev pub put_file : Option (List ℕ) → ℕ → List (ℕ × List ℕ) → List (ℕ × List ℕ)
put_file None f files = files
put_file (Some bytes) f files = (f, bytes) ∷ files

-- the files of an image
abbrev pub image_files : Free → Bool → List (ℕ × Trace) → List (ℕ × List ℕ)
image_files free there [] = []
image_files free there (e ∷ es) = put_file (image_by free there e.1) e.0 (image_files free there es)

abbrev pub is_change : Call → Bool
is_change (Edited file e) = true
is_change Numbers = false
is_change (MakeRoom file upto) = false
is_change (Length file) = false
is_change (Read file at len) = false
is_change (Open file) = false

-- the disk that began with these files, after so many of these calls
abbrev pub disk_upto : ℕ → List (ℕ × List ℕ) → List Noted → Disk
disk_upto k origin entries = replayed (take k entries) (restarted (files_of origin))

-- the traces of the files at a moment, and none where there is no such moment
abbrev pub AreTracesAt : ℕ → ℕ → List (ℕ × List ℕ) → List Noted → Option (List (ℕ × Trace)) → Type 0
AreTracesAt fill t origin entries None = moment (replayed entries (restarted (files_of origin))) < t
AreTracesAt fill t origin entries (Some traces) =
    (k : ℕ) × (moment (disk_upto k origin entries) ≡ t) × AreTracesOf fill (disk_upto k origin entries) traces

-- a vault after a crash that left these files
pub record IsRestarted (image : ℕ → Option (List ℕ)) (m : Memory) : Type 0 where
  pub files : (f : ℕ) → files_of m.origin f ≡ image f
  pub fresh : disk_of m ≡ restarted (files_of m.origin)
  pub fails : m.kept.calls.fail ≡ []
  pub fails_reads : m.fail_reads ≡ []

abbrev pub IsImageBy : Free → Bool → List (ℕ × Trace) → Memory → Type 0
IsImageBy free there traces m = IsRestarted (λ f. image_by free there (trace_at traces f)) m

abbrev pub choices : List (Free × Bool)
choices = (Kept, true) ∷ (Kept, false) ∷ (Lost, true) ∷ (Lost, false) ∷ (Filled, true) ∷ (Filled, false) ∷ []

-- one vault for each choice: with the files that were made or removed since their last sync there, and without them
abbrev pub AreImagesBy : List (ℕ × Trace) → List Memory → Type 0
AreImagesBy traces vaults = AllZip {A = Free × Bool} (λ choice vault. IsImageBy choice.0 choice.1 traces vault) choices vaults

-- The images of a moment, each by the traces of its files then; and none where there was no such moment yet
abbrev pub AreImagesAt : ℕ → ℕ → Memory → List Memory → Type 0
AreImagesAt fill t m vaults =
    ((k : ℕ) × (traces : List (ℕ × Trace)) × (moment (disk_upto k m.origin m.kept.entries) ≡ t)
    × AreTracesOf fill (disk_upto k m.origin m.kept.entries) traces × AreImagesBy traces vaults)
    ⊎ ((moment (disk_of m) < t) × (vaults ≡ []))

-- each of them is what a crash at that moment may leave
abbrev pub AreLeftAt : ℕ → Memory → List Memory → Type 0
AreLeftAt t m vaults = AllByRecursion (λ v. IsImageAt (disk_of m) t (files_of v.origin)) vaults
