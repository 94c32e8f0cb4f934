-- What the files of a vault hold, and what a crash may leave of them.
--
-- Files and crash facts are functions of a file's number, not lists: a call then says what it does to one file and that
-- all others stay, an image is one of each file by itself, and no order and no absent number has to be spoken of. A list
-- of numbers stands at the one call that answers it.
-- Crash facts are data, one entry for each moment, not predicates with laws: that there is one more moment after a
-- change is then an equation, what a crash since a moment may have left is computed from the list, and a vault that
-- keeps the changes that it was asked for has the list by replaying them.
use Rattle.std.specs.Prelude.{◌≡◌, ◌≢◌, ℕ, ◌+◌, ◌<◌, ◌≤◌, max, nat_lt, nat_le, ◌==◌, Bool, true, false, ◌&&◌, ◌||◌, not, IsTrue, List, [], ◌∷◌, ◌++◌, length, take, drop, slice_get, slice_index, if◌then◌else◌, Option, Some, None, is_some, IfSome, IsSomeAnd, option_map, unwrap_or, ◌⊎◌}
use Rattle.std.specs.List.{list_any}
use Rattle.rk_outside.specs.Causes.{Rose}

-- what reads give of each file, and none where it isn't there
abbrev pub Files : Type 0
Files = ℕ → Option (List ℕ)

-- the bytes of a file, and none where it isn't there
abbrev pub bytes_in : Files → ℕ → List ℕ
bytes_in files file = unwrap_or (files file) []

-- the same but for one file
abbrev pub with_file : {A : Type 0} → ℕ → A → (ℕ → A) → ℕ → A
with_file file a all = λ f. if f == file then a else all f

-- What a file has met since its last sync: what it held then, up to the least length that it has had; the writes, each a
-- place and a length; and whether it was made or removed
pub record Unsynced : Type 0 where
  pub front : List ℕ
  pub writes : List (ℕ × ℕ)
  pub loose : Bool

-- The crash facts of a file: nothing has changed it since its last sync, or something has
pub data FileFacts : Type 0 where
  Synced : (file : Option (List ℕ)) → FileFacts
  Changed : (since : Unsynced) → FileFacts

-- a write covers the place
abbrev pub is_written : List (ℕ × ℕ) → ℕ → Bool
is_written writes i = list_any (λ w. nat_le w.0 i && nat_lt i (w.0 + w.1)) writes

-- A crash may leave these bytes: below the least length a place that no write covers holds its byte of the last sync.
-- All else is free, and so is how far the file reaches above that length.
pub record IsLeft (u : Unsynced) (bytes : List ℕ) : Type 0 where
  pub no_shorter : length u.front ≤ length bytes
  pub kept : (i : ℕ) → i < length u.front → is_written u.writes i ≡ false → slice_index bytes i ≡ slice_index u.front i

-- what a crash may leave of one file
abbrev pub IsFileImage : FileFacts → Option (List ℕ) → Type 0
IsFileImage (Synced file) image = image ≡ file
IsFileImage (Changed u) None = IsTrue u.loose
IsFileImage (Changed u) (Some bytes) = IsLeft u bytes

-- What a call changes
pub data Change : Type 0 where
  Write : (at : ℕ) → (bytes : List ℕ) → Change
  Cut : (len : ℕ) → Change
  Sync : Change
  Remove : Change

-- the bytes, with others over them from a place on
abbrev pub overwritten : List ℕ → ℕ → List ℕ → List ℕ
overwritten old at bytes = take at old ++ bytes ++ drop (at + length bytes) old

-- what reads give of the file after a change that was answered with `Ok`
abbrev pub done : Change → Option (List ℕ) → Option (List ℕ)
done (Write at bytes) file = Some (overwritten (unwrap_or file []) at bytes)
done (Cut len) file = option_map (take len) file
done Sync file = file
done Remove file = None

-- after a write that failed: any bytes in its range, and any length from the old one to the one that it would have made
pub record IsTorn (at n : ℕ) (old new : List ℕ) : Type 0 where
  pub before : take at new ≡ take at old
  pub after : drop (at + n) new ≡ drop (at + n) old
  pub no_shorter : length old ≤ length new
  pub no_longer : length new ≤ max (length old) (at + n)

-- after a cut that failed: any length from the new one to the old one
pub record IsCutShort (len : ℕ) (old new : List ℕ) : Type 0 where
  pub no_shorter : len ≤ length new
  pub front : new ≡ take (length new) old

-- what reads may give of the file after a change that failed
abbrev pub MayRead : Change → Option (List ℕ) → Option (List ℕ) → Type 0
MayRead (Write at bytes) None new = IfSome new (IsTorn at (length bytes) [])
MayRead (Write at bytes) (Some old) new = IsSomeAnd new (IsTorn at (length bytes) old)
MayRead (Cut len) None new = new ≡ None
MayRead (Cut len) (Some old) new = IsSomeAnd new (IsCutShort len old)
MayRead Sync old new = new ≡ old
MayRead Remove old new = (new ≡ old) ⊎ (new ≡ None)

-- what reads give of the file after a change, by whether it was answered with `Ok`
abbrev pub Reads : Bool → Change → Option (List ℕ) → Option (List ℕ) → Type 0
Reads true change old new = new ≡ done change old
Reads false change old new = MayRead change old new

-- what the file has met since its last sync, before anything more
abbrev pub since_sync : FileFacts → Unsynced
since_sync (Synced file) = record { front = unwrap_or file []; writes = []; loose = false }
since_sync (Changed u) = u

-- a file that a write makes has length 0 before it
abbrev pub after_write : Bool → ℕ → ℕ → Unsynced → Unsynced
after_write there at n u = record u {
  front = if there then u.front else [];
  writes = (at, n) ∷ u.writes;
  loose = not there || u.loose;
}

abbrev pub after_cut : ℕ → Unsynced → Unsynced
after_cut len u = record u { front = take len u.front }

abbrev pub after_removal : Unsynced → Unsynced
after_removal u = record u { loose = true }

-- The crash facts of a file after a change, by whether it was answered with `Ok` and what reads gave of the file. A
-- change that failed counts as made, but a sync that failed settles nothing.
abbrev pub facts_after : Bool → Option (List ℕ) → Change → FileFacts → FileFacts
facts_after ok file (Write at bytes) facts = Changed (after_write (is_some file) at (length bytes) (since_sync facts))
facts_after ok None (Cut len) facts = facts
facts_after ok (Some bytes) (Cut len) facts = Changed (after_cut len (since_sync facts))
facts_after true file Sync facts = Synced file
facts_after false file Sync facts = facts
facts_after ok None Remove facts = facts
facts_after ok (Some bytes) Remove facts = Changed (after_removal (since_sync facts))

-- the crash facts of each file
abbrev pub Facts : Type 0
Facts = ℕ → FileFacts

-- The crash facts at each moment so far: at those before, the oldest first, and now
pub record Moments : Type 0 where
  pub past : List Facts
  pub now : Facts

-- What contracts see of a vault's disk: what reads give, and the crash facts. Each may be untold, and then nothing ties
-- it to the calls.
pub record Disk : Type 0 where
  pub files : Files
  pub moments : Moments
  pub tells_files : Bool
  pub tells_moments : Bool

abbrev pub TellsFiles : Disk → Type 0
TellsFiles d = IsTrue d.tells_files

abbrev pub TellsMoments : Disk → Type 0
TellsMoments d = IsTrue d.tells_moments

abbrev pub no_moments : Moments
no_moments = record { past = []; now = λ f. Synced None }

-- a disk that tells nothing, and one that tells what reads give alone
abbrev pub untold : Disk
untold = record { files = λ f. None; moments = no_moments; tells_files = false; tells_moments = false }

abbrev pub told_files : Files → Disk
told_files files = record { files = files; moments = no_moments; tells_files = true; tells_moments = false }

abbrev pub told : Files → Moments → Disk
told files ms = record { files = files; moments = ms; tells_files = true; tells_moments = true }

-- after a crash that left these files: nothing is unsynced
abbrev pub restarted : Files → Disk
restarted files = told files (record { past = []; now = λ f. Synced (files f) })

-- one moment more
abbrev pub then_now : Facts → Moments → Moments
then_now facts ms = record { past = ms.past ++ ms.now ∷ []; now = facts }

abbrev pub all_moments : Moments → List Facts
all_moments ms = ms.past ++ ms.now ∷ []

-- all files but one are as they were
abbrev pub FilesStayBut : ℕ → Files → Files → Type 0
FilesStayBut file old new = (f : ℕ) → f ≢ file → new f ≡ old f

-- a change of one file, seen by what reads give
pub record FilesChange (file : ℕ) (change : Change) (ok : Bool) (old new : Files) : Type 0 where
  pub this : Reads ok change (old file) (new file)
  pub others : FilesStayBut file old new

-- the moments after a change of one file
abbrev pub moments_after : ℕ → Change → Bool → Files → Moments → Moments
moments_after file change ok files ms = then_now (with_file file (facts_after ok (files file) change (ms.now file)) ms.now) ms

-- nothing was done: what reads give and the crash facts are as they were, and no moment was added
pub record IsUndone (old new : Disk) : Type 0 where
  pub files : (f : ℕ) → new.files f ≡ old.files f
  pub moments : new.moments ≡ old.moments

-- The moments after a change of one file. One that failed counts as made, unless it could not be noted: then nothing was
-- done, and the count of such changes rose.
abbrev pub MomentsChange : Bool → ℕ → Change → (before now : ℕ) → Disk → Disk → Type 0
MomentsChange true file change before now old new = new.moments ≡ moments_after file change true old.files old.moments
MomentsChange false file change before now old new = (new.moments ≡ moments_after file change false old.files old.moments) ⊎ (Rose before now × IsUndone old new)

-- what is told stays so
pub record TellsAlike (old new : Disk) : Type 0 where
  pub files : new.tells_files ≡ old.tells_files
  pub moments : new.tells_moments ≡ old.tells_moments

-- A change of one file, as it was answered, in what is told. The counts are those of the calls that could not be noted:
-- it never falls, and a change that was done leaves it.
pub record Changes (file : ℕ) (change : Change) (ok : Bool) (before now : ℕ) (old new : Disk) : Type 0 where
  pub later : before ≤ now
  pub kept : IsTrue ok → now ≡ before
  pub told : TellsAlike old new
  pub files : TellsFiles old → FilesChange file change ok old.files new.files
  pub moments : TellsFiles old → TellsMoments old → MomentsChange ok file change before now old new

-- the clock: how many changes there were
abbrev pub moment : Disk → ℕ
moment d = length d.moments.past

-- what a crash may leave, by the crash facts of a moment: of each file one of its images
abbrev pub IsImage : Facts → Files → Type 0
IsImage facts image = (f : ℕ) → IsFileImage (facts f) (image f)

-- the image is one of some of these moments
abbrev pub IsImageOfOne : List Facts → Files → Type 0
IsImageOfOne [] image = ⊥
IsImageOfOne (facts ∷ more) image = IsImage facts image ⊎ IsImageOfOne more image

-- what a crash now may leave; at a moment; and at some moment from one on
abbrev pub IsImageNow : Disk → Files → Type 0
IsImageNow d image = IsImage d.moments.now image

abbrev pub IsImageAt : Disk → ℕ → Files → Type 0
IsImageAt d t image = IsSomeAnd (slice_get (all_moments d.moments) t) (λ facts. IsImage facts image)

abbrev pub IsImageSince : Disk → ℕ → Files → Type 0
IsImageSince d t image = IsImageOfOne (drop t (all_moments d.moments)) image

-- it tells what reads give and the crash facts, and what reads give is what a crash now may leave
pub record IsHonest (d : Disk) : Type 0 where
  pub tells_files : TellsFiles d
  pub tells_moments : TellsMoments d
  pub is_image : IsImageNow d d.files

-- each image of now has P
abbrev pub EachImage : Disk → (Files → Type 0) → Type 0
EachImage d P = (image : Files) → IsImageNow d image → P image

-- what reads give has P, and so has each image of now
pub record IsSettled (d : Disk) (P : Files → Type 0) : Type 0 where
  pub reads : P d.files
  pub images : EachImage d P

-- Each image of each moment since that of old has P. A run that began before old goes on by the last field.
pub record LeavesOnly (old new : Disk) (P : Files → Type 0) : Type 0 where
  pub later : moment old ≤ moment new
  pub each : (image : Files) → IsImageSince new (moment old) image → P image
  pub before : (t : ℕ) (image : Files) → t ≤ moment old → IsImageSince new t image → IsImageSince old t image ⊎ P image

-- but for one file an image of now, and of that file it has P
pub record IsImageBut (d : Disk) (file : ℕ) (P : Option (List ℕ) → Type 0) (image : Files) : Type 0 where
  pub before : Files
  pub is_image : IsImageNow d before
  pub others : FilesStayBut file before image
  pub this : P (image file)

-- each image of each moment since that of old is one of old's but for the file, and of that file it has P
abbrev pub LeavesFileOnly : ℕ → Disk → Disk → (Option (List ℕ) → Type 0) → Type 0
LeavesFileOnly file old new P = LeavesOnly old new (IsImageBut old file P)
