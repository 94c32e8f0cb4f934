-- What the files of a vault hold, as long as no table is read.
use Rattle.std.specs.Prelude.{◌≡◌, ℕ, nat_eq, ◌≤◌, Bool, false, if◌then◌else◌, Option, None, Result, Ok, Err, List, [], take, codes}
use Rattle.std.specs.Cmp.Lexicographic.{pointwise}
use Rattle.std.specs.Option.{option_map_or}
use Rattle.rk_outside.specs.declared.error.StoreError.{StoreError}
use Rattle.rk_outside.specs.Disks.{Files}
use Rattle.rk_pieces.specs.Pieces.{then_do, is_empty}
use Rattle.rk_manifest.specs.Versions.{Version, no_version}
use Rattle.rk_manifest.specs.Manifests.{manifest_in}
use Rattle.rk_log.specs.Logs.{LogsSeen, logs_in, later}
use Rattle.rk_log.specs.declared.group.Logged.{Logged}

-- what the head of a store begins with
abbrev pub store_magic : List ℕ
store_magic = codes "rkstore1"

-- the head begins so
abbrev pub has_magic : Option (List ℕ) → Bool
has_magic head = option_map_or (λ bytes. pointwise nat_eq (take 8 bytes) store_magic) head false

-- a file of this number is a table's
abbrev pub first_table : ℕ
first_table = 16

-- no store was made here
pub record IsUnmade (files : Files) : Type 0 where
  pub head : has_magic (files 0) ≡ false
  pub no_tables : (f : ℕ) → first_table ≤ f → files f ≡ None

-- What the manifest and the logs hold
pub record StoreSeen : Type 0 where
  pub version : Version
  pub logs : LogsSeen

-- what they hold where a store was just made
abbrev pub new_store : StoreSeen
new_store = record { version = no_version; logs = record { first = []; second = [] } }

-- what the manifest and the logs of a store hold, or the first bad record in the order in which an opening reads them
abbrev pub store_of : Files → Result StoreSeen StoreError
store_of files =
    then_do (manifest_in files) (λ version. then_do (logs_in version.flushed_upto files) (λ logs.
    Ok (record { version = version; logs = logs })))

-- a log whose groups are all in tables is emptied
abbrev pub kept : ℕ → List Logged → List Logged
kept flushed log = if is_empty (later flushed log) then [] else log

abbrev pub settled : StoreSeen → StoreSeen
settled s = record s { logs = record { first = kept s.version.flushed_upto s.logs.first; second = kept s.version.flushed_upto s.logs.second } }

-- two readings give the same, but for groups that are in tables
abbrev pub AreAlike : Result StoreSeen StoreError → Result StoreSeen StoreError → Type 0
AreAlike (Ok s) (Ok t) = settled s ≡ settled t
AreAlike (Ok s) (Err e) = ⊥
AreAlike (Err e) (Ok t) = ⊥
AreAlike (Err d) (Err e) = d ≡ e
