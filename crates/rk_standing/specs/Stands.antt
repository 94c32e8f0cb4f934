-- What the files of a vault stand for, as long as no table is read.
use Rattle.std.specs.Prelude.{◌≡◌, ℕ, ◌-◌, ◌≤◌, ◌⊎◌, Bool, true, Ok, List, [], ◌∷◌, flat_map, length, take}
use Rattle.rk_outside.specs.Disks.{Files}
use Rattle.rk_model.specs.Operations.{History, numbered, operations, last}
use Rattle.rk_model.specs.declared.op.Entry.{Entry}
use Rattle.rk_log.specs.Groups.{GroupSeen}
use Rattle.rk_log.specs.Logs.{later, is_second_active}
use Rattle.rk_log.specs.declared.group.Logged.{Logged}
use Rattle.rk_opening.specs.Stores.{StoreSeen, IsUnmade, has_magic, store_of}
use Rattle.rk_wal.specs.Following.{due_in, log_of, other_of}
use Rattle.rk_memstore.specs.Agreement.{Agrees}

-- the entries of groups: their operations with their numbers
abbrev pub group_entries : GroupSeen → List Entry
group_entries g = numbered g.first (operations g.batches)

abbrev pub log_entries : List Logged → List Entry
log_entries gs = flat_map (λ g. group_entries g.group) gs

-- whether the second log is the one that is written to
abbrev pub is_second : StoreSeen → Bool
is_second s = is_second_active s.version.flushed_upto s.logs

-- the entries of the later groups of both logs, those of the log that is written to last
abbrev pub parts_by : Bool → StoreSeen → List (List Entry)
parts_by in_second s =
    log_entries (later s.version.flushed_upto (other_of in_second s.logs))
    ∷ log_entries (later s.version.flushed_upto (log_of in_second s.logs)) ∷ []

abbrev pub store_parts : StoreSeen → List (List Entry)
store_parts s = parts_by (is_second s) s

-- the number before the one that is due
abbrev pub last_number : StoreSeen → ℕ
last_number s = due_in s.version.flushed_upto (is_second s) s.logs - 1

-- A store stands for a history: its last number is that of the history, and its entries give at each key what the history gives.
pub record StoreStands (s : StoreSeen) (h : History) : Type 0 where
  pub last_is : last h ≡ last_number s
  pub agrees : Agrees (store_parts s) h []

-- the files are a store's that stands for the history
pub record AreStoreOf (files : Files) (h : History) : Type 0 where
  pub store : StoreSeen
  pub head : has_magic (files 0) ≡ true
  pub holds : store_of files ≡ Ok store
  pub stands : StoreStands store h

-- the files stand for the history: no store was made and it is empty, or they are a store's that does
abbrev pub Stands : Files → History → Type 0
Stands files h = (IsUnmade files × (h ≡ [])) ⊎ AreStoreOf files h

-- the files stand for the first commits of a history, with all operations up to a number
pub record StandsForFirst (least : ℕ) (h : History) (files : Files) : Type 0 where
  pub commits : ℕ
  pub some_of : commits ≤ length h
  pub not_below : least ≤ last (take commits h)
  pub stands : Stands files (take commits h)
