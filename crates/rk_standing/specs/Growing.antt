-- A store whose log takes a group more.
use Rattle.std.specs.Prelude.{◌≡◌, ◌+◌, ◌≤◌, Bool, true, Ok}
use Rattle.rk_outside.specs.Disks.{Files}
use Rattle.rk_model.specs.Operations.{History, last}
use Rattle.rk_opening.specs.Stores.{StoreSeen, has_magic, store_of}
use Rattle.rk_wal.specs.Following.{IsReady}
use Rattle.rk_standing.specs.Stands.{StoreStands}

-- The files are a store's that stands for the history, and a group with the numbers behind its last one may follow in the log.
pub record TakesMore (in_second : Bool) (files : Files) (s : StoreSeen) (h : History) : Type 0 where
  pub head : has_magic (files 0) ≡ true
  pub holds : store_of files ≡ Ok s
  pub stands : StoreStands s h
  pub flushed : s.version.flushed_upto ≤ last h
  pub ready : IsReady s.version.flushed_upto in_second s.logs (last h + 1)
