-- What the machine keeps.
use Rattle.std.specs.Prelude.{ℕ, List, [], ◌∷◌, Option, None}
use Rattle.rk_model.specs.Moves.{View}
use Rattle.rk_model.specs.Operations.{History, last}
use Rattle.rk_model.specs.declared.op.Op.{Op}
use Rattle.rk_machine.specs.declared.shape.Shape.{Shape}

-- An open iterator: the number that its opening fixed, and what it sees and shows
pub record Open : Type 0 where
  pub number : ℕ
  pub view : View

-- The bytes of the batches in the two memtables; 0 says that none is frozen
pub record Memtables : Type 0 where
  pub active : ℕ
  pub frozen : ℕ

-- The last number that is synced, the bytes of the batches that wait to be written, and the commit that a fault lost
pub record Log : Type 0 where
  pub synced : ℕ
  pub pending : ℕ
  pub lost : Option (List Op)

-- The state: the commits, the number of each live snapshot, the open iterators by their names, the memtables and the log;
-- after a failed write the count that it told, and the vault's count of faults. A number stands in `live` once for each of its snapshots.
pub record State : Type 0 where
  pub history : History
  pub live : List ℕ
  pub iterators : List (List ℕ × Open)
  pub memory : Memtables
  pub log : Log
  pub halted : Option ℕ
  pub faults : ℕ

-- The state that an opening gives: what the vault stands for is synced, and all else is new. The files tell the sizes of the
-- memtables, and the vault its count.
abbrev pub opened_store : History → Memtables → ℕ → State
opened_store h memory faults = record {
  history = h;
  live = [];
  iterators = [];
  memory = memory;
  log = record { synced = last h; pending = 0; lost = None };
  halted = None;
  faults = faults;
}

-- a new store, over a vault that has not failed
abbrev pub start : State
start = opened_store [] (record { active = 0; frozen = 0 }) 0

-- what is told of the sizes: no level has tables yet
abbrev pub shape_of : State → Shape
shape_of m = record {
  active = m.memory.active;
  frozen = m.memory.frozen;
  tables = 0 ∷ 0 ∷ 0 ∷ 0 ∷ [];
  bytes = 0 ∷ 0 ∷ 0 ∷ 0 ∷ [];
}
