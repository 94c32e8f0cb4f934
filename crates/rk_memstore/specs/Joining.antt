-- How operations join the memtables of a store.
use Rattle.std.specs.Prelude.{◌≡◌, ℕ, ◌+◌, Bool, nat_lt, not, List, length, if◌then◌else◌}
use Rattle.rk_model.specs.Operations.{numbered}
use Rattle.rk_model.specs.declared.op.Op.{Op}
use Rattle.rk_mem.specs.Memory.{Memory, nothing, IsGrown}
use Rattle.rk_machine.specs.Sizes.{batch_size}
use Rattle.rk_machine.specs.declared.limits.TheConstants.{MOST_MEMTABLE_BYTES}
use Rattle.rk_laws.specs.SameCells.{WellFormed}
use Rattle.rk_memstore.specs.Standing.{MemSeen}

-- whether the active memtable has room for so many bytes more
abbrev pub has_room : MemSeen → ℕ → Bool
has_room c size = not (nat_lt MOST_MEMTABLE_BYTES (c.active.bytes + size))

-- the memtable that the operations join, and the frozen one: where there is no room, the active one is frozen
abbrev pub joins : MemSeen → ℕ → Memory
joins c size = if has_room c size then c.active else nothing

abbrev pub frozen_by : MemSeen → ℕ → Memory
frozen_by c size = if has_room c size then c.frozen else c.active

-- The operations are the newest entries of the active memtable, with the numbers behind the last one; all else stays.
pub record HasJoined (old new : MemSeen) (ops : List Op) : Type 0 where
  pub active : IsGrown (joins old (batch_size ops)) (numbered (old.last + 1) ops) (batch_size ops) new.active
  pub keyed : WellFormed (numbered (old.last + 1) ops)
  pub frozen : new.frozen ≡ frozen_by old (batch_size ops)
  pub last : new.last ≡ old.last + length ops
  pub live : new.live ≡ old.live

-- What contracts see of a batch that was made ready to join the memtables
pub record PreparedSeen : Type 0 where
  pub active : Memory
  pub freezes : Bool

-- the batch of these operations was made ready to join the memtables as they are
pub record IsPrepared (c : MemSeen) (ops : List Op) (p : PreparedSeen) : Type 0 where
  pub active : IsGrown (joins c (batch_size ops)) (numbered (c.last + 1) ops) (batch_size ops) p.active
  pub keyed : WellFormed (numbered (c.last + 1) ops)
  pub freezes : p.freezes ≡ not (has_room c (batch_size ops))
