-- Commits and syncs.
use Rattle.std.specs.Prelude.{ℕ, ◌+◌, nat_lt, Bool, not, ◌&&◌, ◌==◌, if◌then◌else◌, List, [], ◌∷◌, ◌++◌, length, Option}
use Rattle.rk_model.specs.Lists.{none_of}
use Rattle.rk_model.specs.Operations.{last}
use Rattle.rk_model.specs.declared.op.Op.{Op}
use Rattle.rk_outside.specs.declared.error.StoreError.TheVariants.{EmptyBatch, SequenceEnd, MemFull}
use Rattle.rk_machine.specs.declared.limits.TheConstants.{MOST_NUMBER, MOST_MEMTABLE_BYTES, MOST_PENDING_BYTES}
use Rattle.rk_machine.specs.Sizes.{batch_size}
use Rattle.rk_machine.specs.State.{State}
use Rattle.rk_machine.specs.Events.{Reply, Committed, Refused}
use Rattle.rk_machine.specs.Due.{answer_if, first_due, if_halted}

abbrev pub is_frozen : State → Bool
is_frozen m = not (m.memory.frozen == 0)

-- what waits was written, and so all commits are synced
abbrev pub written : State → State
written m = record m { log = record m.log { synced = last m.history; pending = 0 } }

-- what waits was written, and the active memtable is the frozen one
abbrev pub froze : State → State
froze m = record (written m) { memory = record { active = 0; frozen = m.memory.active } }

-- whether so many bytes more pass the limit of a memtable, or that of what waits
abbrev pub passes_memtable : State → ℕ → Bool
passes_memtable m size = nat_lt MOST_MEMTABLE_BYTES (m.memory.active + size)

abbrev pub passes_pending : State → ℕ → Bool
passes_pending m size = nat_lt MOST_PENDING_BYTES (m.log.pending + size)

-- The active memtable is frozen where it has no room and none is frozen yet. Then what waits is written where it has no room.
abbrev pub with_memtable_room : ℕ → State → State
with_memtable_room size m = if not (is_frozen m) && passes_memtable m size then froze m else m

abbrev pub with_pending_room : ℕ → State → State
with_pending_room size m = if passes_pending m size then written m else m

abbrev pub with_room : ℕ → State → State
with_room size m = with_pending_room size (with_memtable_room size m)

-- the commit joins the history, the active memtable and what waits
abbrev pub joined : List Op → State → State
joined ops m = record m {
  history = m.history ++ ops ∷ [];
  memory = record m.memory { active = m.memory.active + batch_size ops };
  log = record m.log { pending = m.log.pending + batch_size ops };
}

abbrev pub synced_if : Bool → State → State
synced_if sync m = if sync then written m else m

abbrev pub after_commit : List Op → Bool → State → State
after_commit ops sync m = synced_if sync (joined ops (with_room (batch_size ops) m))

abbrev pub commit_due : State → List Op → Option Reply
commit_due m ops = first_due (
    answer_if (none_of ops) (Refused EmptyBatch)
    ∷ if_halted m
    ∷ answer_if (nat_lt MOST_NUMBER (last m.history + length ops)) (Refused (SequenceEnd (last m.history) (length ops)))
    ∷ answer_if (is_frozen m && passes_memtable m (batch_size ops)) (Refused (MemFull m.memory.active (batch_size ops)))
    ∷ [])

-- the numbers of the operations: those after the last one
abbrev pub numbers_of : State → List Op → Reply
numbers_of m ops = Committed (last m.history + 1) (last m.history + length ops)
