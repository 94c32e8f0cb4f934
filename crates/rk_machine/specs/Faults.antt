-- Refusals that no state makes due: want of memory, which may be at any time, and faults of the vault.
use Rattle.std.specs.Prelude.{◌≡◌, ℕ, ◌<◌, ◌≤◌, Bool, true, false, List, Some, ◌⊎◌, ⊤}
use Rattle.rk_model.specs.declared.op.Op.{Op}
use Rattle.rk_outside.specs.Causes.{Rose}
use Rattle.rk_outside.specs.declared.error.StoreError.TheVariants.{Memory, WriteFault}
use Rattle.rk_outside.specs.declared.error.SourceError.{SourceError}
use Rattle.rk_outside.specs.declared.error.SourceError.TheVariants as source
use Rattle.rk_machine.specs.State.{State}
use Rattle.rk_machine.specs.Events.{Event, Commit, Sync, Snap, Release, OpenAt, Moves, Close, CloseCore, Reply, Refused, Unmoved}

-- memory is wanting, and all stays
abbrev pub LacksMemory : State → Reply → State → Type 0
LacksMemory m reply m' = (reply ≡ Refused Memory) × (m' ≡ m)

-- from a failed write on the store is halted, with the count that the refusal told
abbrev pub halted_now : State → State
halted_now m = record m { halted = Some m.faults }

abbrev pub FailsToWrite : State → Reply → State → Type 0
FailsToWrite m reply m' = (reply ≡ Refused (WriteFault m.faults)) × (m' ≡ halted_now m)

-- A commit that a failed write stopped is kept apart: it is not in the history, and the next opening may find it.
abbrev pub lost_now : List Op → State → State
lost_now ops m = record (halted_now m) { log = record m.log { lost = Some ops } }

abbrev pub LosesCommit : State → List Op → Reply → State → Type 0
LosesCommit m ops reply m' = (reply ≡ Refused (WriteFault m.faults)) × (m' ≡ lost_now ops m)

-- a move reads memory alone, so nothing else refuses it
abbrev pub IsMoveRefusal : SourceError → Type 0
IsMoveRefusal source.Memory = ⊤
IsMoveRefusal (source.ReadFault faults) = ⊥
IsMoveRefusal (source.BadTable file at) = ⊥

-- a refused move leaves the iterator where it was
abbrev pub FailsToMove : State → Reply → State → Type 0
FailsToMove m reply m' = (error : SourceError) × (reply ≡ Unmoved error) × IsMoveRefusal error × (m' ≡ m)

-- How each event may fail. A release, a closing of an iterator, and a sync where nothing waits take no memory and no device.
abbrev pub Fails : State → Event → Reply → State → Type 0
Fails m (Commit ops sync) reply m' = LacksMemory m reply m' ⊎ LosesCommit m ops reply m'
Fails m Sync reply m' = (0 < m.log.pending) × (LacksMemory m reply m' ⊎ FailsToWrite m reply m')
Fails m Snap reply m' = LacksMemory m reply m'
Fails m (Release number) reply m' = ⊥
Fails m (OpenAt name at options) reply m' = LacksMemory m reply m'
Fails m (Moves name move) reply m' = FailsToMove m reply m'
Fails m (Close name) reply m' = ⊥
Fails m CloseCore reply m' = LacksMemory m reply m' ⊎ FailsToWrite m reply m'

-- whether an answer tells of a fault of the vault
abbrev pub is_fault : Reply → Bool
is_fault (Refused (WriteFault faults)) = true
is_fault other = false

abbrev pub RoseIf : Bool → ℕ → ℕ → Type 0
RoseIf true before now = Rose before now
RoseIf false before now = ⊤

-- the vault's count never falls, and a fault is told only where it rose
pub record CountRises (reply : Reply) (before now : ℕ) : Type 0 where
  pub later : before ≤ now
  pub told : RoseIf (is_fault reply) before now
