-- What a call of a store in memory answers.
use Rattle.std.specs.Prelude.{◌≡◌, ℕ, Option, None, Result, Ok, Err, MatchOption, List}
use Rattle.std.specs.Option.{option_map_or}
use Rattle.rk_outside.specs.declared.error.StoreError.{StoreError}
use Rattle.rk_outside.specs.declared.error.StoreError.TheVariants.{Memory}
use Rattle.rk_model.specs.Covers.{upto}
use Rattle.rk_model.specs.Operations.{entries, last}
use Rattle.rk_model.specs.declared.op.Entry.{Entry}
use Rattle.rk_model.specs.declared.options.IterOptions.{IterOptions}
use Rattle.rk_laws.specs.SameCells.{KeyBounds, GiveSameCells}
use Rattle.rk_mem.specs.Memory.{Pinned}
use Rattle.rk_merge_laws.specs.Chunks.{all_of, NumbersDifferOver}
use Rattle.rk_machine.specs.State.{State}
use Rattle.rk_machine.specs.Events.{Event, Reply, Refused}
use Rattle.rk_machine.specs.Iterators.{open_due}
use Rattle.rk_machine.specs.Machine.{Step}
use Rattle.rk_memstore.specs.Standing.{MemSeen, StandsInMemory}

-- the reply that a result is
abbrev pub reply_of : {T : Type 0} → (T → Reply) → Result T StoreError → Reply
reply_of said (Ok t) = said t
reply_of said (Err error) = Refused error

-- A step of the machine leads from a state to one that the store stands for in memory. The step is no failed write.
abbrev pub StepsFrom : State → MemSeen → Event → Reply → Type 0
StepsFrom m new event reply = (m' : State) × Step m event reply m' × StandsInMemory new m' × (m'.halted ≡ m.halted)

-- A call is a step of the machine, whatever state the store stood for in memory.
abbrev pub IsStep : MemSeen → MemSeen → Event → Reply → Type 0
IsStep old new event reply = (m : State) → StandsInMemory old m → StepsFrom m new event reply

-- Pinned chunks show some entries up to the pins' number: to any iterator they give the same cells.
pub record Shows (pins : Pinned) (es : List Entry) : Type 0 where
  pub differ : NumbersDifferOver pins.chunks
  pub cells : (o : IterOptions) → KeyBounds o → GiveSameCells (upto pins.number (all_of pins.chunks)) (upto pins.number es) o

-- What is pinned for a state: what its history gives at the last number, or at the live one that was asked for. A refusal
-- is the one that is due, or want of memory.
abbrev pub Pins : State → Option ℕ → Result Pinned StoreError → Type 0
Pins m at (Ok pins) = (open_due m at ≡ None) × (pins.number ≡ option_map_or (λ n. n) at (last m.history)) × Shows pins (entries m.history)
Pins m at (Err error) = MatchOption (open_due m at) (error ≡ Memory) (λ due. due ≡ Refused error)
