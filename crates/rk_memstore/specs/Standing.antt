-- When a store in memory stands for a state of the machine.
use Rattle.std.specs.Prelude.{◌≡◌, ℕ, ◌≤◌, List, [], ◌∷◌, length, IsPermutation}
use Rattle.std.specs.List.{All}
use Rattle.rk_model.specs.Operations.{entries, last}
use Rattle.rk_model.specs.Histories.{AreCommits}
use Rattle.rk_model.specs.declared.op.Entry.{Entry}
use Rattle.rk_mem.specs.Memory.{Memory}
use Rattle.rk_laws.specs.SameCells.{WellFormed}
use Rattle.rk_merge_laws.specs.Chunks.{all_of}
use Rattle.rk_machine.specs.State.{State}
use Rattle.rk_machine.specs.declared.limits.TheConstants.{MOST_NUMBER, MOST_SNAPSHOTS}
use Rattle.rk_memstore.specs.Agreement.{Agrees}

-- What contracts see of a store in memory: its two memtables, the last number, and the live numbers. A frozen memtable of no
-- bytes says that none is frozen.
pub record MemSeen : Type 0 where
  pub active : Memory
  pub frozen : Memory
  pub last : ℕ
  pub live : List ℕ

-- the entries of its memtables, the older one first
abbrev pub parts : MemSeen → List (List Entry)
parts c = c.frozen.entries ∷ c.active.entries ∷ []

-- a memtable of no bytes has no entry
abbrev pub HasItsBytes : Memory → Type 0
HasItsBytes memtable = memtable.bytes ≡ 0 → memtable.entries ≡ []

-- What each store in memory keeps: no number is above the last, all keys are keys, and a memtable of no bytes has no entry.
pub record IsMemStore (c : MemSeen) : Type 0 where
  pub within : All (λ e. e.seq ≤ c.last) (all_of (parts c))
  pub keyed : WellFormed (all_of (parts c))
  pub active : HasItsBytes c.active
  pub frozen : HasItsBytes c.frozen
  pub live : All (λ n. n ≤ c.last) c.live
  pub number : c.last ≤ MOST_NUMBER
  pub snapshots : length c.live ≤ MOST_SNAPSHOTS

-- A store in memory stands for a state: its entries for the history at the last number and at the live ones, and its sizes and
-- numbers are those of the state. Iterators are their owner's, over what was pinned; the log is the vault's.
pub record StandsInMemory (c : MemSeen) (m : State) : Type 0 where
  pub commits : AreCommits m.history
  pub keyed : WellFormed (entries m.history)
  pub agrees : Agrees (parts c) m.history m.live
  pub active : c.active.bytes ≡ m.memory.active
  pub frozen : c.frozen.bytes ≡ m.memory.frozen
  pub last : c.last ≡ last m.history
  pub live : IsPermutation c.live m.live
