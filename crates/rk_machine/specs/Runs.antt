-- Runs of the machine, with the states between.
use Rattle.std.specs.Prelude.{◌≡◌, List, [], ◌∷◌, ◌++◌, map}
use Rattle.rk_model.specs.Operations.{History}
use Rattle.rk_model.specs.Histories.{AreCommits}
use Rattle.rk_machine.specs.State.{State}
use Rattle.rk_machine.specs.Events.{Event, Reply}
use Rattle.rk_machine.specs.Machine.{Step}

-- an event that was done, its reply, and the state that it left
pub record Happened : Type 0 where
  pub event : Event
  pub reply : Reply
  pub after : State

-- each state comes of the one before it by a step
abbrev pub IsRun : State → List Happened → Type 0
IsRun m [] = Unit {0}
IsRun m (d ∷ ds) = Step m d.event d.reply d.after × IsRun d.after ds

-- the states, from the first one on, and the last of them
abbrev pub states : State → List Happened → List State
states m ds = m ∷ map (λ d. d.after) ds

abbrev pub last_state : State → List Happened → State
last_state m [] = m
last_state m (d ∷ ds) = last_state d.after ds

-- A run takes no commit back, and adds none that is empty.
pub record GoesOn (from to : History) : Type 0 where
  pub more : (rest : History) × (to ≡ from ++ rest)
  pub commits : AreCommits from → AreCommits to

abbrev pub HistoriesGoOn : Type 0
HistoriesGoOn = (m : State) (ds : List Happened) → IsRun m ds → GoesOn m.history (last_state m ds).history
