-- The steps of the machine.
use Rattle.std.specs.Prelude.{◌≡◌, ℕ, List, [], ◌∷◌, Option, None, IsSome, ◌⊎◌, ⊤}
use Rattle.std.specs.Option.{option_map}
use Rattle.rk_model.specs.Named.{named}
use Rattle.rk_model.specs.Operations.{last}
use Rattle.rk_machine.specs.State.{State}
use Rattle.rk_machine.specs.Events.{Event, Commit, Sync, Snap, Release, OpenAt, Moves, Close, CloseCore, Reply, Synced, Number, Released, Opened, Closed, CoreClosed}
use Rattle.rk_machine.specs.Due.{if_halted, Unless}
use Rattle.rk_machine.specs.Commits.{commit_due, numbers_of, after_commit, written}
use Rattle.rk_machine.specs.Snapshots.{snap_due, after_snap, if_not_live, Releases}
use Rattle.rk_machine.specs.Iterators.{open_due, opened, after_open, MovesOn, after_closing}
use Rattle.rk_machine.specs.Faults.{Fails, CountRises}

-- what the caller sees to: a name to be made is free, and one that is used is there
abbrev pub IsAllowed : State → Event → Type 0
IsAllowed m (OpenAt name at options) = named name m.iterators ≡ None
IsAllowed m (Moves name move) = IsSome (named name m.iterators)
IsAllowed m (Close name) = IsSome (named name m.iterators)
IsAllowed m other = ⊤

-- the answer that the state makes due, if there is one
abbrev pub due : State → Event → Option Reply
due m (Commit ops sync) = commit_due m ops
due m Sync = if_halted m
due m Snap = snap_due m
due m (Release number) = if_not_live m number
due m (OpenAt name at options) = open_due m at
due m CloseCore = option_map (λ faults. CoreClosed) m.halted
due m other = None

-- What is answered where a call is done, and the state after it. What isn't named stays.
abbrev pub Done : State → Event → Reply → State → Type 0
Done m (Commit ops sync) reply m' = (reply ≡ numbers_of m ops) × (m' ≡ after_commit ops sync m)
Done m Sync reply m' = (reply ≡ Synced (last m.history)) × (m' ≡ written m)
Done m Snap reply m' = (reply ≡ Number (last m.history)) × (m' ≡ after_snap m)
Done m (Release number) reply m' = (reply ≡ Released) × Releases m number m'
Done m (OpenAt name at options) reply m' = (reply ≡ Opened (opened m at options).number) × (m' ≡ after_open m name at options)
Done m (Moves name move) reply m' = MovesOn m name move reply m'
Done m (Close name) reply m' = (reply ≡ Closed) × (m' ≡ after_closing m name)
Done m CloseCore reply m' = (reply ≡ CoreClosed) × (m' ≡ written m)

-- an answer that is due, or that of a call that is done
abbrev pub Does : State → Event → Reply → State → Type 0
Does m event reply m' = IsAllowed m event × Unless (due m event) m reply m' (Done m event reply m')

-- an answer that is due is given, or the call is done, or it fails
abbrev pub Answers : State → Event → Reply → State → Type 0
Answers m event reply m' = Unless (due m event) m reply m' (Done m event reply m' ⊎ Fails m event reply m')

-- the same state with the vault's count as it is now
abbrev pub counted : ℕ → State → State
counted faults m = record m { faults = faults }

-- an event, its reply, and the state after it: it is answered with the vault's count as it is then
pub record Step (m : State) (event : Event) (reply : Reply) (m' : State) : Type 0 where
  pub allowed : IsAllowed m event
  pub count : CountRises reply m.faults m'.faults
  pub answer : Answers (counted m'.faults m) event reply m'
