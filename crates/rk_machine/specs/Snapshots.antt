-- Snapshots.
use Rattle.std.specs.Prelude.{◌≡◌, ℕ, nat_le, ◌==◌, Bool, not, List, [], ◌∷◌, ◌++◌, length, Option}
use Rattle.std.specs.List.{list_any}
use Rattle.rk_model.specs.Operations.{last}
use Rattle.rk_outside.specs.declared.error.StoreError.TheVariants.{NoSnap, TooManySnaps}
use Rattle.rk_machine.specs.declared.limits.TheConstants.{MOST_SNAPSHOTS}
use Rattle.rk_machine.specs.State.{State}
use Rattle.rk_machine.specs.Events.{Reply, Refused}
use Rattle.rk_machine.specs.Due.{answer_if}

abbrev pub is_live : State → ℕ → Bool
is_live m number = list_any (λ n. n == number) m.live

abbrev pub if_not_live : State → ℕ → Option Reply
if_not_live m number = answer_if (not (is_live m number)) (Refused (NoSnap number))

abbrev pub snap_due : State → Option Reply
snap_due m = answer_if (nat_le MOST_SNAPSHOTS (length m.live)) (Refused (TooManySnaps (length m.live)))

abbrev pub after_snap : State → State
after_snap m = record m { live = m.live ++ last m.history ∷ [] }

-- the second list is the first without one copy of the number
abbrev pub TakesOne : ℕ → List ℕ → List ℕ → Type 0
TakesOne n live live' = (before : List ℕ) × (after : List ℕ) × (live ≡ before ++ n ∷ after) × (live' ≡ before ++ after)

abbrev pub Releases : State → ℕ → State → Type 0
Releases m number m' = TakesOne number m.live m'.live × (m' ≡ record m { live = m'.live })
