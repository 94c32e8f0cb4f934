-- The rule of the lock. Word 0 is the next ticket, word 1 the number served, and word 2 the length of the history. The one
-- slot has the value, and is out with the pass that has its turn.
use Rattle.std.specs.Prelude.{◌≡◌, ◌≢◌, ℕ, ◌+◌, ◌<◌, ◌≤◌, true, List, [], ◌∷◌, length, Option, Some}
use mathlib.Core.Option as maybe
use lib.ListN.{get_elem?}
use Rattle.atomic_table.specs.Table.{State}
use Rattle.rk_lock.specs.declared.view.View.{View}
use Rattle.rk_lock.specs.declared.view.Stage.{Stage}
use Rattle.rk_lock.specs.declared.view.Stage.TheVariants.{Fresh, Outside, Waiting, Called, Inside, Counted, Returned, Spent}
use Rattle.rk_lock.specs.Histories.{Among, IsPrefix, IsNumbered, total}
use Rattle.rk_lock.specs.Views.{is_live, named, times_out}

-- Where the value is: at home; out with a pass; out, and the event is counted; at home again, and the next is not served yet
pub data Phase : Type 0 where
  Resting : Phase
  Working : Phase
  Adding : Phase
  Back : Phase

abbrev pub phase_of : {T E : Type 0} → Stage T E → Phase
phase_of (Inside t kept) = Working
phase_of (Counted t) = Adding
phase_of (Returned t) = Back
phase_of _ = Resting

-- the ticket t is drawn and not yet done with: it is the pass's own, and all others of its tickets are done with
pub record IsDue (turn : ℕ) (tickets : List ℕ) (t : ℕ) : Type 0 where
  pub own : Among t tickets
  pub later : turn ≤ t
  pub others : (u : ℕ) → Among u tickets → u ≢ t → u < turn

-- the pass is in its turn
abbrev pub IsServed : ℕ → List ℕ → ℕ → Type 0
IsServed turn tickets t = IsDue turn tickets t × (t ≡ turn)

module _ {T E O : Type 0} (ticket : E → ℕ) (stands : T → O → List E → Type 0) where
  -- the value is in the slot, and stands for the history
  abbrev pub IsHome : O → List E → List (maybe.Option (Option T)) → Type 0
  IsHome origin log homes = (x : T) × (homes ≡ maybe.some (Some x) ∷ []) × stands x origin log

  abbrev pub IsOut : List (maybe.Option (Option T)) → Type 0
  IsOut homes = homes ≡ maybe.none ∷ []

  abbrev pub Lies : O → List E → ℕ → ℕ → List (maybe.Option (Option T)) → Phase → Type 0
  Lies origin log turn next homes Resting = (length log ≡ turn) × (turn ≤ next) × IsHome origin log homes
  Lies origin log turn next homes Working = (length log ≡ turn) × (turn < next) × IsOut homes
  Lies origin log turn next homes Adding = (length log ≡ turn + 1) × (turn < next) × IsOut homes
  Lies origin log turn next homes Back = (length log ≡ turn + 1) × (turn < next) × IsHome origin log homes

  module _ (origin : O) (log : List E) (turn : ℕ) where
    -- what the stage says of a pass with these tickets, which has seen so much
    abbrev pub FitsStage : List ℕ → List E → Option O → Stage T E → Type 0
    FitsStage tickets seen known (Fresh x) = (tickets ≡ []) × stands x origin []
    FitsStage tickets seen known Outside = (known ≡ Some origin) × ((t : ℕ) → Among t tickets → t < turn)
    FitsStage tickets seen known (Waiting t) = (known ≡ Some origin) × IsDue turn tickets t
    FitsStage tickets seen known (Called t kept) = (known ≡ Some origin) × IsServed turn tickets t × (kept ≡ log)
    FitsStage tickets seen known (Inside t kept) = (known ≡ Some origin) × IsServed turn tickets t × (kept ≡ log)
    FitsStage tickets seen known (Counted t) = (known ≡ Some origin) × IsServed turn tickets t × (seen ≡ log)
    FitsStage tickets seen known (Returned t) = (known ≡ Some origin) × IsServed turn tickets t × (seen ≡ log)
    FitsStage tickets seen known Spent = tickets ≡ []

    -- what a pass knows is so, and its tickets are its own
    pub record Fits (next : ℕ) (owner : ℕ → ℕ) (j : ℕ) (v : View T E O) : Type 0 where
      pub seen : IsPrefix v.seen log
      pub noted : IsPrefix v.noted log
      pub mine : (t : ℕ) → Among t v.tickets → (t < next) × (owner t ≡ j)
      pub done : (t : ℕ) → Among t v.tickets → t < length log → t < length v.seen
      pub stage : FitsStage v.tickets v.seen v.origin v.stage
      pub deeper : (n : List ℕ) → Among n v.out → length v.name < length n
      pub first : is_live v.stage ≡ true → v.name ≡ [] → j ≡ 0
      pub gone : v.stage ≡ Spent → v.out ≡ []

  -- Each ticket has one owner, events carry the tickets 0, 1, .. in their order, and each pass but the first is out with one other
  pub record Ruled (s : State (Option T) (View T E O)) : Type 0 where
    pub origin : O
    pub log : List E
    pub next : ℕ
    pub turn : ℕ
    pub owner : ℕ → ℕ
    pub phase : Phase
    pub words : s.words ≡ next ∷ turn ∷ length log ∷ []
    pub bound : next < 18446744073709551616
    pub numbered : IsNumbered ticket 0 log
    pub lies : Lies origin log turn next s.homes phase
    pub held : (v : View T E O) → turn < next → get_elem? s.views (owner turn) ≡ maybe.some v → phase ≡ phase_of v.stage
    pub drawn : (t : ℕ) → t < next → (v : View T E O) × (get_elem? s.views (owner t) ≡ maybe.some v) × Among t v.tickets
    pub fits : (j : ℕ) (v : View T E O) → get_elem? s.views j ≡ maybe.some v → Fits origin log turn next owner j v
    pub names : (n : List ℕ) → total (named n) s.views ≡ total (times_out n) s.views
