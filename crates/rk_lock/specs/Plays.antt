-- What each step tells its pass.
use Rattle.std.specs.Prelude.{◌≡◌, ◌≢◌, ℕ, ◌<◌, List, [], ◌∷◌, ◌++◌, length, Option, Some, None}
use Rattle.atomic_table.specs.Table.{Me, Step, rest}
use Rattle.rk_lock.specs.declared.view.View.{View}
use Rattle.rk_lock.specs.declared.view.Stage.TheVariants.{Fresh, Outside, Waiting, Called, Inside, Counted, Returned}
use Rattle.rk_lock.specs.Histories.{Among, IsPrefix, IsNumbered}
use Rattle.rk_lock.specs.Views.{founded, drawn, at, counted, compared}

-- a pass, with the slots that it has taken
abbrev pub Holder : Type 0 → Type 0 → Type 0 → Type 0
Holder T E O = Me (Option T) (View T E O)

-- from that origin, the value stands for the events
abbrev pub StandsFrom : {T E O : Type 0} → (T → O → List E → Type 0) → Option O → T → List E → Type 0
StandsFrom stands None x events = ⊥
StandsFrom stands (Some origin) x events = stands x origin events

module _ {T E O : Type 0} where
  -- the ticket st.first is drawn where it was the next one, and it is above all that the pass has drawn
  abbrev pub drew : Step (Option T) → Holder T E O → ℕ → Holder T E O → Type 0
  drew st m found m' =
      (found ≡ st.first → (m' ≡ (drawn st.first m.0, m.1)) × ((t : ℕ) → Among t m.0.tickets → t < st.first))
      × (found ≢ st.first → m' ≡ m)

  abbrev pub gave : Step (Option T) → Holder T E O → ℕ → Holder T E O → Type 0
  gave st m found m' = (t : ℕ) → m.0.stage ≡ Counted t → m' ≡ (at (Returned t) m.0, rest m.1)

  abbrev pub served : Step (Option T) → Holder T E O → ℕ → Holder T E O → Type 0
  served st m found m' = m' ≡ (at Outside m.0, m.1)

  -- of the two histories that the pass was handed, the longer begins with the other
  abbrev pub matched : Step (Option T) → Holder T E O → ℕ → Holder T E O → Type 0
  matched st m found m' = (m' ≡ (compared m.0, m.1)) × IsPrefix m.0.noted m.0.seen

  module _ (ticket : E → ℕ) (stands : T → O → List E → Type 0) where
    -- the first pass has an origin from which the value stood for no event
    abbrev pub found_origin : Step (Option T) → Holder T E O → ℕ → Holder T E O → Type 0
    found_origin st m found m' = (x : T) → m.0.stage ≡ Fresh x → (o : O) × (m' ≡ (founded o m.0, m.1)) × stands x o []

    -- a pass whose ticket is served keeps the history so far, which has an event for each ticket below, in their order
    abbrev pub looked : Step (Option T) → Holder T E O → ℕ → Holder T E O → Type 0
    looked st m found m' = (t : ℕ) → m.0.stage ≡ Waiting t
        → (found ≡ t → (kept : List E) × (m' ≡ (at (Called t kept) m.0, m.1)) × IsPrefix m.0.seen kept × (length kept ≡ t) × IsNumbered ticket 0 kept)
        × (found ≢ t → m' ≡ m)

    abbrev pub took : Step (Option T) → Holder T E O → ℕ → Holder T E O → Type 0
    took st m found m' = (t : ℕ) (kept : List E) → m.0.stage ≡ Called t kept
        → (x : T) × (m' ≡ (at (Inside t kept) m.0, (0, Some x) ∷ m.1)) × StandsFrom stands m.0.origin x kept

    -- one event more, with the ticket of this turn, for which the value stands
    abbrev pub AddsOne : Option O → ℕ → List E → T → E → Type 0
    AddsOne origin t kept x e = (ticket e ≡ t) × StandsFrom stands origin x (kept ++ e ∷ [])

    -- and what is told of it holds
    abbrev pub added : (E → Type 0) → Step (Option T) → Holder T E O → ℕ → Holder T E O → Type 0
    added told st m found m' = (t : ℕ) (kept : List E) (x : T) → m.0.stage ≡ Inside t kept → m.1 ≡ (0, Some x) ∷ []
        → (e : E) × AddsOne m.0.origin t kept x e × told e × (m' ≡ (counted t (kept ++ e ∷ []) m.0, m.1))
