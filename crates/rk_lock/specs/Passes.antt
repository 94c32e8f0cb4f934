-- What contracts say of a pass, and what a turn does to it.
use Rattle.std.specs.Prelude.{◌≡◌, ℕ, List, [], ◌∷◌, Some, None}
use Rattle.rk_lock.specs.declared.view.View.{View}
use Rattle.rk_lock.specs.declared.view.Stage.TheVariants.{Outside, Called, Inside}
use Rattle.rk_lock.specs.declared.turn.Pass.{Pass}
use Rattle.rk_lock.specs.declared.turn.Turn.{Turn}
use Rattle.rk_lock.specs.Views.{at, drawn, ticket_of, kept_of}
use Rattle.rk_lock.specs.Plays.{AddsOne}

module _ {T E O : Type 0} where
  -- what the pass knows
  abbrev pub view : Pass T E O → View T E O
  view p = p.seat.me.0

  -- the pass is of this lock
  abbrev pub IsOf : Turn T E O → Pass T E O → Type 0
  IsOf lock p = p.seat.table_id ≡ lock.table.shared.table_id

  abbrev pub IsOutside : Pass T E O → Type 0
  IsOutside p = ((view p).stage ≡ Outside) × (p.seat.me.1 ≡ [])

  abbrev pub IsInside : Pass T E O → Type 0
  IsInside p = ((view p).stage ≡ Inside (ticket_of (view p).stage) (kept_of (view p).stage)) × (p.seat.me.1 ≡ (0, None) ∷ [])

  -- the pass's ticket is served
  abbrev pub IsCalled : View T E O → Type 0
  IsCalled v = v.stage ≡ Called (ticket_of v.stage) (kept_of v.stage)

  -- the first pass: it has this origin, and has seen nothing
  abbrev pub first_of : O → View T E O
  first_of o = record { origin = Some o; seen = []; noted = []; tickets = []; name = []; splits = 0; out = []; stage = Outside }

  -- the pass was inside, and has now seen this history
  abbrev pub left : List E → View T E O → View T E O
  left history v = record v { seen = history; stage = Outside }

  -- q is the pass p after some turns, outside, with the same passes out
  abbrev pub ComesBack : Turn T E O → Pass T E O → Pass T E O → Type 0
  ComesBack lock p q = IsOf lock q × IsOutside q × ((view q).name ≡ (view p).name) × ((view q).out ≡ (view p).out)

  -- the ticket of the pass's turn, and the history that it keeps while it is inside
  abbrev pub turn_ticket : Pass T E O → ℕ
  turn_ticket p = ticket_of (view p).stage

  abbrev pub kept : Pass T E O → List E
  kept p = kept_of (view p).stage

  -- the pass has drawn the ticket t and has its turn, and keeps this history
  abbrev pub entered : ℕ → List E → View T E O → View T E O
  entered t history v = at (Inside t history) (drawn t v)

  -- The value x stands for the history that the pass keeps and one event more, which has the ticket of its turn
  abbrev pub Adds : (E → ℕ) → (T → O → List E → Type 0) → View T E O → T → E → Type 0
  Adds ticket stands v x e = AddsOne ticket stands v.origin (ticket_of v.stage) (kept_of v.stage) x e
