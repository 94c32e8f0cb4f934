-- What each step does to the view of its pass.
use Rattle.std.specs.Prelude.{ℕ, ◌+◌, Bool, true, false, List, [], ◌∷◌, ◌++◌, Some, None, if◌then◌else◌}
use Rattle.rk_lock.specs.declared.view.View.{View}
use Rattle.rk_lock.specs.declared.view.Stage.{Stage}
use Rattle.rk_lock.specs.declared.view.Stage.TheVariants.{Fresh, Outside, Waiting, Called, Inside, Counted, Returned, Spent}
use Rattle.rk_lock.specs.Histories.{longer, shorter, without, hits, total}

module _ {T E : Type 0} where
  -- the ticket of the turn, and the history that the pass keeps
  abbrev pub ticket_of : Stage T E → ℕ
  ticket_of (Waiting t) = t
  ticket_of (Called t kept) = t
  ticket_of (Inside t kept) = t
  ticket_of (Counted t) = t
  ticket_of (Returned t) = t
  ticket_of _ = 0

  abbrev pub kept_of : Stage T E → List E
  kept_of (Called t kept) = kept
  kept_of (Inside t kept) = kept
  kept_of _ = []

  abbrev pub is_live : Stage T E → Bool
  is_live Spent = false
  is_live _ = true

module _ {T E O : Type 0} where
  -- the first pass of a lock around x
  abbrev pub fresh : T → View T E O
  fresh x = record { origin = None; seen = []; noted = []; tickets = []; name = []; splits = 0; out = []; stage = Fresh x }

  -- a pass that was taken back
  abbrev pub spent : View T E O
  spent = record { origin = None; seen = []; noted = []; tickets = []; name = []; splits = 0; out = []; stage = Spent }

  abbrev pub founded : O → View T E O → View T E O
  founded o v = record v { origin = Some o; stage = Outside }

  -- a ticket is drawn
  abbrev pub drawn : ℕ → View T E O → View T E O
  drawn t v = record v { tickets = t ∷ v.tickets; stage = Waiting t }

  abbrev pub at : Stage T E → View T E O → View T E O
  at stage v = record v { stage = stage }

  -- the event is counted, and seen
  abbrev pub counted : ℕ → List E → View T E O → View T E O
  counted t history v = record v { seen = history; stage = Counted t }

  -- a pass is split off
  abbrev pub new_name : View T E O → List ℕ
  new_name v = v.splits ∷ v.name

  abbrev pub split_from : View T E O → View T E O
  split_from v = record v { splits = v.splits + 1; out = new_name v ∷ v.out }

  abbrev pub split_off : View T E O → View T E O
  split_off v = record { origin = v.origin; seen = v.seen; noted = []; tickets = []; name = new_name v; splits = 0; out = []; stage = Outside }

  -- w is taken back by v
  abbrev pub joined : View T E O → View T E O → View T E O
  joined v w = record v { seen = longer v.seen w.seen; noted = shorter v.seen w.seen; tickets = v.tickets ++ w.tickets; out = without w.name v.out ++ w.out }

  abbrev pub compared : View T E O → View T E O
  compared v = record v { noted = [] }

  -- whether the pass is live and has this name, other than the first pass's
  abbrev pub named : List ℕ → View T E O → ℕ
  named n v = if is_live v.stage then hits n v.name else 0

  -- how often the name is among those that are out
  abbrev pub times_out : List ℕ → View T E O → ℕ
  times_out n v = total (hits n) v.out
