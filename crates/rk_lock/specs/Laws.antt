-- What the rule says of tickets and of the last pass.
use Rattle.std.specs.Prelude.{◌≡◌, ◌≢◌, ℕ, ◌<◌, List, [], Option, Some}
use mathlib.Core.Option as maybe
use lib.ListN.{get_elem?}
use Rattle.atomic_table.specs.Table.{State}
use Rattle.rk_lock.specs.declared.view.View.{View}
use Rattle.rk_lock.specs.declared.view.Stage.TheVariants.{Outside, Spent}
use Rattle.rk_lock.specs.Histories.{Among, IsPrefix, IsNumbered}
use Rattle.rk_lock.specs.Rule.{Ruled}

module _ {T E O : Type 0} where
  -- the pass that `new` made is outside, and none is out with it
  pub record IsAlone (views : List (View T E O)) (id : ℕ) (v : View T E O) : Type 0 where
    pub here : get_elem? views id ≡ maybe.some v
    pub outside : v.stage ≡ Outside
    pub first : v.name ≡ []
    pub none_out : v.out ≡ []

  module _ (ticket : E → ℕ) (stands : T → O → List E → Type 0) where
    -- no ticket belongs to two passes
    abbrev pub TicketsApart : Type 0
    TicketsApart = (s : State (Option T) (View T E O)) → Ruled ticket stands s → (i j : ℕ) (u v : View T E O) (t : ℕ)
        → get_elem? s.views i ≡ maybe.some u → get_elem? s.views j ≡ maybe.some v → Among t u.tickets → Among t v.tickets → i ≡ j

    -- where the first pass is alone, all others were taken back, it has every ticket that was drawn, and every event has one of them
    abbrev pub LastHasAll : Type 0
    LastHasAll = (s : State (Option T) (View T E O)) (r : Ruled ticket stands s) (id : ℕ) (v : View T E O) → IsAlone s.views id v
        → ((j : ℕ) (u : View T E O) → get_elem? s.views j ≡ maybe.some u → j ≢ id → u.stage ≡ Spent)
        × ((t : ℕ) → t < r.next → Among t v.tickets) × ((e : E) → Among e r.log → Among (ticket e) v.tickets)

    -- There is one history, whose events have the tickets 0, 1, .. in their order. What each pass has seen begins it, and all
    -- passes have one origin
    abbrev pub OneHistory : Type 0
    OneHistory = (s : State (Option T) (View T E O)) (r : Ruled ticket stands s) → IsNumbered ticket 0 r.log
        × ((j : ℕ) (v : View T E O) → get_elem? s.views j ≡ maybe.some v → IsPrefix v.seen r.log)
        × ((j : ℕ) (v : View T E O) → get_elem? s.views j ≡ maybe.some v → v.stage ≡ Outside → v.origin ≡ Some r.origin)
