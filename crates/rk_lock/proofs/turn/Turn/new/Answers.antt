use Rattle.std.proofs.Common.{rules, [], ◌∷◌, List, Option, sym, ap, subst}
use Rattle.atomic_table.specs.Table.{opening}
use Rattle.rk_lock.specs.Views.{fresh}
use Rattle.rk_lock.specs.Rule.{Ruled}
use Rattle.rk_lock.proofs.Steps.{opens, founds}
use Rattle.rk_lock.proofs.turn.Turn.new.Goals as goal

pub new-requires : goal.new-requires
new-requires g c = let o = c.requires in
    subst (λ (z : List (Option g.row.T.Denot) × g.row.T.Denot). Ruled g.T.Kept.ticket g.T.Kept.stands (opening (0 ∷ 0 ∷ 0 ∷ []) z.0 (fresh z.1)))
    (λ i. (sym c.in_ok-slots.ensures.ok i, sym c.of-about.ensures i)) (opens _ _ c.args.value o.0 o.1)

pub load-requires : goal.load-requires
load-requires g c = (search rules, search rules, founds _ _ _ _ _ _ (ap (λ m. m.0.stage) c.in-Ok.ensures.ok.4))
