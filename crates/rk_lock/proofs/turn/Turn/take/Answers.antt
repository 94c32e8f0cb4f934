use Rattle.std.proofs.Common.{rules, ◌∷◌, Some, sym, ap, ◌∙◌}
use Rattle.atomic_table.specs.Table.{rest}
use Rattle.rk_lock.proofs.turn.Turn.take.Goals as goal

pub exchange-requires : goal.exchange-requires
exchange-requires g c = let t = c.take_slot.ensures.taken in (search rules, (Some t.0, t.1 ∙ ap (λ cs. (0, Some t.0) ∷ cs) (sym (ap rest t.1))))
