use Rattle.std.proofs.Common.{rules, ap}
use Rattle.rk_lock.proofs.Steps.{counts}
use Rattle.rk_lock.proofs.turn.Turn.count.Goals as goal

pub fetch_add-requires : goal.fetch_add-requires
fetch_add-requires g c = (search rules, search rules, counts _ _ _ _ _ _ _ _ g.J.Telling.told c.requires.pass.1 c.requires.event.1 c.requires.event.2)

pub returns-clause-pass : goal.returns-clause-pass
returns-clause-pass g c = let a = c.fetch_add.ensures.2 _ _ _ c.requires.pass.1 c.requires.event.1 in (search rules, ap (λ m. m.1) a.3)

pub returns-clause-event : goal.returns-clause-event
returns-clause-event g c x is = let a = c.fetch_add.ensures.2 _ _ x c.requires.pass.1 is in (a.0, a.1, a.2, ap (λ m. m.0) a.3)
