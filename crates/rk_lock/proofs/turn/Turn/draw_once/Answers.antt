use Rattle.std.proofs.Common.{rules, ◌+◌, ◌<◌, ◌^◌, arith, ap}
use Rattle.rk_lock.proofs.Steps.{draws}
use Rattle.rk_lock.proofs.turn.Turn.draw_once.Goals as goal

pub compare_exchange-requires : goal.compare_exchange-requires
compare_exchange-requires g c = (search rules, search rules, draws _ _ _ _ _ _ c.requires.1.0 (let l : c.args.next + 1 < 2 ^ 64 = c.requires.2 in omega arith))

pub returns-clause-hit : goal.returns-clause-hit
returns-clause-hit g c hit = let h = c.compare_exchange.ensures.2.0 hit in (ap (λ m. m.0) h.0, h.1)
