use Rattle.std.proofs.Common.{sym, subst}
use Rattle.rk_spanmerge.specs.Moves.{takes}
use Rattle.rk_spanmerge.proofs.Pools.{if_told}
use Rattle.rk_spanmerge.proofs.Found.{IsFound, IsEnd, arrives_at}
use Rattle.rk_spanmerge.proofs.find.find_from.Goals as goal

pub settle-requires-clause-stands : goal.settle-requires-clause-stands
settle-requires-clause-stands g c = if_told _ (λ xs u. c.in_ok-seek_all.ensures.stands)

pub settle-requires-clause-end : goal.settle-requires-clause-end
settle-requires-clause-end g c = subst (λ ls. IsEnd ls c.args.key.now) (sym c.seek_all.ensures.same) c.requires

pub returns-clause-found : goal.returns-clause-found
returns-clause-found g c = subst (λ ls. IsFound ls c.args.forward (takes c.args.forward c.args.key.now) c.in_ok-settle.field-0) c.seek_all.ensures.same c.in_ok-settle.ensures.found

pub returns-clause-arrives : goal.returns-clause-arrives
returns-clause-arrives g c = arrives_at g.S.Sorted.listing g.S.Sorted.standing c.seek_all.new.sources c.args.forward c.args.key.now c.in_ok-settle.field-0 c.in_ok-seek_all.ensures.faces c.in_ok-settle.ensures.stands c.in_ok-settle.ensures.reaches
