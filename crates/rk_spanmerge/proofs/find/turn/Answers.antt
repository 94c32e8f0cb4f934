use Rattle.std.proofs.Common.{sym, map, subst}
use Rattle.rk_spanmerge.specs.Moves.{takes}
use Rattle.rk_spanmerge.proofs.Found.{if_ok_map, IsFound, IsEnd, left_is_end}
use Rattle.rk_spanmerge.proofs.find.turn.Goals as goal

pub find_from-requires : goal.find_from-requires
find_from-requires g c =
    subst (IsEnd (map g.S.Sorted.listing c.args.sources.now)) (sym c.left_end.ensures) (left_is_end g.S.Sorted.listing g.S.Sorted.standing g.met.S.Source.ordered c.args.sources.now c.args.span.now c.args.forward c.requires)

pub returns-clause-found : goal.returns-clause-found
returns-clause-found g c =
    if_ok_map c.find_from.result c.find_from.ensures.found (λ found w. subst (λ z. IsFound (map g.S.Sorted.listing c.args.sources.now) c.args.forward (takes c.args.forward z) found) c.left_end.ensures w)
