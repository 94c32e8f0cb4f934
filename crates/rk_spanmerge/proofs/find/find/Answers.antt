use Rattle.std.proofs.Common.{◌∙◌, sym, not, map, subst}
use Rattle.rk_spanmerge.specs.Moves.{takes}
use Rattle.rk_spanmerge.proofs.Found.{if_ok_map, IsFound, IsNear, IsEnd, found_nowhere, found_sought, sought_end}
use Rattle.rk_spanmerge.proofs.find.find.Goals as goal

pub returns-in_default-clause-found : goal.returns-in_default-clause-found
returns-in_default-clause-found g c = found_nowhere g.S.Sorted.listing g.S.Sorted.standing g.met.S.Source.ordered c.args.sources.now c.args.forward c.args.key.now c.in_ok-end.field-0 c.in_default.is c.in_ok-end.ensures.ok

pub find_from-requires : goal.find_from-requires
find_from-requires g c =
    let ls = map g.S.Sorted.listing c.args.sources.now in
    let one = subst (IsNear ls c.args.forward c.args.key.now) c.in-Some.is c.in_ok-end.ensures.ok in
    let two = subst (λ ms. IsNear ms (not c.args.forward) c.in-Some.end c.in_ok-find_end.field-0) c.find_end.ensures.same c.in_ok-find_end.ensures.ok in
    let end = sought_end g.S.Sorted.listing g.S.Sorted.standing g.met.S.Source.ordered c.args.sources.now c.args.forward c.args.key.now c.in-Some.end c.in_ok-find_end.field-0 one two in
    subst (λ ms. IsEnd ms c.unwrap_or-from.result) (sym (c.find_end-2.ensures.same ∙ c.find_end.ensures.same)) (subst (IsEnd ls) (sym c.unwrap_or-from.ensures) end)

pub returns-clause-found : goal.returns-clause-found
returns-clause-found g c =
    let ls = map g.S.Sorted.listing c.args.sources.now in
    let forward = c.args.forward in
    let one = subst (IsNear ls forward c.args.key.now) c.in-Some.is c.in_ok-end.ensures.ok in
    let two = subst (λ ms. IsNear ms (not forward) c.in-Some.end c.in_ok-find_end.field-0) c.find_end.ensures.same c.in_ok-find_end.ensures.ok in
    if_ok_map c.find_from.result c.find_from.ensures.found (λ found w.
    found_sought g.S.Sorted.listing g.S.Sorted.standing g.met.S.Source.ordered c.args.sources.now forward c.args.key.now c.in-Some.end c.in_ok-find_end.field-0 found one two
    (subst (λ z. IsFound ls forward (takes forward z) found) c.unwrap_or-from.ensures (subst (λ ms. IsFound ms forward (takes forward c.unwrap_or-from.result) found) (c.find_end-2.ensures.same ∙ c.find_end.ensures.same) w)))
