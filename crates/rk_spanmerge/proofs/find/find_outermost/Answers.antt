use Rattle.std.proofs.Common.{ap, map, None, All, sym, subst}
use Rattle.std.specs.Option.{option_copied}
use Rattle.std.proofs.lemmas.Option.{IfSome_then}
use Rattle.rk_spanmerge.specs.Merges.{united}
use Rattle.rk_model.specs.Cuts.{cut_copied}
use Rattle.rk_spanmerge.specs.Moves.{StandsAt, outside}
use Rattle.rk_spanmerge.proofs.Pools.{if_told}
use Rattle.rk_spanmerge.proofs.Found.{outer_is, IsFound, IsOuter, outer_stands, outer_found, outer_nowhere, arrives_at}
use Rattle.rk_spanmerge.proofs.find.find_outermost.Goals as goal

pub outermost-requires-clause-stands : goal.outermost-requires-clause-stands
outermost-requires-clause-stands g c =
    let test = sym (outer_is c.args.forward (cut_copied c.outer_cut.result) c.outer_cut.ensures) in
    if_told _ (λ xs u. subst (λ t. All (λ s. StandsAt t (g.S.Sorted.listing s) (g.S.Sorted.standing s)) c.seek_all.new.sources) test c.in_ok-seek_all.ensures.stands)

pub settle-requires-clause-stands : goal.settle-requires-clause-stands
settle-requires-clause-stands g c =
    let news = c.seek_all.new.sources in
    let test = sym (outer_is c.args.forward (cut_copied c.outer_cut.result) c.outer_cut.ensures) in
    outer_stands g.S.Sorted.listing g.S.Sorted.standing g.met.S.Source.ordered news c.args.forward c.in-Some.key.now (option_copied c.outermost.result) (ap option_copied c.in-Some.is) c.outermost.ensures
    (if_told _ (λ xs u. subst (λ t. All (λ s. StandsAt t (g.S.Sorted.listing s) (g.S.Sorted.standing s)) news) test c.in_ok-seek_all.ensures.stands))

pub settle-requires-clause-end : goal.settle-requires-clause-end
settle-requires-clause-end g c =
    let ls = map g.S.Sorted.listing c.seek_all.new.sources in
    IfSome_then (united ls) (subst (IsOuter ls c.args.forward) (ap option_copied c.in-Some.is) c.outermost.ensures) (λ xs o. o.among.0)

pub returns-in_ok-settle-in-Some-clause-found : goal.returns-in_ok-settle-in-Some-clause-found
returns-in_ok-settle-in-Some-clause-found g c =
    let news = c.seek_all.new.sources in
    subst (λ ls. IsFound ls c.args.forward (outside c.args.forward) c.in_ok-settle-in-Some.field-0) c.seek_all.ensures.same
    (outer_found g.S.Sorted.listing g.S.Sorted.standing g.met.S.Source.ordered news c.args.forward c.in-Some.key.now (option_copied c.outermost.result) c.in_ok-settle-in-Some.field-0 (ap option_copied c.in-Some.is) c.outermost.ensures c.in_ok-settle-in-Some.ensures.found)

pub returns-in_ok-settle-in-Some-clause-arrives : goal.returns-in_ok-settle-in-Some-clause-arrives
returns-in_ok-settle-in-Some-clause-arrives g c =
    arrives_at g.S.Sorted.listing g.S.Sorted.standing c.seek_all.new.sources c.args.forward c.in-Some.key.now c.in_ok-settle-in-Some.field-0 c.in_ok-seek_all.ensures.faces c.in_ok-settle-in-Some.ensures.stands c.in_ok-settle-in-Some.ensures.reaches

pub returns-in-None-clause-found : goal.returns-in-None-clause-found
returns-in-None-clause-found g c =
    let news = c.seek_all.new.sources in
    subst (λ ls. IsFound ls c.args.forward (outside c.args.forward) None) c.seek_all.ensures.same (outer_nowhere g.S.Sorted.listing g.S.Sorted.standing g.met.S.Source.ordered news c.args.forward (option_copied c.outermost.result) (ap option_copied c.in-None.is) c.outermost.ensures)
