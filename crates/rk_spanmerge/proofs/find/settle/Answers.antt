use Rattle.std.proofs.Common.{ap, sym, ◌∙◌, IfSome, subst}
use Rattle.std.specs.Option.{option_copied}
use Rattle.rk_spanmerge.specs.Moves.{IsSeenEnd}
use Rattle.rk_spanmerge.proofs.Chains.{past_itself, past_back}
use Rattle.rk_spanmerge.proofs.Found.{if_ok_map, if_ok_both, stand_found, reaches_from, found_once, found_nowhere, found_beyond, stand_beyond}
use Rattle.rk_spanmerge.proofs.find.settle.Goals as goal

pub returns-then-is_some-clause-found : goal.returns-then-is_some-clause-found
returns-then-is_some-clause-found g c =
    found_once g.S.Sorted.listing g.S.Sorted.standing g.met.S.Source.ordered c.args.sources.now c.args.forward c.args.key.now c.in_ok-shown.shown (sym c.is_some.ensures ∙ c.if-is_some.true) c.requires.end c.in_ok-shown.ensures.ok

pub returns-then-is_some-clause-stands : goal.returns-then-is_some-clause-stands
returns-then-is_some-clause-stands g c = stand_found g.S.Sorted.listing g.S.Sorted.standing c.args.sources.now c.args.forward c.args.key.now c.in_ok-shown.shown c.in_ok-shown.ensures.from c.requires.stands

pub returns-then-is_some-clause-reaches : goal.returns-then-is_some-clause-reaches
returns-then-is_some-clause-reaches g c =
    reaches_from g.S.Sorted.listing g.S.Sorted.standing c.args.sources.now c.args.forward c.args.key.now c.args.key.now c.in_ok-shown.shown (past_itself c.args.forward c.args.key.now) c.in_ok-shown.ensures.from c.in_ok-shown.ensures.seen

pub show-requires-in-Some-clause-stands : goal.show-requires-in-Some-clause-stands
show-requires-in-Some-clause-stands g c =
    stand_beyond g.S.Sorted.listing g.S.Sorted.standing g.met.S.Source.ordered c.args.sources.now c.args.forward c.args.key.now c.in-Some.end.now (option_copied c.nearest_end.result) c.in_ok-shown.shown (ap option_copied c.in-Some.is) (sym c.is_some.ensures ∙ c.if-is_some.false) c.nearest_end.ensures.nearest c.in_ok-shown.ensures.ok c.requires.stands

pub returns-in-Some-clause-found : goal.returns-in-Some-clause-found
returns-in-Some-clause-found g c =
    if_ok_map c.show-in-Some.result c.show-in-Some.ensures.ok (λ found w.
    found_beyond g.S.Sorted.listing g.S.Sorted.standing g.met.S.Source.ordered c.args.sources.now c.args.forward c.args.key.now c.in-Some.end.now (option_copied c.nearest_end.result) c.in_ok-shown.shown found (ap option_copied c.in-Some.is) (sym c.is_some.ensures ∙ c.if-is_some.false) c.nearest_end.ensures.nearest c.in_ok-shown.ensures.ok w)

pub returns-in-Some-clause-stands : goal.returns-in-Some-clause-stands
returns-in-Some-clause-stands g c =
    let stands = stand_beyond g.S.Sorted.listing g.S.Sorted.standing g.met.S.Source.ordered c.args.sources.now c.args.forward c.args.key.now c.in-Some.end.now (option_copied c.nearest_end.result) c.in_ok-shown.shown (ap option_copied c.in-Some.is) (sym c.is_some.ensures ∙ c.if-is_some.false) c.nearest_end.ensures.nearest c.in_ok-shown.ensures.ok c.requires.stands in
    if_ok_map c.show-in-Some.result c.show-in-Some.ensures.from (λ found w. stand_found g.S.Sorted.listing g.S.Sorted.standing c.args.sources.now c.args.forward c.in-Some.end.now found w stands)

pub returns-in-Some-clause-reaches : goal.returns-in-Some-clause-reaches
returns-in-Some-clause-reaches g c =
    let seen = subst (λ o. IfSome o (IsSeenEnd g.S.Sorted.standing c.args.sources.now c.args.forward c.args.key.now)) (ap option_copied c.in-Some.is) c.nearest_end.ensures.seen in
    if_ok_both c.show-in-Some.result c.show-in-Some.ensures.from c.show-in-Some.ensures.seen
    (λ found. reaches_from g.S.Sorted.listing g.S.Sorted.standing c.args.sources.now c.args.forward c.args.key.now c.in-Some.end.now found (past_back c.args.forward c.args.key.now c.in-Some.end.now seen.past))

pub returns-clause-found : goal.returns-clause-found
returns-clause-found g c =
    found_nowhere g.S.Sorted.listing g.S.Sorted.standing g.met.S.Source.ordered c.args.sources.now c.args.forward c.args.key.now (option_copied c.nearest_end.result) (ap option_copied c.in-None.is) c.nearest_end.ensures.nearest
