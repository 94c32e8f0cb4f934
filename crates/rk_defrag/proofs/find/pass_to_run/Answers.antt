use Rattle.std.proofs.Common.{ap, sym, ◌∙◌, None, refl, option_copied}
use Rattle.rk_defrag.specs.Moves.{AllBareOver, Passed, end_of}
use Rattle.rk_defrag.proofs.Walks.{PassesBare, passed_all, passed_run, walk_here, walk_on}
use Rattle.rk_defrag.proofs.find.pass_to_run.Goals as goal

pub returns-then-is_some-clause-found : goal.returns-then-is_some-clause-found
returns-then-is_some-clause-found g c =
    let s = c.loop-span.source in
    (walk_on g.S.Sorted.listing g.S.Sorted.standing c.args.forward c.args.source.now s _ _ (PassesBare c.args.forward c.args.n) c.loop-span.invariant
    c.step.new.self (g.R.Counting.counts c.step.new.reader) (λ xs from at. Passed c.args.forward c.args.n xs from at c.in_ok-run.run') c.in-Some.span.now _
    (g.met.S.Source.told s.source) (g.met.S.Source.once s.source refl) (sym c.here.ensures ∙ ap option_copied c.in-Some.is)
    c.in_ok-step.ensures.leads c.in_ok-step.ensures.costs c.in_ok-step.ensures.fewer c.in_ok-step.ensures.kept
    (λ xs from at p is. passed_run c.args.forward c.args.n xs from at c.in-Some.span.now c.in_ok-run.run' c.in_ok-run.ensures (sym c.is_some.ensures ∙ c.if-is_some.true) p is)).goes

pub returns-clause-found : goal.returns-clause-found
returns-clause-found g c =
    let s = c.loop-span.source in
    walk_here g.S.Sorted.listing g.S.Sorted.standing c.args.forward c.args.source.now s _ _ (PassesBare c.args.forward c.args.n) c.loop-span.invariant
    (λ xs from at. AllBareOver c.args.forward c.args.n xs from (end_of c.args.forward xs)) None (g.met.S.Source.told s.source) (sym c.here.ensures ∙ ap option_copied c.in_default.is)
    (λ xs from at held p le is. passed_all c.args.forward c.args.n xs from at p le is)
