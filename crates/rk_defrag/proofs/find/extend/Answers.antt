use Rattle.std.proofs.Common.{ap, sym, subst, ◌∙◌, Some, None, refl, option_copied}
use Rattle.rk_defrag.specs.Moves.{Extends, ExtendsTo, with_next}
use Rattle.rk_defrag.proofs.Runs.{extends_none, extends_on, extends_stops, extends_ends}
use Rattle.rk_defrag.proofs.Walks.{Walks, walk_here, walk_on, walk_none}
use Rattle.rk_defrag.proofs.find.extend.Goals as goal

pub loop-span-init : goal.loop-span-init
loop-span-init g c = walk_none g.S.Sorted.listing g.S.Sorted.standing c.args.forward c.args.source.now (g.R.Counting.counts c.args.reader.now) (λ xs at at'. Extends c.args.forward c.args.n xs c.args.run c.args.run at at') c.requires.faces (λ xs at. extends_none c.args.forward c.args.n xs c.args.run at)

pub loop-span-preserved : goal.loop-span-preserved
loop-span-preserved g c =
    let s = c.loop-span.source in
    let run = c.args.run in
    subst (λ w. Walks c.args.forward g.S.Sorted.listing g.S.Sorted.standing c.args.source.now c.step.new.self (g.R.Counting.counts c.args.reader.now) (g.R.Counting.counts c.step.new.reader) (λ xs at at'. Extends c.args.forward c.args.n xs run w at at')) (sym c.in_ok-wide.ensures)
    (walk_on g.S.Sorted.listing g.S.Sorted.standing c.args.forward c.args.source.now s _ _ (λ xs at at'. Extends c.args.forward c.args.n xs run c.loop-span.wide at at') c.loop-span.invariant
    c.step.new.self (g.R.Counting.counts c.step.new.reader) (λ xs at at'. Extends c.args.forward c.args.n xs run (with_next c.args.forward c.loop-span.wide c.in-Some.span.now) at at') c.in-Some.span.now _
    (g.met.S.Source.told s.source) (g.met.S.Source.once s.source refl) (sym c.here.ensures ∙ ap option_copied c.in-Some.is)
    c.in_ok-step.ensures.leads c.in_ok-step.ensures.costs c.in_ok-step.ensures.fewer c.in_ok-step.ensures.kept
    (λ xs at at' e is. extends_on c.args.forward c.args.n xs run c.loop-span.wide at at' c.in-Some.span.now e is (sym c.in_ok-goes_on.ensures ∙ c.if-not-branch.false)))

pub returns-then-not-branch-clause-extends : goal.returns-then-not-branch-clause-extends
returns-then-not-branch-clause-extends g c =
    let s = c.loop-span.source in
    walk_here g.S.Sorted.listing g.S.Sorted.standing c.args.forward c.args.source.now s _ _ (λ xs at at'. Extends c.args.forward c.args.n xs c.args.run c.loop-span.wide at at') c.loop-span.invariant
    (λ xs at at'. ExtendsTo c.args.forward c.args.n xs c.args.run c.loop-span.wide at at') (Some c.in-Some.span.now) (g.met.S.Source.told s.source) (sym c.here.ensures ∙ ap option_copied c.in-Some.is)
    (λ xs at at' held e le is. extends_stops c.args.forward c.args.n xs c.args.run c.loop-span.wide at at' c.in-Some.span.now e is (sym c.in_ok-goes_on.ensures ∙ c.if-not-branch.true))

pub returns-clause-extends : goal.returns-clause-extends
returns-clause-extends g c =
    let s = c.loop-span.source in
    walk_here g.S.Sorted.listing g.S.Sorted.standing c.args.forward c.args.source.now s _ _ (λ xs at at'. Extends c.args.forward c.args.n xs c.args.run c.loop-span.wide at at') c.loop-span.invariant
    (λ xs at at'. ExtendsTo c.args.forward c.args.n xs c.args.run c.loop-span.wide at at') None (g.met.S.Source.told s.source) (sym c.here.ensures ∙ ap option_copied c.in_default.is)
    (λ xs at at' held e le is. extends_ends c.args.forward c.args.n xs c.args.run c.loop-span.wide at at' e is)
