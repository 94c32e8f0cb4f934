use Rattle.std.proofs.Common.{◌<◌, arith, length}
use Rattle.rk_spanmerge.specs.Moves.{Passed}
use Rattle.rk_spanmerge.proofs.Calls.{one_passed, one_refused, same_set}
use Rattle.rk_spanmerge.proofs.all.pass_all.Goals as goal

pub pass_one-requires : goal.pass_one-requires
pass_one-requires g c =
    let i = c.loop-source.source-index in
    let e = c.source-item.result in
    rw (c.loop-source.invariant.left i e (omega arith)) (c.requires i e (omega arith))

pub loop-source-preserved : goal.loop-source-preserved
loop-source-preserved g c =
    let within : c.loop-source.source-index < length c.loop-source.sources = omega arith in
    let i = c.loop-source.source-index in
    let e = c.source-item.result in
    let left = c.loop-source.invariant.left i e (omega arith) in
    one_passed g.S.Sorted.listing g.S.Sorted.standing (λ s t. Passed c.args.forward c.args.key.now (g.S.Sorted.listing s) (g.S.Sorted.standing s) (g.S.Sorted.standing t))
    c.args.sources.now c.loop-source.sources i c.pass_one.new.source e _ _ _ _ within c.loop-source.invariant c.in_ok-pass_one.ensures.passed c.pass_one.ensures.same c.in_ok-pass_one.ensures.costs

pub returns-in_err-pass_one-clause-same : goal.returns-in_err-pass_one-clause-same
returns-in_err-pass_one-clause-same g c =
    same_set g.S.Sorted.listing g.S.Sorted.standing _ c.args.sources.now c.loop-source.sources c.loop-source.source-index c.pass_one.new.source c.source-item.result _ _ c.loop-source.invariant c.pass_one.ensures.same

pub returns-in_err-pass_one-clause-pays : goal.returns-in_err-pass_one-clause-pays
returns-in_err-pass_one-clause-pays g c =
    let within : c.loop-source.source-index < length c.loop-source.sources = omega arith in
    one_refused g.S.Sorted.listing g.S.Sorted.standing {T = Unit {0}} _ c.args.sources.now c.loop-source.sources c.loop-source.source-index c.pass_one.new.source c.source-item.result _ _ _ c.in_err-pass_one.field-0.0 _ within c.loop-source.invariant c.in_err-pass_one.ensures.costs c.from_residual.ensures.1
