use Rattle.std.proofs.Common.{◌<◌, arith, length, refl, get_or}
use Rattle.rk_model.specs.Cuts.{cut_copied}
use Rattle.rk_model.specs.Items.{span_takes}
use Rattle.rk_spanmerge.specs.Moves.{IsFacing, StandsAt}
use Rattle.rk_spanmerge.proofs.Calls.{one_passed, one_refused, same_set, sought, costs_free}
use Rattle.rk_spanmerge.proofs.all.seek_all.Goals as goal

pub loop-source-preserved : goal.loop-source-preserved
loop-source-preserved g c =
    let within : c.loop-source.source-index < length c.loop-source.sources = omega arith in
    let e = c.source-item.result in
    let was = get_or c.loop-source.sources c.loop-source.source-index e in
    one_passed g.S.Sorted.listing g.S.Sorted.standing (λ s t. IsFacing c.args.forward (g.S.Sorted.standing t) × StandsAt (span_takes c.args.forward (cut_copied c.args.cut)) (g.S.Sorted.listing t) (g.S.Sorted.standing t))
    c.args.sources.now c.loop-source.sources c.loop-source.source-index c.seek.new.self e _ _ _ _ within c.loop-source.invariant
    (sought c.args.forward (span_takes c.args.forward (cut_copied c.args.cut)) (g.S.Sorted.listing was) (g.S.Sorted.listing c.seek.new.self) (g.S.Sorted.standing c.seek.new.self) _ c.in_ok-seek.ensures.leads) c.seek.ensures.leads.same
    (costs_free _ _ _ _ _ _ _ _ ((g.met.S.Source.once was refl).seek c.args.forward (cut_copied c.args.cut)) c.in_ok-seek.ensures.costs)

pub returns-in_err-seek-clause-same : goal.returns-in_err-seek-clause-same
returns-in_err-seek-clause-same g c =
    same_set g.S.Sorted.listing g.S.Sorted.standing _ c.args.sources.now c.loop-source.sources c.loop-source.source-index c.seek.new.self c.source-item.result _ _ c.loop-source.invariant c.seek.ensures.leads.same

pub returns-in_err-seek-clause-pays : goal.returns-in_err-seek-clause-pays
returns-in_err-seek-clause-pays g c =
    let within : c.loop-source.source-index < length c.loop-source.sources = omega arith in
    let was = get_or c.loop-source.sources c.loop-source.source-index c.source-item.result in
    one_refused g.S.Sorted.listing g.S.Sorted.standing {T = Unit {0}} _ c.args.sources.now c.loop-source.sources c.loop-source.source-index c.seek.new.self c.source-item.result _ _ _ c.in_err-seek.field-0.0 _ within c.loop-source.invariant
    (costs_free _ _ _ _ _ _ _ _ ((g.met.S.Source.once was refl).seek c.args.forward (cut_copied c.args.cut)) c.in_err-seek.ensures.costs) c.from_residual.ensures.1
