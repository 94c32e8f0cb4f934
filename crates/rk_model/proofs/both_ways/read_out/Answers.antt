use Rattle.std.proofs.Common.{◌≡◌, ℕ, Bool, ◌+◌, Ok, Err, Some, sym, ap, ◌∙◌, subst, arith}
use Rattle.std.specs.Prelude.{IfSome}
use Rattle.std.specs.Option.{option_copied, option_map}
use Rattle.rk_outside.specs.Counts.{Counts}
use Rattle.rk_model.specs.Cuts.{cut_copied, count_before}
use Rattle.rk_model.specs.Items.{point_takes}
use Rattle.rk_model.specs.Reads.{walk_at, end_gap}
use Rattle.rk_model.specs.Standings.{Listing, WalksRise, IsTold, Costs, step_from, step_to, step_gap, walked}
use Rattle.rk_model.specs.declared.op.Entry.{Entry}
use Rattle.rk_model.proofs.Paying.{Paid, paid_from, paid_ok, paid_told, paid_memory, costs_told, costs_handed}
use Rattle.rk_model.proofs.Passing.{seen, step_on, step_costs, pays_on, pays_refused}
use Rattle.rk_model.proofs.Readings.{one_more, all_read, walk_within, walk_beyond, first_within}
use Rattle.rk_model.proofs.Gaps.{cut_within}
use Rattle.rk_model.proofs.both_ways.read_out.Given.{Over}
use Rattle.rk_model.proofs.both_ways.read_out.Goals as goal

pub loop-entry-preserved : goal.loop-entry-preserved
loop-entry-preserved g c =
    let l = g.S.Sorted.listing c.args.source.now in
    let s = g.S.Sorted.standing c.loop-entry.source in
    let s' = g.S.Sorted.standing c.step.new.self in
    let k = l.seek_price c.args.forward (cut_copied c.args.cut) in
    let first = count_before (point_takes (cut_copied c.args.cut)) in
    let same = c.loop-entry.invariant.same in
    let faces = c.loop-entry.invariant.faces in
    let is = sym c.here.ensures ∙ ap option_copied c.in-Some.is ∙ ap Some (sym c.in_ok-copy.ensures.value) in
    let told = subst (λ m. IsTold m s) same (g.met.S.Source.told c.loop-entry.source) in
    let there = step_on l s s' c.args.forward faces (subst (λ m. IfSome m.held (λ xs. s'.gap ≡ option_map (step_gap c.args.forward s) s.gap)) same c.in_ok-step.ensures.leads.there) in
    let costs = subst (λ m. Costs {T = Unit {0}} m s.owed s'.owed (g.R.Counting.counts c.loop-entry.reader) (g.R.Counting.counts c.step.new.reader) (step_from m c.args.forward s) (step_to m c.args.forward s) (Ok c.in_ok-step.field-0)) same c.in_ok-step.ensures.costs in
    record {
      same = c.in_ok-step.ensures.leads.same ∙ same;
      known = c.in_ok-step.ensures.leads.known;
      faces = c.in_ok-step.ensures.leads.faces;
      reading = one_more c.args.forward l.held s.gap s'.gap first s.here _ _ _ (seen l s c.args.forward faces told) is c.in_ok-push.ensures.items there c.loop-entry.invariant.reading;
      paid = pays_on l _ _ k s s' c.args.forward _ _ _ there c.loop-entry.invariant.paid (paid_from l _ _ _ _ _ _ _ (step_costs l s c.args.forward _ _ _ _ faces costs));
    }

-- what was paid so far is within what all of it costs
paid_all : (g : Over) (l : Listing Entry) (s : g.row.S.Denot) (d : Bool) (o f k : ℕ) (c c' : Counts) → g.S.Sorted.listing s ≡ l → (g.S.Sorted.standing s).forward ≡ d → Paid l o (g.S.Sorted.standing s).owed c c' f (k + walked l d (g.S.Sorted.standing s).gap) → Paid l o (g.S.Sorted.standing s).owed c c' f (k + walk_at l d (end_gap d))
paid_all g l s d o f k c c' same faces paid =
    let told = subst (λ m. IsTold m (g.S.Sorted.standing s)) same (g.met.S.Source.told s) in
    let within = walk_within l d (g.S.Sorted.standing s).gap (g.S.Sorted.standing s).here (subst WalksRise same (g.met.S.Source.rise s)) (seen l (g.S.Sorted.standing s) d faces told) in
    paid_told l o (g.S.Sorted.standing s).owed c c' _ _ _ _ (λ known. let e = within known in omega arith) paid

pub returns-in_err-seek-clause-costs : goal.returns-in_err-seek-clause-costs
returns-in_err-seek-clause-costs g c =
    let l = g.S.Sorted.listing c.args.source.now in
    let within = first_within l c.args.forward (count_before (point_takes (cut_copied c.args.cut))) (cut_within (point_takes (cut_copied c.args.cut))) (g.met.S.Source.rise c.args.source.now) in
    costs_handed l _ _ _ _ _ _ _ _ (costs_told l _ _ _ _ _ _ _ _ _ (λ told. let e = within told in omega arith) c.in_err-seek.ensures.costs) c.from_residual.ensures.1

pub returns-in_err-copy-clause-costs : goal.returns-in_err-copy-clause-costs
returns-in_err-copy-clause-costs g c =
    let l = g.S.Sorted.listing c.args.source.now in
    costs_handed {T = Unit {0}} l _ _ _ _ _ _ _ _ (paid_memory l _ _ _ _ _ _ (paid_all g l c.loop-entry.source c.args.forward _ _ _ _ _ c.loop-entry.invariant.same c.loop-entry.invariant.faces c.loop-entry.invariant.paid)) c.from_residual-in_err-copy.ensures.1

pub returns-in_err-step-clause-costs : goal.returns-in_err-step-clause-costs
returns-in_err-step-clause-costs g c =
    let l = g.S.Sorted.listing c.args.source.now in
    let s = g.S.Sorted.standing c.loop-entry.source in
    let s' = g.S.Sorted.standing c.step.new.self in
    let k = l.seek_price c.args.forward (cut_copied c.args.cut) in
    let same = c.loop-entry.invariant.same in
    let faces = c.loop-entry.invariant.faces in
    let told = subst (λ m. IsTold m s) same (g.met.S.Source.told c.loop-entry.source) in
    let costs = subst (λ m. Costs {T = Unit {0}} m s.owed s'.owed (g.R.Counting.counts c.loop-entry.reader) (g.R.Counting.counts c.step.new.reader) (step_from m c.args.forward s) (step_to m c.args.forward s) (Err c.in_err-step.field-0.0)) same c.in_err-step.ensures.costs in
    let within = walk_beyond l c.args.forward s.gap s.here _ (g.met.S.Source.rise c.args.source.now) (seen l s c.args.forward faces told) (sym c.here.ensures ∙ ap option_copied c.in-Some.is) in
    costs_handed l _ _ _ _ _ _ _ _ (pays_refused l _ _ k s _ _ c.args.forward _ _ _ _ within c.loop-entry.invariant.paid (step_costs l s c.args.forward _ _ _ _ faces costs)) c.from_residual-in_err-step.ensures.1

pub returns-clause-points : goal.returns-clause-points
returns-clause-points g c =
    let l = g.S.Sorted.listing c.args.source.now in
    let s = g.S.Sorted.standing c.loop-entry.source in
    let told = subst (λ m. IsTold m s) c.loop-entry.invariant.same (g.met.S.Source.told c.loop-entry.source) in
    all_read c.args.forward l.held s.gap (count_before (point_takes (cut_copied c.args.cut))) s.here _ (seen l s c.args.forward c.loop-entry.invariant.faces told) (sym c.here.ensures ∙ ap option_copied c.in_default.is) c.loop-entry.invariant.known c.loop-entry.invariant.reading

pub returns-clause-costs : goal.returns-clause-costs
returns-clause-costs g c =
    let l = g.S.Sorted.listing c.args.source.now in
    paid_ok l _ _ _ _ _ _ _ (paid_all g l c.loop-entry.source c.args.forward _ _ _ _ _ c.loop-entry.invariant.same c.loop-entry.invariant.faces c.loop-entry.invariant.paid)
