use Rattle.std.proofs.Common.{◌+◌, arith, ◌≡◌, ℕ, Bool, List, Ok, Err, sym, ap, ◌∙◌, subst}
use Rattle.std.specs.Prelude.{IfSome}
use denote.Ref.{Bor}
use Rattle.std.specs.List.Sorted.{IsPartitionedBy}
use Rattle.std.specs.Option.{option_copied, option_map}
use Rattle.rk_model.specs.Cuts.{cut_copied}
use Rattle.rk_model.specs.declared.cut.Cut.{Cut}
use Rattle.rk_model.specs.Standings.{walked, IsTold, Costs, step_from, step_to, step_gap}
use Rattle.rk_model.proofs.Paying.{paid_from, paid_shift, costs_shift, costs_handed}
use Rattle.rk_model.proofs.Passing.{goes_on, reach, ends, step_on, step_costs, pays_on, pays_refused, cut_parts, is_passed_now, is_passed_not, beyond_seen}
use Rattle.rk_model.proofs.sorted.Source.pass.Given.{Over}
use Rattle.rk_model.proofs.sorted.Source.pass.Goals as goal

-- what the cut takes are the first of the list
parted : (g : Over) (s : g.row.Self.Denot) (forward : Bool) (cut : Cut (Bor (List ℕ))) → IfSome (g.Self.Sorted.listing s).held (IsPartitionedBy (g.Self.Item.Item.takes forward (cut_copied cut)))
parted g s forward cut = cut_parts (g.Self.Sorted.listing s) g.Self.Item.Item.in_order (g.Self.Item.Item.takes forward (cut_copied cut)) (g.met.Self.Source.ordered s) (g.met.Self.Item.Item.first forward (cut_copied cut))

pub loop-item-preserved : goal.loop-item-preserved
loop-item-preserved g c =
    let l = g.Self.Sorted.listing c.args.self.now in
    let s = g.Self.Sorted.standing c.args.self.now in
    let s' = g.Self.Sorted.standing c.loop-item.self in
    let s'' = g.Self.Sorted.standing c.step.new.self in
    let same = c.loop-item.invariant.same in
    let takes = g.Self.Item.Item.takes c.args.forward (cut_copied c.args.cut) in
    let is = sym c.here.ensures ∙ ap option_copied c.in-Some.is in
    let passed = is_passed_now c.args.forward _ _ c.is_before.ensures c.if-is_before-forward.false in
    let told = subst (λ k. IsTold k s') same (g.met.Self.Source.told c.loop-item.self) in
    let there = subst (λ k. IfSome k.held (λ xs. s''.gap ≡ option_map (step_gap c.args.forward s') s'.gap)) same c.in_ok-step.ensures.leads.there in
    let costs = subst (λ k. Costs {T = Unit {0}} k s'.owed s''.owed (g.R.Counting.counts c.loop-item.reader) (g.R.Counting.counts c.step.new.reader) (step_from k c.args.forward s') (step_to k c.args.forward s') (Ok c.in_ok-step.field-0)) same c.in_ok-step.ensures.costs in
    let faces = c.loop-item.invariant.passing.faces in
    record {
      same = c.in_ok-step.ensures.leads.same ∙ same;
      passing = goes_on l s s' s'' c.args.forward takes _ (parted g c.args.self.now c.args.forward c.args.cut) told is passed there c.in_ok-step.ensures.leads.known c.in_ok-step.ensures.leads.faces c.in_ok-step.ensures.fewer c.loop-item.invariant.passing;
      paid = paid_shift l _ _ _ _ _ _ _ _ (omega arith) (pays_on l _ _ 0 s' s'' c.args.forward _ _ _ (step_on l s' s'' c.args.forward faces there) (paid_shift l _ _ _ _ _ _ (walked l c.args.forward s.gap) (0 + walked l c.args.forward s'.gap) (omega arith) c.loop-item.invariant.paid) (paid_from l _ _ _ _ _ _ _ (step_costs l s' c.args.forward _ _ _ _ faces costs)));
    }

pub returns-in_err-step-clause-costs : goal.returns-in_err-step-clause-costs
returns-in_err-step-clause-costs g c =
    let l = g.Self.Sorted.listing c.args.self.now in
    let s = g.Self.Sorted.standing c.args.self.now in
    let s' = g.Self.Sorted.standing c.loop-item.self in
    let s'' = g.Self.Sorted.standing c.step.new.self in
    let same = c.loop-item.invariant.same in
    let takes = g.Self.Item.Item.takes c.args.forward (cut_copied c.args.cut) in
    let is = sym c.here.ensures ∙ ap option_copied c.in-Some.is in
    let passed = is_passed_now c.args.forward _ _ c.is_before.ensures c.if-is_before-forward.false in
    let told = subst (λ k. IsTold k s') same (g.met.Self.Source.told c.loop-item.self) in
    let costs = subst (λ k. Costs {T = Unit {0}} k s'.owed s''.owed (g.R.Counting.counts c.loop-item.reader) (g.R.Counting.counts c.step.new.reader) (step_from k c.args.forward s') (step_to k c.args.forward s') (Err c.in_err-step.field-0.0)) same c.in_err-step.ensures.costs in
    let within = reach l s s' c.args.forward takes _ (g.met.Self.Source.rise c.args.self.now) (parted g c.args.self.now c.args.forward c.args.cut) told is passed c.loop-item.invariant.passing in
    costs_handed l _ _ _ _ _ _ _ _ (costs_shift l _ _ _ _ _ _ _ _ _ (omega arith) (pays_refused l _ _ 0 s' _ _ c.args.forward _ _ _ _ within (paid_shift l _ _ _ _ _ _ (walked l c.args.forward s.gap) (0 + walked l c.args.forward s'.gap) (omega arith) c.loop-item.invariant.paid) (step_costs l s' c.args.forward _ _ _ _ c.loop-item.invariant.passing.faces costs))) c.from_residual.ensures.1

pub returns-then-is_before-forward : goal.returns-then-is_before-forward
returns-then-is_before-forward g c =
    let takes = g.Self.Item.Item.takes c.args.forward (cut_copied c.args.cut) in
    let beyond = beyond_seen c.args.forward takes _ _ (sym c.here.ensures ∙ ap option_copied c.in-Some.is) (is_passed_not c.args.forward _ _ c.is_before.ensures c.if-is_before-forward.true) in
    let ended = ends (g.Self.Sorted.listing c.args.self.now) (g.Self.Sorted.listing c.loop-item.self) (g.Self.Sorted.standing c.args.self.now) (g.Self.Sorted.standing c.loop-item.self) c.args.forward takes (g.R.Counting.counts c.args.reader.now) (g.R.Counting.counts c.loop-item.reader) c.loop-item.invariant.same (parted g c.args.self.now c.args.forward c.args.cut) (g.met.Self.Source.told c.loop-item.self) beyond c.loop-item.invariant.passing c.loop-item.invariant.paid in
    record { leads = ended.leads; costs = ended.costs; beyond = ended.beyond; left = ended.left; fewer = ended.fewer }

pub returns-in_default : goal.returns-in_default
returns-in_default g c =
    let takes = g.Self.Item.Item.takes c.args.forward (cut_copied c.args.cut) in
    let beyond = beyond_seen c.args.forward takes _ _ (sym c.here.ensures ∙ ap option_copied c.in_default.is) tt in
    let ended = ends (g.Self.Sorted.listing c.args.self.now) (g.Self.Sorted.listing c.loop-item.self) (g.Self.Sorted.standing c.args.self.now) (g.Self.Sorted.standing c.loop-item.self) c.args.forward takes (g.R.Counting.counts c.args.reader.now) (g.R.Counting.counts c.loop-item.reader) c.loop-item.invariant.same (parted g c.args.self.now c.args.forward c.args.cut) (g.met.Self.Source.told c.loop-item.self) beyond c.loop-item.invariant.passing c.loop-item.invariant.paid in
    record { leads = ended.leads; costs = ended.costs; beyond = ended.beyond; left = ended.left; fewer = ended.fewer }
