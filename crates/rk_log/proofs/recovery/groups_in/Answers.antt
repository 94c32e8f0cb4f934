use Rattle.std.proofs.Common.{◌≡◌, ℕ, Err, None, ap, sym, ◌∙◌}
use Rattle.rk_gate.specs.Calls.{IsReadRefusal}
use Rattle.rk_gate.proofs.Refusing.{refusal_less}
use Rattle.rk_log.specs.Groups.{group_of}
use Rattle.rk_log.specs.Logs.{groups_in}
use Rattle.rk_log.proofs.Causes.{handed_on}
use Rattle.rk_log.proofs.Grouping.{stopped}
use Rattle.rk_log.proofs.recovery.groups_in.Goals as goal

pub returns-in_err-group-clause-refusal : goal.returns-in_err-group-clause-refusal
returns-in_err-group-clause-refusal c count =
    let r = c.record-item.result in
    let rs = c.args.records.now in
    let e = c.in_err-group.field-0.0 in
    let so = λ (at : ℕ) (h : (at ≡ r.at) × (group_of r.payload ≡ None)). stopped rs c.loop-record.record-index c.loop-record.groups.items r c.loop-record-test.true c.record-item.is h.1 c.loop-record.invariant ∙ ap (λ (n : ℕ). Err n) (sym h.0) in
    let here : IsReadRefusal c.args.file (λ at. groups_in rs ≡ Err at) count count e = refusal_less c.args.file (λ at. (at ≡ r.at) × (group_of r.payload ≡ None)) (λ at. groups_in rs ≡ Err at) count count e so (c.in_err-group.ensures.refusal count) in
    handed_on c.from_residual.result e (IsReadRefusal c.args.file (λ at. groups_in rs ≡ Err at) count count) c.from_residual.ensures.1 here
