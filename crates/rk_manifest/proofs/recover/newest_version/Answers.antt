use Rattle.std.proofs.Common.{◌≡◌, ℕ, None, Err, ◌∙◌, sym, ap}
use Rattle.std.specs.Prelude.{option_map}
use Rattle.rk_gate.specs.Calls.{IsReadRefusal}
use Rattle.rk_manifest.specs.Versions.{version}
use Rattle.rk_manifest.specs.Manifests.{version_above, versions_above}
use Rattle.rk_manifest.proofs.Newest.{one_more, stopped}
use Rattle.rk_manifest.proofs.Causes.{refused_so, handed_on}
use Rattle.rk_manifest.proofs.recover.newest_version.Goals as goal

pub returns-in_err-next-clause-refusal : goal.returns-in_err-next-clause-refusal
returns-in_err-next-clause-refusal c count =
    let r = c.record-item.result in
    let here = refused_so c.args.file (λ at. (at ≡ r.at) × (version_above c.loop-record.floor r.payload ≡ None)) (λ at. versions_above 0 c.args.records.now ≡ Err at) count count
    (λ at h. stopped c.args.records.now c.loop-record.record-index (option_map version c.loop-record.newest) c.loop-record.floor r c.loop-record-test.true c.record-item.is h.1 c.loop-record.invariant ∙ ap (λ (n : ℕ). Err n) (sym h.0))
    c.in_err-next.field-0.0 (c.in_err-next.ensures.refusal count) in
    handed_on c.from_residual.result c.in_err-next.field-0.0 (IsReadRefusal c.args.file (λ at. versions_above 0 c.args.records.now ≡ Err at) count count) c.from_residual.ensures.1 here

pub loop-record-preserved : goal.loop-record-preserved
loop-record-preserved c = one_more c.args.records.now c.loop-record.record-index (option_map version c.loop-record.newest) c.loop-record.floor c.record-item.result (version c.in_ok-next.next) c.loop-record-test.true c.record-item.is c.in_ok-next.ensures.ok c.loop-record.invariant
