use Rattle.std.proofs.Common.{◌≡◌, ℕ, Err, ap, subst, sym, ◌∙◌}
use Rattle.rk_outside.specs.Disks.{TellsFiles}
use Rattle.rk_pieces.specs.Pieces.{then_do}
use Rattle.rk_gate.specs.Calls.{IsReadRefusal}
use Rattle.rk_manifest.specs.Manifests.{versions_above, versions_in}
use Rattle.rk_manifest.proofs.Causes.{refused_so, handed_on, always}
use Rattle.rk_manifest.proofs.recover.recover_file.Goals as goal

pub returns-in_err-newest-clause-cause : goal.returns-in_err-newest-clause-cause
returns-in_err-newest-clause-cause g c =
    let a = g.V.Vault.disk c.args.vault.now in
    let before = g.V.Vault.fault_count c.args.vault.now in
    let now = g.V.Vault.fault_count c.recover.new.vault in
    let file = c.args.file in
    let e = c.in_err-newest.field-0.0 in
    let r = c.from_residual-in_err-newest in
    let kept : now ≡ before = c.in_ok-journal.ensures.cause.kept in
    let so = λ (at : ℕ) (h : versions_above 0 c.deref.result.now ≡ Err at) (tells : TellsFiles a).
    ap (λ q. then_do q (versions_above 0)) (c.in_ok-journal.ensures.records tells) ∙ ap (versions_above 0) (sym c.deref.ensures.value) ∙ h in
    let here = refused_so file (λ at. versions_above 0 c.deref.result.now ≡ Err at) (λ at. TellsFiles a → versions_in (a.files file) ≡ Err at) before before so e (c.in_err-newest.ensures.refusal before) in
    let there = subst (λ (n : ℕ). IsReadRefusal file (λ at. TellsFiles a → versions_in (a.files file) ≡ Err at) before n e) (sym kept) here in
    record {
      later = c.in_ok-journal.ensures.cause.later;
      failed = handed_on r.result e (IsReadRefusal file (λ at. TellsFiles a → versions_in (a.files file) ≡ Err at) before now) r.ensures.1 there;
      kept = always r.result (now ≡ before) kept;
    }
