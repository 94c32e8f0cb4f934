use Rattle.std.proofs.Common.{◌≡◌, ℕ, Err, ap, subst, sym, ◌∙◌}
use Rattle.rk_outside.specs.Disks.{TellsFiles}
use Rattle.rk_pieces.specs.Pieces.{then_do}
use Rattle.rk_gate.specs.Calls.{IsReadRefusal}
use Rattle.rk_gate.proofs.Refusing.{refusal_less}
use Rattle.rk_log.specs.Logs.{groups_in, log_of}
use Rattle.rk_log.proofs.Causes.{handed_on, no_value}
use Rattle.rk_log.proofs.recovery.recover_log.Goals as goal

pub returns-in_err-groups-clause-cause : goal.returns-in_err-groups-clause-cause
returns-in_err-groups-clause-cause g c =
    let a = g.V.Vault.disk c.args.vault.now in
    let before = g.V.Vault.fault_count c.args.vault.now in
    let now = g.V.Vault.fault_count c.recover.new.vault in
    let file = c.args.file in
    let e = c.in_err-groups.field-0.0 in
    let r = c.from_residual-in_err-groups in
    let IsBad : ℕ → Type 0 = λ at. TellsFiles a → log_of (a.files file) ≡ Err at in
    let so = λ (at : ℕ) (h : groups_in c.deref.result.now ≡ Err at) (tells : TellsFiles a).
    ap (λ q. then_do q groups_in) (c.in_ok-journal.ensures.records tells) ∙ ap groups_in (sym c.deref.ensures.value) ∙ h in
    let here = refusal_less file (λ at. groups_in c.deref.result.now ≡ Err at) IsBad now now e so (c.in_err-groups.ensures.refusal now) in
    let there = subst (λ (n : ℕ). IsReadRefusal file IsBad n now e) c.in_ok-journal.ensures.cause.kept here in
    record {
      later = c.in_ok-journal.ensures.cause.later;
      failed = handed_on r.result e (IsReadRefusal file IsBad before now) r.ensures.1 there;
      kept = no_value r.result (λ x. x ≡ e) (now ≡ before) r.ensures.1;
    }
