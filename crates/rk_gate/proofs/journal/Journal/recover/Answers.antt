use Rattle.std.proofs.Common.{◌≡◌, Err, sym, ◌∙◌, ap, subst, arith}
use Rattle.rk_outside.specs.Disks.{TellsFiles}
use Rattle.rk_gate.specs.Calls.{IsReadRefusal}
use Rattle.rk_gate.specs.Records.{recovered, recovered_file}
use Rattle.rk_gate.proofs.Refusing.{refusal_less, recovered_in}
use Rattle.rk_gate.proofs.journal.Journal.recover.Goals as goal

pub returns-in-Err-clause-cause : goal.returns-in-Err-clause-cause
returns-in-Err-clause-cause g c =
    let old = g.V.Vault.disk c.args.vault.now in
    let now = g.V.Vault.fault_count c.read_file.new.vault in
    let file = c.args.file in
    let kept = c.in_ok-bytes.ensures.cause.kept in
    record {
      later = omega (arith, kept);
      failed = refusal_less file (λ at. recovered c.deref.result.now ≡ Err at) (λ at. TellsFiles old → recovered_file (old.files file) ≡ Err at) (g.V.Vault.fault_count c.args.vault.now) now c.in-Err.error
          (λ at bad tells. sym (ap recovered (c.deref.ensures.value ∙ c.in_ok-bytes.ensures.bytes tells) ∙ recovered_in (old.files file)) ∙ bad)
          (subst (λ k. IsReadRefusal file (λ at. recovered c.deref.result.now ≡ Err at) k now c.in-Err.error) kept (c.in-Err.ensures.refusal now));
      kept = tt;
    }
