use Rattle.std.proofs.Common.{◌≡◌, ℕ, Err, inl, inr, subst, sym, ◌∙◌, ⊎_elim, arith}
use Rattle.std.specs.Prelude.{◌⊎◌}
use Rattle.rk_outside.specs.Disks.{TellsFiles}
use Rattle.rk_outside.specs.declared.error.StoreError.TheVariants.{BadRecord}
use Rattle.rk_gate.specs.Calls.{IsReadRefusal}
use Rattle.rk_gate.proofs.Refusing.{refusal_less}
use Rattle.rk_log.specs.Logs.{logs_in, by_the_rules}
use Rattle.rk_log.proofs.Causes.{handed_on, no_value, read_in_turn}
use Rattle.rk_log.proofs.recovery.recover.Goals as goal

pub returns-in_err-check_rules-clause-cause : goal.returns-in_err-check_rules-clause-cause
returns-in_err-check_rules-clause-cause g c =
    let a = g.V.Vault.disk c.args.vault.now in
    let before = g.V.Vault.fault_count c.args.vault.now in
    let now = g.V.Vault.fault_count c.recover_log-2.new.vault in
    let flushed = c.args.flushed in
    let first = c.in_ok-first.first.groups.items in
    let second = c.in_ok-second.second.groups.items in
    let e = c.in_err-check_rules.field-0.0 in
    let r = c.from_residual-in_err-check_rules in
    let IsBad : ℕ → ℕ → Type 0 = λ file at. TellsFiles a → logs_in flushed a.files ≡ Err (BadRecord file at) in
    let Breaks : ℕ → ℕ → Type 0 = λ file at. by_the_rules flushed (record { first = c.deref.result.now; second = c.deref-2.result.now }) ≡ Err (BadRecord file at) in
    let kept : now ≡ before = c.in_ok-second.ensures.cause.kept ∙ c.in_ok-first.ensures.cause.kept in
    let seen : TellsFiles a → logs_in flushed a.files ≡ by_the_rules flushed (record { first = first; second = second }) =
    read_in_turn flushed a (g.V.Vault.disk c.recover_log.new.vault) first second c.in_ok-first.ensures.same c.in_ok-first.ensures.groups c.in_ok-second.ensures.groups in
    let so = λ (file at : ℕ) (h : Breaks file at) (tells : TellsFiles a).
    seen tells ∙ (λ i. by_the_rules flushed (record { first = sym c.deref.ensures.value i; second = sym c.deref-2.ensures.value i })) ∙ h in
    let of = λ (file : ℕ) (h : IsReadRefusal file (Breaks file) now now e).
    subst (λ (n : ℕ). IsReadRefusal file (IsBad file) n now e) kept (refusal_less file (Breaks file) (IsBad file) now now e (so file) h) in
    let here : IsReadRefusal 1 (IsBad 1) before now e ⊎ IsReadRefusal 2 (IsBad 2) before now e =
    ⊎_elim (λ h. inl (of 1 h)) (λ h. inr (of 2 h)) (c.in_err-check_rules.ensures.refusal now) in
    record {
      later = omega (arith, c.in_ok-first.ensures.cause.later, c.in_ok-second.ensures.cause.later);
      failed = handed_on r.result e (λ x. IsReadRefusal 1 (IsBad 1) before now x ⊎ IsReadRefusal 2 (IsBad 2) before now x) r.ensures.1 here;
      kept = no_value r.result (λ x. x ≡ e) (now ≡ before) r.ensures.1;
    }
