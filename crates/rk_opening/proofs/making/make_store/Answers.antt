use Rattle.std.proofs.Common.{sym, subst, arith, ⊎_elim}
use Rattle.std.proofs.lemmas.Bool.Decides.{eqb_tells}
use Rattle.rk_outside.proofs.Runs.{honest_before}
use Rattle.rk_gate.specs.Changes.{IsAnything}
use Rattle.rk_manifest.proofs.Causes.{always, on_ok}
use Rattle.rk_opening.specs.Syncing.{IsSettledAt}
use Rattle.rk_opening.proofs.NewStore.{made, leaves_unmade, empty_behind, leaves_behind}
use Rattle.rk_opening.proofs.Several.{settled_through}
use Rattle.rk_opening.proofs.making.make_store.Goals as goal

pub returns-in_err-make_journals-clause-crash : goal.returns-in_err-make_journals-clause-crash
returns-in_err-make_journals-clause-crash g c = λ honest.
    leaves_unmade (g.V.Vault.disk c.args.vault.now) (g.V.Vault.disk c.make_journals.new.vault) c.make_journals.ensures.disk honest (c.requires.images honest)

pub returns-clause-store : goal.returns-clause-store
returns-clause-store g c =
    let a = g.V.Vault.disk c.args.vault.now in
    let b = g.V.Vault.disk c.make_journals.new.vault in
    let d = g.V.Vault.disk c.write_head.new.vault in
    always c.write_head.result _ (λ tells. made d.files
    (empty_behind a b c.make_journals.ensures.disk d c.write_head.ensures.disk c.in_ok-make_journals.ensures.bytes c.in_ok-make_journals.ensures.settled tells))

pub returns-clause-crash : goal.returns-clause-crash
returns-clause-crash g c = λ honest.
    let a = g.V.Vault.disk c.args.vault.now in
    let b = g.V.Vault.disk c.make_journals.new.vault in
    leaves_behind a b c.make_journals.ensures.disk (g.V.Vault.disk c.write_head.new.vault) c.write_head.ensures.disk c.in_ok-make_journals.ensures.bytes c.in_ok-make_journals.ensures.settled honest (c.requires.images honest)

pub returns-clause-settled : goal.returns-clause-settled
returns-clause-settled g c =
    let b = g.V.Vault.disk c.make_journals.new.vault in
    let d = g.V.Vault.disk c.write_head.new.vault in
    let law = (g.met.V.Vault g.world.𝓛 g.world.𝓜 g.world.𝓡 ((λ s x. x), (λ x. x), (λ x. x), λ x. x)).honest c.make_journals.new.vault in
    on_ok c.write_head.result (IsSettledAt 0 d) _ (λ head f below. ⊎_elim
    (λ e. subst (λ k. IsSettledAt k d) (sym e.1) head)
    (λ e. settled_through b d 0 f IsAnything e.1 (honest_before b d c.write_head.ensures.disk.told law) c.write_head.ensures.disk
    (c.in_ok-make_journals.ensures.settled f (omega (arith, e.1), below)))
    (eqb_tells f 0)) c.write_head.ensures.settled
