use Rattle.std.specs.Prelude.{IsTrue}
use Rattle.std.proofs.Common.{◌≡◌, [], ◌∷◌, Some, refl, sym, ◌∙◌, subst, arith, ⊎_elim}
use Rattle.std.proofs.lemmas.Bool.Decides.{eqb_tells}
use Rattle.rk_outside.proofs.Runs.{honest_before}
use Rattle.rk_gate.specs.Changes.{IsAnything}
use Rattle.rk_opening.specs.Changing.{IsJournal}
use Rattle.rk_opening.specs.Syncing.{IsSettledAt}
use Rattle.rk_opening.proofs.Several.{none_changed, one_changed, then_changed, settled_through}
use Rattle.rk_opening.proofs.making.make_journals.Goals as goal

pub loop-file-init : goal.loop-file-init
loop-file-init g c = (
  none_changed IsJournal (g.V.Vault.disk c.args.vault.now),
  (λ f. omega arith),
  refl,
  (λ tells f is below. absurd (omega (arith, is.0, below))),
  λ f is below. absurd (omega (arith, is.0, below)),
)

pub returns-in_err-create-clause-disk : goal.returns-in_err-create-clause-disk
returns-in_err-create-clause-disk g c =
    let a = g.V.Vault.disk c.args.vault.now in
    let b = g.V.Vault.disk c.loop-file.vault in
    let d = g.V.Vault.disk c.create.new.vault in
    then_changed IsJournal a b d c.loop-file.invariant.0
    (one_changed IsJournal b d c.loop-file.file IsAnything (c.loop-file.auto.file, c.loop-file-test.true) c.create.ensures.disk)

pub loop-file-preserved : goal.loop-file-preserved
loop-file-preserved g c =
    let a = g.V.Vault.disk c.args.vault.now in
    let b = g.V.Vault.disk c.loop-file.vault in
    let d = g.V.Vault.disk c.create.new.vault in
    let file = c.loop-file.file in
    let one = one_changed IsJournal b d file IsAnything (c.loop-file.auto.file, c.loop-file-test.true) c.create.ensures.disk in
    let law = (g.met.V.Vault g.world.𝓛 g.world.𝓜 g.world.𝓡 ((λ s x. x), (λ x. x), (λ x. x), λ x. x)).honest c.loop-file.vault in (
      then_changed IsJournal a b d c.loop-file.invariant.0 one,
      (λ f. omega (arith, c.loop-file.invariant.1 f, c.create.ensures.rooms f)),
      c.in_ok-create.ensures.cause.kept ∙ c.loop-file.invariant.2,
      (λ tells f is below.
          let still = subst IsTrue (sym c.loop-file.invariant.0.told.files) tells in
          ⊎_elim
          (λ e. subst (λ k. d.files k ≡ Some (0 ∷ [])) (sym e.1) (c.in_ok-create.ensures.bytes still))
          (λ e. c.create.ensures.disk.others still f e.1 ∙ c.loop-file.invariant.3 tells f is (omega (arith, below, e.1)))
          (eqb_tells f file)),
      λ f is below. ⊎_elim
          (λ e. subst (λ k. IsSettledAt k d) (sym e.1) c.in_ok-create.ensures.there)
          (λ e. settled_through b d file f IsAnything e.1 (honest_before b d c.create.ensures.disk.told law) c.create.ensures.disk (c.loop-file.invariant.4 f is (omega (arith, below, e.1))))
          (eqb_tells f file),
    )
