use Rattle.std.proofs.Common.{arith, refl, ◌∙◌}
use Rattle.rk_outside.proofs.Runs.{honest_before}
use Rattle.rk_opening.proofs.Syncs.{none_yet, one_more, then_syncs}
use Rattle.rk_opening.proofs.syncing.sync_front.Goals as goal

pub loop-file-init : goal.loop-file-init
loop-file-init g c = (none_yet (g.V.Vault.disk c.args.vault.now), (λ f. omega arith), refl)

pub loop-file-preserved : goal.loop-file-preserved
loop-file-preserved g c =
    let a = g.V.Vault.disk c.args.vault.now in
    let b = g.V.Vault.disk c.loop-file.vault in
    let d = g.V.Vault.disk c.sync_file.new.vault in (
      one_more a b d c.loop-file.file c.loop-file.invariant.0 c.sync_file.ensures.disk c.in_ok-sync_file.ensures.settled
          (honest_before b d c.sync_file.ensures.disk.told ((g.met.V.Vault g.world.𝓛 g.world.𝓜 g.world.𝓡 ((λ s x. x), (λ x. x), (λ x. x), λ x. x)).honest c.loop-file.vault)),
      (λ f. omega (arith, c.loop-file.invariant.1 f, c.sync_file.ensures.rooms f)),
      c.in_ok-sync_file.ensures.cause.kept ∙ c.loop-file.invariant.2,
    )

pub returns-in_err-sync_file-clause-disk : goal.returns-in_err-sync_file-clause-disk
returns-in_err-sync_file-clause-disk g c =
    then_syncs (g.V.Vault.disk c.args.vault.now) (g.V.Vault.disk c.loop-file.vault) (g.V.Vault.disk c.sync_file.new.vault) c.loop-file.invariant.0.syncs c.sync_file.ensures.disk

pub returns-clause-settled : goal.returns-clause-settled
returns-clause-settled g c = λ f below. c.loop-file.invariant.0.settled f (omega (arith, below, c.loop-file-test.false))
