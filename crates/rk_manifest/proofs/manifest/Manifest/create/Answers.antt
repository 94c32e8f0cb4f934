use Rattle.std.proofs.Common.{◌≡◌, ap, sym, ◌∙◌}
use Rattle.rk_outside.proofs.Runs.{honest_before}
use Rattle.rk_gate.specs.Changes.{IsAnything}
use Rattle.rk_gate.specs.Records.{recovered_file}
use Rattle.rk_manifest.proofs.Images.{changes_third, changes_fourth, changes_both, image_of_other, three_not_four}
use Rattle.rk_manifest.proofs.manifest.Manifest.create.Goals as goal

pub returns-in_err-fourth-clause-disk : goal.returns-in_err-fourth-clause-disk
returns-in_err-fourth-clause-disk g c =
    let a = g.V.Vault.disk c.args.vault.now in
    let b = g.V.Vault.disk c.create.new.vault in
    let d = g.V.Vault.disk c.create-2.new.vault in
    changes_both a b d (changes_third a b IsAnything c.create.ensures.disk) (changes_fourth b d IsAnything c.create-2.ensures.disk)

pub returns-clause-disk : goal.returns-clause-disk
returns-clause-disk g c =
    let a = g.V.Vault.disk c.args.vault.now in
    let b = g.V.Vault.disk c.create.new.vault in
    let d = g.V.Vault.disk c.create-2.new.vault in
    changes_both a b d (changes_third a b IsAnything c.create.ensures.disk) (changes_fourth b d IsAnything c.create-2.ensures.disk)

pub returns-clause-there : goal.returns-clause-there
returns-clause-there g c honest image now =
    let b = g.V.Vault.disk c.create.new.vault in
    let d = g.V.Vault.disk c.create-2.new.vault in
    let two = c.create-2.ensures.disk in
    let before = honest_before b d two.told ((g.met.V.Vault g.world.𝓛 g.world.𝓜 g.world.𝓡 ((λ s x. x), (λ x. x), (λ x. x), λ x. x)).honest c.create.new.vault) honest in
    let ne = three_not_four in
    let third = image_of_other b d 4 3 IsAnything (λ f. f ≡ b.files 3) ne before two (c.in_ok-third.ensures.there before) image now in
    record {
      third = ap recovered_file (third ∙ sym (two.others before.tells_files 3 ne));
      fourth = ap recovered_file (c.in_ok-fourth.ensures.there honest image now);
    }
