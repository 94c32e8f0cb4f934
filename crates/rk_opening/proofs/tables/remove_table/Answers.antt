use Rattle.rk_gate.specs.Changes.{IsAnything}
use Rattle.rk_opening.specs.Changing.{IsTable}
use Rattle.rk_opening.proofs.Several.{one_changed, one_step}
use Rattle.rk_opening.proofs.tables.remove_table.Goals as goal

pub returns-in-Ok-clause-disk : goal.returns-in-Ok-clause-disk
returns-in-Ok-clause-disk g c =
    let a = g.V.Vault.disk c.args.vault.now in
    let b = g.V.Vault.disk c.remove.new.self in
    one_changed IsTable a b c.args.file IsAnything c.requires (one_step a b c.args.file _ _ _ _ c.remove.ensures.change)

pub returns-in-Err-clause-disk : goal.returns-in-Err-clause-disk
returns-in-Err-clause-disk g c =
    let a = g.V.Vault.disk c.args.vault.now in
    let b = g.V.Vault.disk c.remove.new.self in
    one_changed IsTable a b c.args.file IsAnything c.requires (one_step a b c.args.file _ _ _ _ c.remove.ensures.change)
