use Rattle.rk_opening.proofs.Syncs.{one_sync}
use Rattle.rk_opening.proofs.syncing.sync_file.Goals as goal

pub returns-in-Ok-clause-disk : goal.returns-in-Ok-clause-disk
returns-in-Ok-clause-disk g c = one_sync (g.V.Vault.disk c.args.vault.now) (g.V.Vault.disk c.sync.new.self) c.args.file _ _ _ c.sync.ensures.change

pub returns-in-Err-clause-disk : goal.returns-in-Err-clause-disk
returns-in-Err-clause-disk g c = one_sync (g.V.Vault.disk c.args.vault.now) (g.V.Vault.disk c.sync.new.self) c.args.file _ _ _ c.sync.ensures.change
