use Rattle.std.proofs.Common.{◌≡◌}
use Rattle.rk_outside.specs.Vaults.{RoomsStay}
use Rattle.rk_opening.specs.Syncing.{SyncedUpTo}
use Rattle.rk_opening.proofs.syncing.sync_front.Given as goal

abbrev pub invariant-loop-file : goal.invariant-loop-file
invariant-loop-file g l =
    SyncedUpTo l.file (g.V.Vault.disk l.fn.vault) (g.V.Vault.disk l.vault)
    × RoomsStay (g.V.Vault.room l.fn.vault) (g.V.Vault.room l.vault)
    × (g.V.Vault.fault_count l.vault ≡ g.V.Vault.fault_count l.fn.vault)
