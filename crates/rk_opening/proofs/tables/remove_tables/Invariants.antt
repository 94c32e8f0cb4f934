use Rattle.std.proofs.Common.{◌≡◌}
use Rattle.rk_outside.specs.Disks.{TellsFiles}
use Rattle.rk_outside.specs.Vaults.{RoomsStay}
use Rattle.rk_opening.specs.Changing.{ChangesOnly, IsTable}
use Rattle.rk_opening.proofs.Numbers.{RemovedUpTo}
use Rattle.rk_opening.proofs.tables.remove_tables.Given as goal

abbrev pub invariant-loop-number : goal.invariant-loop-number
invariant-loop-number g l =
    ChangesOnly IsTable (g.V.Vault.disk l.fn.vault) (g.V.Vault.disk l.vault)
    × RoomsStay (g.V.Vault.room l.fn.vault) (g.V.Vault.room l.vault)
    × (g.V.Vault.fault_count l.vault ≡ g.V.Vault.fault_count l.fn.vault)
    × (TellsFiles (g.V.Vault.disk l.fn.vault) → RemovedUpTo l.number-items l.number-index (g.V.Vault.disk l.fn.vault).files (g.V.Vault.disk l.vault).files)
