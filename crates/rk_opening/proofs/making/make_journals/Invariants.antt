use Rattle.std.proofs.Common.{◌≡◌, ℕ, ◌<◌, [], ◌∷◌, Some}
use Rattle.rk_outside.specs.Disks.{TellsFiles}
use Rattle.rk_outside.specs.Vaults.{RoomsStay}
use Rattle.rk_opening.specs.Changing.{ChangesOnly, IsJournal}
use Rattle.rk_opening.specs.Syncing.{IsSettledAt}
use Rattle.rk_opening.proofs.making.make_journals.Given as goal

abbrev pub invariant-loop-file : goal.invariant-loop-file
invariant-loop-file g l =
    ChangesOnly IsJournal (g.V.Vault.disk l.fn.vault) (g.V.Vault.disk l.vault)
    × RoomsStay (g.V.Vault.room l.fn.vault) (g.V.Vault.room l.vault)
    × (g.V.Vault.fault_count l.vault ≡ g.V.Vault.fault_count l.fn.vault)
    × (TellsFiles (g.V.Vault.disk l.fn.vault) → (f : ℕ) → IsJournal f → f < l.file → (g.V.Vault.disk l.vault).files f ≡ Some (0 ∷ []))
    × ((f : ℕ) → IsJournal f → f < l.file → IsSettledAt f (g.V.Vault.disk l.vault))
