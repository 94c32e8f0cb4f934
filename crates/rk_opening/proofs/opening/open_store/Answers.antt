use Rattle.std.specs.Prelude.{IsTrue}
use Rattle.std.proofs.Common.{Err, sym, ◌∙◌, subst}
use Rattle.rk_outside.specs.Disks.{TellsFiles}
use Rattle.rk_opening.proofs.Outcomes.{synced_told, reads_synced, leaves_new, leaves_recovered, reads_recovered, opened_from, tells_same, tells_recovered}
use Rattle.rk_opening.proofs.Refusals.{cause_on, counted_from, handed_on, ok_on}
use Rattle.rk_opening.proofs.opening.open_store.Goals as goal

pub returns-in_err-make_if_none-clause-reads : goal.returns-in_err-make_if_none-clause-reads
returns-in_err-make_if_none-clause-reads g c = λ tells.
    let a = g.V.Vault.disk c.args.vault.now in
    let b = g.V.Vault.disk c.sync_front.new.vault in
    reads_synced a b c.sync_front.ensures.disk tells (g.V.Vault.disk c.make_if_none.new.vault).files
    (c.make_if_none.ensures.reads (synced_told a b c.sync_front.ensures.disk tells))

pub returns-in_err-make_if_none-clause-crash : goal.returns-in_err-make_if_none-clause-crash
returns-in_err-make_if_none-clause-crash g c = λ honest.
    leaves_new (g.V.Vault.disk c.args.vault.now) (g.V.Vault.disk c.sync_front.new.vault) c.sync_front.ensures.disk
    (g.V.Vault.disk c.make_if_none.new.vault) honest c.make_if_none.ensures.crash

pub returns-in_err-make_if_none-clause-cause : goal.returns-in_err-make_if_none-clause-cause
returns-in_err-make_if_none-clause-cause g c =
    let a = g.V.Vault.disk c.args.vault.now in
    let b = g.V.Vault.disk c.sync_front.new.vault in
    let Told : Type 0 → Type 0 = λ Says. TellsFiles a → Says in
    handed_on Told a.files (g.V.Vault.fault_count c.args.vault.now) (g.V.Vault.fault_count c.make_if_none.new.vault) c.in_err-make_if_none.field-0.0 c.from_residual-in_err-make_if_none.result
    (counted_from Told a.files _ _ _ (Err c.in_err-make_if_none.field-0.0) c.in_ok-sync_front.ensures.cause.kept
    (cause_on (λ Says. TellsFiles b → Says) Told b.files a.files
    (tells_same a b (synced_told a b c.sync_front.ensures.disk) c.sync_front.ensures.disk.reads) _ _ (Err c.in_err-make_if_none.field-0.0) c.in_err-make_if_none.ensures.cause))
    c.from_residual-in_err-make_if_none.ensures.1

pub returns-clause-opened : goal.returns-clause-opened
returns-clause-opened g c = λ tells.
    let a = g.V.Vault.disk c.args.vault.now in
    let b = g.V.Vault.disk c.sync_front.new.vault in
    let d = g.V.Vault.disk c.make_if_none.new.vault in
    let still = synced_told a b c.sync_front.ensures.disk tells in
    ok_on c.recover_store.result _ _ (λ o. opened_from a b c.sync_front.ensures.disk d c.make_if_none.ensures.told c.in_ok-make_if_none.ensures.store _ tells (c.in_ok-make_if_none.ensures.head still))
    (c.recover_store.ensures.opened (subst IsTrue (sym c.make_if_none.ensures.told.files) still))

pub returns-clause-reads : goal.returns-clause-reads
returns-clause-reads g c = λ tells.
    let a = g.V.Vault.disk c.args.vault.now in
    let b = g.V.Vault.disk c.sync_front.new.vault in
    let d = g.V.Vault.disk c.make_if_none.new.vault in
    reads_recovered a b c.sync_front.ensures.disk d c.make_if_none.ensures.told c.in_ok-make_if_none.ensures.store tells (g.V.Vault.disk c.recover_store.new.vault) c.recover_store.ensures.disk

pub returns-clause-crash : goal.returns-clause-crash
returns-clause-crash g c = λ honest.
    let a = g.V.Vault.disk c.args.vault.now in
    let b = g.V.Vault.disk c.sync_front.new.vault in
    let d = g.V.Vault.disk c.make_if_none.new.vault in
    leaves_recovered a b c.sync_front.ensures.disk d c.make_if_none.ensures.told c.in_ok-make_if_none.ensures.store (g.V.Vault.disk c.recover_store.new.vault) honest
    (λ h. (c.make_if_none.ensures.honest h, c.make_if_none.ensures.crash h)) c.recover_store.ensures.disk

pub returns-clause-cause : goal.returns-clause-cause
returns-clause-cause g c =
    let a = g.V.Vault.disk c.args.vault.now in
    let b = g.V.Vault.disk c.sync_front.new.vault in
    let d = g.V.Vault.disk c.make_if_none.new.vault in
    let Told : Type 0 → Type 0 = λ Says. TellsFiles a → Says in
    counted_from Told a.files _ _ _ c.recover_store.result (c.in_ok-make_if_none.ensures.cause.kept ∙ c.in_ok-sync_front.ensures.cause.kept)
    (cause_on (λ Says. TellsFiles d → Says) Told d.files a.files
    (tells_recovered a b d c.sync_front.ensures.disk c.make_if_none.ensures.told c.in_ok-make_if_none.ensures.store c.in_ok-make_if_none.ensures.head) _ _ c.recover_store.result c.recover_store.ensures.cause)
