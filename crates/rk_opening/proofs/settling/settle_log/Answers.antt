use Rattle.std.proofs.Common.{◌≡◌, true, ap, inl}
use Rattle.rk_pieces.specs.Pieces.{is_empty}
use Rattle.rk_gate.specs.Changes.{HasAllOrNone}
use Rattle.rk_gate.specs.Records.{recovered_file}
use Rattle.rk_gate.proofs.Runs.{no_change, changes_less}
use Rattle.rk_log.specs.Logs.{later}
use Rattle.rk_opening.specs.Settling.{MayBeSettled}
use Rattle.rk_opening.proofs.Alike.{reset_settles}
use Rattle.rk_opening.proofs.settling.settle_log.Goals as goal

pub returns-in_err-reset-clause-disk : goal.returns-in_err-reset-clause-disk
returns-in_err-reset-clause-disk g c =
    let groups = c.args.log.now.groups.items in
    let file = c.args.log.now.journal.file in
    let flushed = c.args.flushed in
    let old = g.V.Vault.disk c.args.vault.now in
    let new = g.V.Vault.disk c.reset.new.vault in
    let in_tables : true ≡ is_empty (later flushed groups) = cc (c.is_in_tables.ensures, c.if-is_in_tables.true, c.deref.ensures.value) in
    changes_less old new file (HasAllOrNone (old.files file)) (MayBeSettled flushed groups (old.files file))
    (λ honest. reset_settles flushed groups in_tables (old.files file)) c.reset.ensures.disk

pub returns-else-not-is_empty-clause-disk : goal.returns-else-not-is_empty-clause-disk
returns-else-not-is_empty-clause-disk g c =
    let log = c.args.log.now in
    let old = g.V.Vault.disk c.args.vault.now in
    no_change old log.journal.file (MayBeSettled c.args.flushed log.groups.items (old.files log.journal.file))
    (λ honest image now. inl (ap recovered_file (c.requires.settled honest image now)))
