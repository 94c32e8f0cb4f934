use Rattle.std.proofs.Common.{inl, ap, Err}
use Rattle.rk_outside.specs.declared.error.StoreError.TheVariants.{Memory}
use Rattle.rk_gate.specs.Changes.{HasAllOrNone}
use Rattle.rk_gate.specs.Records.{recovered_file}
use Rattle.rk_manifest.specs.Calls.{MayStart}
use Rattle.rk_manifest.proofs.Causes.{handed_back}
use Rattle.rk_manifest.proofs.Images.{same_disk, changes_less}
use Rattle.rk_manifest.proofs.Installing.{all_or_none}
use Rattle.rk_manifest.proofs.writing.empty_first.Goals as goal

pub returns-in_err-reset-clause-reserved : goal.returns-in_err-reset-clause-reserved
returns-in_err-reset-clause-reserved g c room e = c.in_err-reset.ensures.reserved room (ap Err (handed_back c.from_residual.result c.in_err-reset.field-0.0 Memory c.from_residual.ensures.1 e))

pub returns-in_ok-reset-clause-disk : goal.returns-in_ok-reset-clause-disk
returns-in_ok-reset-clause-disk g c =
    let file = c.args.journal.now.file in
    let a = g.V.Vault.disk c.args.vault.now in
    let b = g.V.Vault.disk c.reset.new.vault in
    changes_less a b file (HasAllOrNone (a.files file)) (MayStart c.args.emptied (a.files file)) (λ f. all_or_none c.args.emptied (a.files file) f c.if-emptied.true) c.reset.ensures.disk

pub returns-in_ok-reset-clause-there : goal.returns-in_ok-reset-clause-there
returns-in_ok-reset-clause-there g c honest image now = ap recovered_file (c.in_ok-reset.ensures.there honest image now)

pub returns-else-emptied-clause-disk : goal.returns-else-emptied-clause-disk
returns-else-emptied-clause-disk g c =
    let file = c.args.journal.now.file in
    let a = g.V.Vault.disk c.args.vault.now in
    same_disk a file (MayStart c.args.emptied (a.files file)) (λ honest image now. inl (c.requires.images honest image now))
