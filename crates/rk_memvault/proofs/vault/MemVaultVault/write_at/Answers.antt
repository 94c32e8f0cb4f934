use Rattle.std.proofs.Common.{refl, sym, subst}
use Rattle.rk_memvault.specs.declared.record.Edit.TheVariants.{Write}
use Rattle.rk_memvault.specs.Records.{disk_of}
use Rattle.rk_memvault.specs.Honesty.{disk_honest}
use Rattle.rk_memvault.specs.contracts.vault.MemVault.{the_view}
use Rattle.rk_memvault.proofs.Replays.{changed, refused, tied_done, tied_refused}
use Rattle.std.proofs.Common.{◌≤◌, length, unwrap_or, []}
use Rattle.rk_outside.specs.Disks.{bytes_in}
use Rattle.rk_memvault.proofs.vault.MemVaultVault.write_at.Goals as goal

pub invariant_of-self : goal.invariant_of-self
invariant_of-self c =
    let old = the_view c.self.inside in
    let new = record old { kept = c.note_write.new.self } in tied_refused old new c.args.file (Write c.args.at c.args.bytes.now) _ refl refl c.in_err-note_write.ensures.failed c.self.invariant

pub returns-in_err-note_write-clause-change : goal.returns-in_err-note_write-clause-change
returns-in_err-note_write-clause-change c =
    let old = the_view c.self.inside in
    let new = record old { kept = c.note_write.new.self } in
    refused c.from_residual.result old c.args.self.now new c.args.file (Write c.args.at c.args.bytes.now) _ c.from_residual.ensures.0 c.self.view_is refl c.in_err-note_write.ensures.later c.in_err-note_write.ensures.failed
    tt

pub invariant_of-self-2 : goal.invariant_of-self-2
invariant_of-self-2 c =
    let old = the_view c.self.inside in
    let new = record old { kept = c.note_write.new.self; slots = c.write_at.new.self } in tied_done old new c.args.file (Write c.args.at c.args.bytes.now) refl c.in_ok-note_write.ensures.done c.self.invariant c.write_at.ensures.files

pub returns-clause-change : goal.returns-clause-change
returns-clause-change c =
    let old = the_view c.self.inside in
    let new = record old { kept = c.note_write.new.self; slots = c.write_at.new.self } in changed old c.args.self.now new c.args.file (Write c.args.at c.args.bytes.now) c.self.view_is refl c.in_ok-note_write.ensures.done tt

pub write_at-requires-clause-at : goal.write_at-requires-clause-at
write_at-requires-clause-at c =
    subst (λ file. c.args.at ≤ length (unwrap_or file [])) (sym (c.self.invariant c.args.file))
    (subst (λ m. c.args.at ≤ length (bytes_in (disk_of m).files c.args.file)) (sym c.self.view_is) (c.requires.at (disk_honest c.args.self.now).tells_files))
