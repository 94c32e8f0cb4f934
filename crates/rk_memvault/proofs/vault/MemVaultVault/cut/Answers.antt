use Rattle.std.proofs.Common.{refl, sym, subst}
use Rattle.rk_memvault.specs.declared.record.Edit.TheVariants.{Cut}
use Rattle.rk_memvault.specs.Records.{disk_of}
use Rattle.rk_memvault.specs.Honesty.{disk_honest}
use Rattle.rk_memvault.specs.contracts.vault.MemVault.{the_view}
use Rattle.rk_memvault.proofs.Replays.{changed, refused, tied_done, tied_refused, no_longer}
use Rattle.std.proofs.Common.{◌≤◌, length, IfSome}
use Rattle.rk_memvault.proofs.vault.MemVaultVault.cut.Goals as goal

pub invariant_of-self : goal.invariant_of-self
invariant_of-self c =
    let old = the_view c.self.inside in
    let new = record old { kept = c.note.new.self } in tied_refused old new c.args.file (Cut c.args.len) _ refl refl c.in_err-note.ensures.failed c.self.invariant

pub returns-in_err-note-clause-change : goal.returns-in_err-note-clause-change
returns-in_err-note-clause-change c =
    let old = the_view c.self.inside in
    let new = record old { kept = c.note.new.self } in
    refused c.from_residual.result old c.args.self.now new c.args.file (Cut c.args.len) _ c.from_residual.ensures.0 c.self.view_is refl c.in_err-note.ensures.later c.in_err-note.ensures.failed
    (no_longer c.args.len _ (subst (λ m. IfSome ((disk_of m).files c.args.file) (λ bytes. c.args.len ≤ length bytes)) (sym c.self.view_is) (c.requires.len (disk_honest c.args.self.now).tells_files)))

pub invariant_of-self-2 : goal.invariant_of-self-2
invariant_of-self-2 c =
    let old = the_view c.self.inside in
    let new = record old { kept = c.note.new.self; slots = c.cut.new.self } in tied_done old new c.args.file (Cut c.args.len) refl c.in_ok-note.ensures.done c.self.invariant c.cut.ensures.files

pub returns-clause-change : goal.returns-clause-change
returns-clause-change c =
    let old = the_view c.self.inside in
    let new = record old { kept = c.note.new.self; slots = c.cut.new.self } in changed old c.args.self.now new c.args.file (Cut c.args.len) c.self.view_is refl c.in_ok-note.ensures.done (no_longer c.args.len _ (subst (λ m. IfSome ((disk_of m).files c.args.file) (λ bytes. c.args.len ≤ length bytes)) (sym c.self.view_is) (c.requires.len (disk_honest c.args.self.now).tells_files)))

pub cut-requires : goal.cut-requires
cut-requires c =
    subst (λ file. IfSome file (λ bytes. c.args.len ≤ length bytes)) (sym (c.self.invariant c.args.file))
    (subst (λ m. IfSome ((disk_of m).files c.args.file) (λ bytes. c.args.len ≤ length bytes)) (sym c.self.view_is) (c.requires.len (disk_honest c.args.self.now).tells_files))
