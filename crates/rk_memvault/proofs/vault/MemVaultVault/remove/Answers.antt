use Rattle.std.proofs.Common.{refl}
use Rattle.rk_memvault.specs.declared.record.Edit.TheVariants.{Remove}
use Rattle.rk_memvault.specs.contracts.vault.MemVault.{the_view}
use Rattle.rk_memvault.proofs.Replays.{changed, refused, tied_done, tied_refused}
use Rattle.rk_memvault.proofs.vault.MemVaultVault.remove.Goals as goal

pub invariant_of-self : goal.invariant_of-self
invariant_of-self c =
    let old = the_view c.self.inside in
    let new = record old { kept = c.note.new.self } in tied_refused old new c.args.file Remove _ refl refl c.in_err-note.ensures.failed c.self.invariant

pub returns-in_err-note-clause-change : goal.returns-in_err-note-clause-change
returns-in_err-note-clause-change c =
    let old = the_view c.self.inside in
    let new = record old { kept = c.note.new.self } in
    refused c.from_residual.result old c.args.self.now new c.args.file Remove _ c.from_residual.ensures.0 c.self.view_is refl c.in_err-note.ensures.later c.in_err-note.ensures.failed
    tt

pub invariant_of-self-2 : goal.invariant_of-self-2
invariant_of-self-2 c =
    let old = the_view c.self.inside in
    let new = record old { kept = c.note.new.self; slots = c.remove.new.self } in tied_done old new c.args.file Remove refl c.in_ok-note.ensures.done c.self.invariant c.remove.ensures.files

pub returns-clause-change : goal.returns-clause-change
returns-clause-change c =
    let old = the_view c.self.inside in
    let new = record old { kept = c.note.new.self; slots = c.remove.new.self } in changed old c.args.self.now new c.args.file Remove c.self.view_is refl c.in_ok-note.ensures.done tt
