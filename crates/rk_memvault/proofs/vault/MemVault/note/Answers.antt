-- A call that changes nothing leaves the disk, whether or not it was noted.
use Rattle.std.proofs.Common.{refl, subst, ◌≡◌}
use Rattle.rk_memvault.specs.Records.{disk_of}
use Rattle.rk_memvault.specs.contracts.vault.MemVault.{the_view}
use Rattle.rk_memvault.proofs.Replays.{same_noted, tied_same}
use Rattle.rk_memvault.proofs.vault.MemVault.note.Goals as goal

pub invariant_of-self : goal.invariant_of-self
invariant_of-self c =
    let old = the_view c.self.inside in
    let new = record old { kept = c.note.new.self } in
    tied_same old new c.self.invariant (λ f. refl) (same_noted c.note.result old new c.args.call _ c.requires refl c.note.ensures.done c.note.ensures.failed)

pub returns-clause-same : goal.returns-clause-same
returns-clause-same c =
    let old = the_view c.self.inside in
    let new = record old { kept = c.note.new.self } in
    subst (λ m. disk_of new ≡ disk_of m) c.self.view_is (same_noted c.note.result old new c.args.call _ c.requires refl c.note.ensures.done c.note.ensures.failed)
