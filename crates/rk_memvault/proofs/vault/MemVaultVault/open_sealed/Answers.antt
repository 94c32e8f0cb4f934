-- The slot's bytes were copied, and they are those of the disk.
use Rattle.std.proofs.Common.{[], unwrap_or, ap, ◌∙◌}
use Rattle.rk_memvault.specs.Records.{disk_of}
use Rattle.rk_memvault.specs.Honesty.{disk_honest}
use Rattle.rk_memvault.proofs.Replays.{as_it_is}
use Rattle.rk_memvault.proofs.vault.MemVaultVault.open_sealed.Goals as goal

pub returns-clause-held : goal.returns-clause-held
returns-clause-held c =
    let file = (disk_of c.args.self.now).files c.args.file in
    let slot = c.self.invariant c.args.file ∙ ap (λ m. (disk_of m).files c.args.file) c.self.view_is ∙ ap (λ d. d.files c.args.file) c.note.ensures.same in
    as_it_is file c.new.result (c.requires.there (disk_honest c.args.self.now).tells_files)
    (c.new.ensures ∙ c.in_ok-to_vec.ensures.items_if_clones_equal (λ x y e. e) ∙ c.bytes.ensures ∙ ap (λ f. unwrap_or f []) slot)
