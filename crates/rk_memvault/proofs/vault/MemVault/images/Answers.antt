-- Each image is by the traces at the moment, and those are by the crash facts.
use Rattle.std.proofs.Common.{Some, subst}
use Rattle.std.specs.Prelude.{IfOk}
use Rattle.rk_memvault.specs.Images.{AreTracesAt, AreLeftAt}
use Rattle.rk_memvault.specs.contracts.vault.MemVault.{the_view}
use Rattle.rk_memvault.proofs.Scenes.{left_of}
use Rattle.rk_memvault.proofs.vault.MemVault.images.Goals as goal

pub returns-in-Some-clause-left : goal.returns-in-Some-clause-left
returns-in-Some-clause-left c =
    let fill = c.args.fill in
    let at = c.args.moment in
    let scene = c.in-Some.scene in
    let found = subst (AreTracesAt fill at c.deref.result.now c.entries.result.now) c.in-Some.is c.in_ok-scene.ensures in
    let origin = subst (λ files. AreTracesAt fill at files c.entries.result.now (Some scene)) c.deref.ensures.value found in
    let entries = subst (λ entries. AreTracesAt fill at c.self.inside.origin.items entries (Some scene)) c.entries.ensures origin in
    subst (λ m. IfOk c.images_of.result (λ images. AreLeftAt at m images.items)) c.self.view_is
    (left_of (λ images. images.items) fill at (the_view c.self.inside) scene c.images_of.result entries c.images_of.ensures)
