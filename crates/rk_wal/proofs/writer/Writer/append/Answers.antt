use Rattle.std.proofs.Common.{◌≡◌, ◌⊎◌, ℕ, Bool, true, false, List, ap, subst, sym, ◌∙◌}
use Rattle.rk_outside.specs.Disks.{Disk, IsHonest, EachImage, LeavesOnly}
use Rattle.rk_outside.proofs.Runs.{honest_before}
use Rattle.rk_gate.specs.Calls.{ChangesFile}
use Rattle.rk_gate.specs.Changes.{HasWithOrWithout}
use Rattle.rk_manifest.proofs.Causes.{on_ok}
use Rattle.rk_wal.specs.Writing.{HasStoreOf, HasMore}
use Rattle.rk_wal.proofs.Appending.{appended_image, settled_image}
use Rattle.rk_wal.proofs.writer.Writer.append.Goals as goal

changed : (file file' : ℕ) (payload : List ℕ) (a b : Disk) → file ≡ file' → ChangesFile file a b (HasWithOrWithout payload (a.files file)) → ChangesFile file' a b (HasWithOrWithout payload (a.files file'))
changed file file' payload a b same = subst (λ f. ChangesFile f a b (HasWithOrWithout payload (a.files f))) same

there_in : (file file' : ℕ) (b : Disk) → file ≡ file' → (IsHonest b → EachImage b (λ image. image file ≡ b.files file)) → IsHonest b → EachImage b (λ image. image file' ≡ b.files file')
there_in file file' b same = subst (λ f. IsHonest b → EachImage b (λ image. image f ≡ b.files f)) same

left_by : (t u : Bool) (payload : List ℕ) (a b : Disk) → t ≡ u → LeavesOnly a b (λ image. HasStoreOf a.files image ⊎ HasMore t payload a.files image)
    → LeavesOnly a b (λ image. HasStoreOf a.files image ⊎ HasMore u payload a.files image)
left_by t u payload a b same = subst (λ x. LeavesOnly a b (λ image. HasStoreOf a.files image ⊎ HasMore x payload a.files image)) same

pub returns-then-self-clause-crash : goal.returns-then-self-clause-crash
returns-then-self-clause-crash g c = λ honest.
    let a = g.V.Vault.disk c.args.vault.now in
    let b = g.V.Vault.disk c.append.new.vault in
    left_by true c.args.self.now.in_second c.args.payload.now a b (sym c.if-self.true ∙ ap (λ w. w.in_second) c.self.view_is)
    (appended_image true c.args.payload.now a b honest (c.requires.images honest)
    (changed c.self.inside.second.file _ c.args.payload.now a b c.self.invariant.1 c.append.ensures.disk))

pub returns-then-self-clause-there : goal.returns-then-self-clause-there
returns-then-self-clause-there g c =
    let a = g.V.Vault.disk c.args.vault.now in
    let b = g.V.Vault.disk c.append.new.vault in
    let law = (g.met.V.Vault g.world.𝓛 g.world.𝓜 g.world.𝓡 ((λ s x. x), (λ x. x), (λ x. x), λ x. x)).honest c.args.vault.now in
    on_ok c.append.result _ _ (λ there. settled_image true c.args.payload.now a b (honest_before a b c.append.ensures.disk.told law) c.requires.images
    (changed c.self.inside.second.file _ c.args.payload.now a b c.self.invariant.1 c.append.ensures.disk)
    (there_in c.self.inside.second.file _ b c.self.invariant.1 there)) c.append.ensures.there

pub returns-else-self-clause-crash : goal.returns-else-self-clause-crash
returns-else-self-clause-crash g c = λ honest.
    let a = g.V.Vault.disk c.args.vault.now in
    let b = g.V.Vault.disk c.append-else-self.new.vault in
    left_by false c.args.self.now.in_second c.args.payload.now a b (sym c.if-self.false ∙ ap (λ w. w.in_second) c.self.view_is)
    (appended_image false c.args.payload.now a b honest (c.requires.images honest)
    (changed c.self.inside.first.file _ c.args.payload.now a b c.self.invariant.0 c.append-else-self.ensures.disk))

pub returns-else-self-clause-there : goal.returns-else-self-clause-there
returns-else-self-clause-there g c =
    let a = g.V.Vault.disk c.args.vault.now in
    let b = g.V.Vault.disk c.append-else-self.new.vault in
    let law = (g.met.V.Vault g.world.𝓛 g.world.𝓜 g.world.𝓡 ((λ s x. x), (λ x. x), (λ x. x), λ x. x)).honest c.args.vault.now in
    on_ok c.append-else-self.result _ _ (λ there. settled_image false c.args.payload.now a b (honest_before a b c.append-else-self.ensures.disk.told law) c.requires.images
    (changed c.self.inside.first.file _ c.args.payload.now a b c.self.invariant.0 c.append-else-self.ensures.disk)
    (there_in c.self.inside.first.file _ b c.self.invariant.0 there)) c.append-else-self.ensures.there
