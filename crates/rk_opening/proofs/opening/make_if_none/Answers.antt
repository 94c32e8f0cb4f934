use Rattle.std.proofs.Common.{◌≡◌, ℕ, ◌<◌, false, None, sym, ◌∙◌, ap, subst, arith, inr}
use Rattle.rk_outside.specs.Disks.{TellsFiles, IsHonest, EachImage}
use Rattle.rk_manifest.proofs.Causes.{on_ok}
use Rattle.rk_opening.specs.Stores.{has_magic}
use Rattle.rk_opening.specs.Openings.{IsLeast, OthersStayAbove}
use Rattle.rk_opening.specs.Syncing.{IsSettledAt}
use Rattle.rk_opening.proofs.opening.make_if_none.Goals as goal

pub returns-then-branch-clause-settled : goal.returns-then-branch-clause-settled
returns-then-branch-clause-settled g c = subst (λ d. (f : ℕ) → f < 5 → IsSettledAt f d) (sym c.has_head.ensures.same) c.requires.settled

pub make_store-requires-clause-images : goal.make_store-requires-clause-images
make_store-requires-clause-images g c κs within =
    subst (λ d. IsHonest d → EachImage d (λ image. has_magic (image 0) ≡ false)) (sym (c.least_table.ensures.same ∙ c.has_head.ensures.same))
    (λ honest image now. ap has_magic (c.requires.settled 0 (omega arith) honest image now) ∙ sym (c.in_ok-has_head.ensures.head honest.tells_files) ∙ c.if-branch.false)

pub returns-clause-head : goal.returns-clause-head
returns-clause-head g c =
    let same = c.least_table.ensures.same ∙ c.has_head.ensures.same in
    on_ok c.make_store.result _ _ (λ head tells. head (subst TellsFiles (sym same) tells)) c.make_store.ensures.head

pub returns-clause-store : goal.returns-clause-store
returns-clause-store g c =
    let a = g.V.Vault.disk c.args.vault.now in
    let same = c.least_table.ensures.same ∙ c.has_head.ensures.same in
    on_ok c.make_store.result _ _ (λ store tells.
    let still = subst TellsFiles (sym same) tells in
    inr (
      record {
        head = sym (c.in_ok-has_head.ensures.head tells) ∙ c.if-branch.false;
        no_tables = subst (λ d. IsLeast d.files None) c.has_head.ensures.same
            (subst (IsLeast (g.V.Vault.disk c.has_head.new.vault).files) c.in_default.is (c.in_ok-file.ensures.least (subst TellsFiles (sym c.has_head.ensures.same) tells)));
      },
      store still,
      subst (λ d. OthersStayAbove d.files (g.V.Vault.disk c.make_store.new.vault).files) same (c.make_store.ensures.others still),
    )) c.make_store.ensures.store
