-- What an opening leaves stands for the first commits of a history.
use Rattle.std.proofs.Common.{◌≡◌, ℕ, true, false, [], take, ap, sym, subst, ◌∙◌, arith, inl, inr, ⊎_elim}
use Rattle.std.proofs.lemmas.Bool.{false≢true}
use Rattle.rk_outside.specs.Disks.{Files, Disk, IsHonest, LeavesOnly}
use Rattle.rk_outside.proofs.Runs.{leaves_less}
use Rattle.rk_model.specs.Operations.{History}
use Rattle.rk_opening.specs.Stores.{IsUnmade, has_magic, store_of}
use Rattle.rk_opening.specs.Openings.{IsMade, MayBeMade, MayBeLeft, Reads}
use Rattle.rk_opening.proofs.Alike.{front_is_alike}
use Rattle.rk_standing.specs.Stands.{AreStoreOf, Stands, StandsForFirst}
use Rattle.rk_standing.specs.Entering.{StandsAtEntry}
use Rattle.rk_standing.proofs.SameStores.{alike_store, alike_files}
use Rattle.rk_standing.proofs.Nothing.{new_stands}

-- with a head it is a store, and without one no store was made
pub with_head : (files : Files) (h : History) → has_magic (files 0) ≡ true → Stands files h → AreStoreOf files h
with_head files h head = ⊎_elim (λ un. absurd (false≢true (sym un.0.head ∙ head))) (λ is. is)

pub without_head : (files : Files) (h : History) → has_magic (files 0) ≡ false → Stands files h → IsUnmade files × (h ≡ [])
without_head files h none = ⊎_elim (λ un. un) (λ is. absurd (false≢true (sym none ∙ is.head)))

made_stands : (files : Files) → IsMade files → AreStoreOf files []
made_stands files is =
    let t = alike_store _ [] (store_of files) is.store new_stands in
    record { store = t.0; head = is.head; holds = t.1; stands = t.2 }

module _ (g : History) (k least : ℕ) (old : Disk) (entry : StandsAtEntry g k least old) where
  first : (image : Files) → Stands image (take k g) → StandsForFirst least g image
  first image stands = record { commits = k; some_of = entry.some_of; not_below = entry.not_above; stands = stands }

  nothing_yet : has_magic (old.files 0) ≡ false → take k g ≡ []
  nothing_yet none = (without_head old.files (take k g) none entry.reads).1

  made_image : has_magic (old.files 0) ≡ false → IsHonest old → (image : Files) → MayBeMade old image → Stands image (take k g)
  made_image none honest image = ⊎_elim
      (λ yet.
      let before = entry.images honest yet.before yet.is_image in
      let un = (without_head yet.before (take before.commits g) yet.had_no_head before.stands).0 in
      inl (
        record { head = yet.head; no_tables = λ f table. yet.others f (omega (arith, table)) ∙ un.no_tables f table },
        nothing_yet none,
      ))
      (λ made. inr (subst (AreStoreOf image) (sym (nothing_yet none)) (made_stands image made)))

  left_image : IsHonest old → (image : Files) → MayBeLeft old image → StandsForFirst least g image
  left_image honest image = ⊎_elim
      (λ now. entry.images honest image now)
      (⊎_elim
      (λ alike. first image (inr (alike_files old.files image (take k g) alike (with_head old.files (take k g) alike.had_head entry.reads))))
      (λ made. first image (made_image made.0 honest image made.1)))

  pub leaves_first : (new : Disk) → IsHonest old → LeavesOnly old new (MayBeLeft old) → LeavesOnly old new (StandsForFirst least g)
  leaves_first new honest = leaves_less old new (MayBeLeft old) (StandsForFirst least g) (left_image honest)

  pub reads_first : (new : Files) → Reads old.files new → Stands new (take k g)
  reads_first new = ⊎_elim
      (λ same. ⊎_elim
      (λ un. inl (record { head = ap has_magic (same 0) ∙ un.0.head; no_tables = λ f table. same f ∙ un.0.no_tables f table }, un.1))
      (λ is. inr (record {
        store = is.store;
        head = ap has_magic (same 0) ∙ is.head;
        holds = front_is_alike old.files new (λ f below. same f) ∙ is.holds;
        stands = is.stands;
      }))
      entry.reads)
      (⊎_elim
      (λ alike. inr (alike_files old.files new (take k g) alike (with_head old.files (take k g) alike.had_head entry.reads)))
      (λ un.
      let none = nothing_yet un.0.head in
      ⊎_elim
      (λ still. inl (still, none))
      (λ made. inr (subst (AreStoreOf new) (sym none) (made_stands new made)))
      un.1))
