-- A new store, as reads give it and in each image, while it is made.
use Rattle.std.specs.Prelude.{IsTrue}
use Rattle.std.proofs.Common.{◌≡◌, ◌≢◌, ℕ, ◌≤◌, ◌<◌, Bool, true, false, ◌⊎◌, Some, None, [], ◌∷◌, Ok, refl, sym, ◌∙◌, ap, subst, arith, inl, inr, ⊎_elim}
use Rattle.rk_outside.specs.Disks.{Files, Disk, TellsFiles, TellsAlike, IsHonest, IsImageBut, EachImage, LeavesOnly, moment}
use Rattle.rk_outside.proofs.Runs.{still_told, leaves_on, leaves_less}
use Rattle.rk_outside.proofs.Steps.{now_since}
use Rattle.rk_pieces.specs.Pieces.{then_do}
use Rattle.rk_gate.specs.Calls.{ChangesFile}
use Rattle.rk_gate.specs.Changes.{IsAnything}
use Rattle.rk_manifest.specs.Manifests.{manifest_of}
use Rattle.rk_opening.specs.Stores.{IsUnmade, new_store, has_magic, store_of, AreAlike}
use Rattle.rk_opening.specs.Openings.{IsMade, IsUnmadeYet, MayBeMade, OthersStayAbove}
use Rattle.rk_opening.specs.Changing.{IsImageBesides, ChangesOnly, IsJournal}
use Rattle.rk_opening.specs.Syncing.{IsSettledAt}
use Rattle.rk_opening.proofs.Alike.{logs_by}

true_or_false : (b : Bool) → (b ≡ true) ⊎ (b ≡ false)
true_or_false true = inl refl
true_or_false false = inr refl

not_head : IsJournal 0 → ⊥
not_head is = absurd (omega (arith, is.0))

not_above : (f : ℕ) → 5 ≤ f → IsJournal f → ⊥
not_above f above is = absurd (omega (arith, is.1, above))

-- the four journals are empty
abbrev pub AreEmpty : Files → Type 0
AreEmpty files = (f : ℕ) → IsJournal f → files f ≡ Some (0 ∷ [])

is_journal : (f : ℕ) → 1 ≤ f → f < 5 → IsJournal f
is_journal f one five = (one, five)

pub made : (files : Files) → AreEmpty files → store_of files ≡ Ok new_store
made files empty =
    let first = empty 1 (is_journal 1 (omega arith) (omega arith)) in
    let second = empty 2 (is_journal 2 (omega arith) (omega arith)) in
    let third = empty 3 (is_journal 3 (omega arith) (omega arith)) in
    let fourth = empty 4 (is_journal 4 (omega arith) (omega arith)) in
    λ i. then_do (manifest_of (third i) (fourth i)) (λ version. then_do (logs_by version.flushed_upto (first i) (second i)) (λ l. Ok (record { version = version; logs = l })))

alike_made : (files : Files) → AreEmpty files → AreAlike (Ok new_store) (store_of files)
alike_made files empty = subst (AreAlike (Ok new_store)) (sym (made files empty)) refl

-- what is read with or without a head, where the journals are empty and there is no table
made_or_not : (files : Files) → AreEmpty files → ((f : ℕ) → 16 ≤ f → files f ≡ None) → IsUnmade files ⊎ IsMade files
made_or_not files empty none = ⊎_elim
    (λ head. inr (record { head = head; store = alike_made files empty }))
    (λ head. inl (record { head = head; no_tables = none }))
    (true_or_false (has_magic (files 0)))

-- while the journals are made there is no store
module _ (a b : Disk) (journals : ChangesOnly IsJournal a b) where
  pub still_unmade : TellsFiles a → IsUnmade a.files → IsUnmade b.files
  still_unmade tells un = record {
    head = ap has_magic (journals.others tells 0 not_head) ∙ un.head;
    no_tables = λ f table. journals.others tells f (not_above f (omega (arith, table))) ∙ un.no_tables f table;
  }

  unmade_image : EachImage a (λ image. has_magic (image 0) ≡ false) → (image : Files) → IsImageBesides IsJournal a image → IsUnmadeYet a image
  unmade_image no_head image is = record {
    head = ap has_magic (is.others 0 not_head) ∙ no_head is.before is.is_image;
    before = is.before;
    is_image = is.is_image;
    had_no_head = no_head is.before is.is_image;
    others = λ f above. is.others f (not_above f above);
  }

  pub leaves_unmade : IsHonest a → EachImage a (λ image. has_magic (image 0) ≡ false) → LeavesOnly a b (MayBeMade a)
  leaves_unmade honest no_head = leaves_less a b (IsImageBesides IsJournal a) (MayBeMade a) (λ image is. inl (unmade_image no_head image is)) (journals.crash honest)

  -- and then the head is written
  module _ (d : Disk) (head : ChangesFile 0 b d IsAnything) (empty : TellsFiles a → AreEmpty b.files) (settled : (f : ℕ) → IsJournal f → IsSettledAt f b) where
    still : TellsFiles a → TellsFiles b
    still tells = subst IsTrue (sym journals.told.files) tells

    other : (f : ℕ) → 1 ≤ f → f ≢ 0
    other f one e = absurd (omega (arith, one, e))

    pub empty_behind : TellsFiles a → AreEmpty d.files
    empty_behind tells f is = head.others (still tells) f (other f is.0) ∙ empty tells f is

    pub reads_behind : TellsFiles a → IsUnmade a.files → IsUnmade d.files ⊎ IsMade d.files
    reads_behind tells un = made_or_not d.files (empty_behind tells) (λ f table.
        head.others (still tells) f (other f (omega (arith, table))) ∙ (still_unmade tells un).no_tables f table)

    pub others_behind : TellsFiles a → OthersStayAbove a.files d.files
    others_behind tells f above = head.others (still tells) f (other f (omega (arith, above))) ∙ journals.others tells f (not_above f above)

    image_behind : IsHonest a → EachImage a (λ image. has_magic (image 0) ≡ false) → (image : Files) → IsImageBut b 0 IsAnything image → MayBeMade a image
    image_behind honest no_head image is = ⊎_elim
        (λ magic. inr (record { head = magic; store = alike_made image empty_image }))
        (λ none. inl (record {
          head = none;
          before = first.before;
          is_image = first.is_image;
          had_no_head = no_head first.before first.is_image;
          others = λ f above. is.others f (other f (omega (arith, above))) ∙ first.others f (not_above f above);
        }))
        (true_or_false (has_magic (image 0)))
      where
        first : IsImageBesides IsJournal a is.before
        first = (journals.crash honest).each is.before (now_since b.moments (moment a) is.before (journals.crash honest).later is.is_image)

        empty_image : AreEmpty image
        empty_image f journal = is.others f (other f journal.0) ∙ settled f journal (journals.honest honest) is.before is.is_image ∙ empty honest.tells_files f journal

    pub leaves_behind : IsHonest a → EachImage a (λ image. has_magic (image 0) ≡ false) → LeavesOnly a d (MayBeMade a)
    leaves_behind honest no_head = leaves_on a b d (MayBeMade a) (leaves_unmade honest no_head)
        (leaves_less b d (IsImageBut b 0 IsAnything) (MayBeMade a) (image_behind honest no_head) (head.crash (journals.honest honest)))

    pub told_behind : TellsAlike a d
    told_behind = still_told a b d journals.told head.told
