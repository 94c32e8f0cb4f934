-- Changes of some files alone: none, a change of one of them, and several in a row.
use Rattle.std.specs.Prelude.{IsTrue}
use Rattle.std.proofs.Common.{◌≢◌, ℕ, Bool, Option, List, [], ◌∷◌, refl, sym, ◌∙◌, subst, arith, inl, ⊎_elim}
use Rattle.std.proofs.Math.Seq.{drop-append_seam}
use Rattle.rk_outside.specs.Disks.{Files, Disk, Change, Changes, IsHonest, IsImageBut, IsImageOfOne, moment}
use Rattle.rk_outside.proofs.Runs.{still_told, leaves_on, leaves_less}
use Rattle.rk_outside.proofs.Steps.{now_since}
use Rattle.rk_gate.specs.Calls.{ChangesFile}
use Rattle.rk_gate.specs.Changes.{IsAnything}
use Rattle.rk_gate.proofs.Runs.{no_change, any_step}
use Rattle.rk_opening.specs.Changing.{IsImageBesides, ChangesOnly}
use Rattle.rk_opening.specs.Syncing.{IsSettledAt}

pub none_changed : (May : ℕ → Type 0) (d : Disk) → ChangesOnly May d d
none_changed May d = record {
  told = record { files = refl; moments = refl };
  others = λ tells f not. refl;
  honest = λ honest. honest;
  crash = λ honest. record {
    later = omega arith;
    each = λ image left. ⊎_elim
        (λ now. record { before = image; is_image = now; others = λ f not. refl })
        (λ none. absurd none)
        (subst (λ fs. IsImageOfOne fs image) (drop-append_seam d.moments.past (d.moments.now ∷ [])) left);
    before = λ t image le left. inl left;
  };
}

-- a file that doesn't change is not one that may
other : (May : ℕ → Type 0) (file f : ℕ) → May file → (May f → ⊥) → f ≢ file
other May file f may not e = not (subst May (sym e) may)

-- a call that changes one such file
pub one_changed : (May : ℕ → Type 0) (old new : Disk) (file : ℕ) (P : Option (List ℕ) → Type 0) → May file → ChangesFile file old new P → ChangesOnly May old new
one_changed May old new file P may one = record {
  told = one.told;
  others = λ tells f not. one.others tells f (other May file f may not);
  honest = one.honest;
  crash = λ honest. leaves_less old new (IsImageBut old file P) (IsImageBesides May old)
      (λ image is. record { before = is.before; is_image = is.is_image; others = λ f not. is.others f (other May file f may not) })
      (one.crash honest);
}

-- one change of the vault
pub one_step : (old new : Disk) (file : ℕ) (change : Change) (ok : Bool) (before now : ℕ) → Changes file change ok before now old new → ChangesFile file old new IsAnything
one_step old new file change ok before now changes = any_step old old new file change ok before now (no_change old file IsAnything (λ honest image is. tt)) changes

-- what an image now has of the files that don't change, one had before
pub from_before : (May : ℕ → Type 0) (a b : Disk) → IsHonest a → ChangesOnly May a b → (image : Files) → IsImageBesides May b image → IsImageBesides May a image
from_before May a b honest one image is =
    let run = one.crash honest in
    let before = run.each is.before (now_since b.moments (moment a) is.before run.later is.is_image) in
    record { before = before.before; is_image = before.is_image; others = λ f not. is.others f not ∙ before.others f not }

pub then_changed : (May : ℕ → Type 0) (a b c : Disk) → ChangesOnly May a b → ChangesOnly May b c → ChangesOnly May a c
then_changed May a b c one two = record {
  told = still_told a b c one.told two.told;
  others = λ tells f not. two.others (subst IsTrue (sym one.told.files) tells) f not ∙ one.others tells f not;
  honest = λ honest. two.honest (one.honest honest);
  crash = λ honest. leaves_on a b c (IsImageBesides May a) (one.crash honest)
      (leaves_less b c (IsImageBesides May b) (IsImageBesides May a) (from_before May a b honest one) (two.crash (one.honest honest)));
}

-- a file that was settled is so behind a change of another one
pub settled_through : (a b : Disk) (file f : ℕ) (P : Option (List ℕ) → Type 0) → f ≢ file → (IsHonest b → IsHonest a) → ChangesFile file a b P → IsSettledAt f a → IsSettledAt f b
settled_through a b file f P ne back one settled honest image now =
    let before = back honest in
    let run = one.crash before in
    let is = run.each image (now_since b.moments (moment a) image run.later now) in
    is.others f ne ∙ settled before is.before is.is_image ∙ sym (one.others before.tells_files f ne)
