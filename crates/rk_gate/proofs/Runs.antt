-- Calls in a row that change one file, and what each image of it has.
use Rattle.std.proofs.Common.{◌≡◌, ℕ, Bool, List, Option, IsTrue, refl, sym, ◌∙◌, subst}
use Rattle.rk_outside.specs.Disks.{Disk, Change, Changes, IsHonest, IsFileImage, EachImage, LeavesFileOnly}
use Rattle.rk_outside.proofs.Runs.{still_told, leaves_file_on, leaves_file_less}
use Rattle.rk_outside.proofs.Steps.{started, step}
use Rattle.rk_gate.specs.Calls.{ChangesFile}
use Rattle.rk_gate.specs.Changes.{IsAnything}
use Rattle.rk_gate.specs.Reading.{IsSynced}
use Rattle.rk_gate.proofs.Images.{of_now}

-- what holds of each image of now, in that file
pub images_have : (d : Disk) (file : ℕ) (P : Option (List ℕ) → Type 0) → IsHonest d → EachImage d (λ image. P (image file)) → (x : Option (List ℕ)) → IsFileImage (d.moments.now file) x → P x
images_have d file P honest each x is = of_now d d file P honest (started d file P each) x is

pub no_change : (d : Disk) (file : ℕ) (P : Option (List ℕ) → Type 0) → (IsHonest d → EachImage d (λ image. P (image file))) → ChangesFile file d d P
no_change d file P each = record {
  told = record { files = refl; moments = refl };
  others = λ tells f ne. refl;
  honest = λ honest. honest;
  crash = λ honest. started d file P (each honest);
}

pub changes_less : (a b : Disk) (file : ℕ) (P Q : Option (List ℕ) → Type 0) → (IsHonest a → (x : Option (List ℕ)) → P x → Q x) → ChangesFile file a b P → ChangesFile file a b Q
changes_less a b file P Q weaken one = record {
  told = one.told;
  others = one.others;
  honest = one.honest;
  crash = λ honest. leaves_file_less a b file P Q (weaken honest) (one.crash honest);
}

-- one more call of the file, which leaves of it what has Q too
pub then_changes : (a b c : Disk) (file : ℕ) (P Q : Option (List ℕ) → Type 0) → ChangesFile file a b Q → ChangesFile file b c P → (IsHonest a → (x : Option (List ℕ)) → P x → Q x) → ChangesFile file a c Q
then_changes a b c file P Q one two weaken = record {
  told = still_told a b c one.told two.told;
  others = λ tells f ne. two.others (subst IsTrue (sym one.told.files) tells) f ne ∙ one.others tells f ne;
  honest = λ honest. two.honest (one.honest honest);
  crash = λ honest. leaves_file_on a b c file Q (one.crash honest) (leaves_file_less b c file P Q (weaken honest) (two.crash (one.honest honest)));
}

-- an image of a file that is synced is what a read gives
pub synced_image : (d : Disk) (file : ℕ) → IsSynced file d → IsHonest d → (x : Option (List ℕ)) → IsFileImage (d.moments.now file) x → x ≡ d.files file
synced_image d file synced honest x is = subst (λ f. IsFileImage f x) (synced honest.tells_files honest.tells_moments) is

-- the same disk, file and place under other names, as a call's result has them
pub record Moved (old old' : Disk) (file file' at at' : ℕ) : Type 0 where
  pub same_disk : old' ≡ old
  pub same_file : file' ≡ file
  pub same_place : at' ≡ at

pub moved : (S : Disk → ℕ → ℕ → Type 0) (old old' : Disk) (file file' at at' : ℕ) → Moved old old' file file' at at' → S old file at → S old' file' at'
moved S old old' file file' at at' m s =
    subst (λ d. S d file' at') (sym m.same_disk) (subst (λ f. S old f at') (sym m.same_file) (subst (λ k. S old file k) (sym m.same_place) s))

-- one more change of the file, of which nothing is said
pub any_step : (old mid new : Disk) (file : ℕ) (change : Change) (ok : Bool) (before now : ℕ) → ChangesFile file old mid IsAnything → Changes file change ok before now mid new → ChangesFile file old new IsAnything
any_step old mid new file change ok before now run change' =
    let go : IsHonest old → IsHonest new × LeavesFileOnly file old new IsAnything =
    (λ honest. step old mid new file change ok before now IsAnything (run.honest honest) (run.crash honest) change' (λ image left. tt)) in
    record {
      told = still_told old mid new run.told change'.told;
      others = λ tells f ne. (change'.files (subst IsTrue (sym run.told.files) tells)).others f ne ∙ run.others tells f ne;
      honest = λ honest. (go honest).0;
      crash = λ honest. (go honest).1;
    }
