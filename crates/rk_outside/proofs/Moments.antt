use Rattle.std.proofs.Common.{◌≡◌, ◌≢◌, ℕ, ◌-◌, ◌^◌, ◌≤◌, ◌<◌, false, List, [], ◌∷◌, ◌++◌, length, drop, Option, refl, sym, ap, subst, arith, inl, inr, ⊎_elim, ◌⊎◌, cond}
use Rattle.std.proofs.lemmas.List.{drop-append-le, length-append}
use Rattle.std.proofs.lemmas.Bool.Decides.{eqb_tells}
use Rattle.rk_outside.specs.Disks.{Files, FileFacts, Facts, Moments, Disk, Change, Changes, TellsFiles, TellsMoments, IsHonest, moments_after, with_file, then_now, all_moments, moment, IsFileImage, IsImage, IsImageOfOne, IsImageBut, LeavesOnly}

of_more : (fs : List Facts) (g : Facts) (image : Files) → IsImageOfOne (fs ++ g ∷ []) image → IsImageOfOne fs image ⊎ IsImage g image
of_more [] g image (inl now) = inr now
of_more [] g image (inr none) = absurd none
of_more (f ∷ fs) g image (inl this) = inl (inl this)
of_more (f ∷ fs) g image (inr more) = ⊎_elim (λ l. inl (inr l)) (λ r. inr r) (of_more fs g image more)

since_more : (ms : Moments) (g : Facts) (t : ℕ) (image : Files) → t ≤ length ms.past → IsImageOfOne (drop t (all_moments (then_now g ms))) image →
    IsImageOfOne (drop t (all_moments ms)) image ⊎ IsImage g image
since_more ms g t image le of =
    let cut = drop-append-le t (all_moments ms) (g ∷ []) (omega (arith, le, length-append ms.past (ms.now ∷ []))) in
    of_more (drop t (all_moments ms)) g image (subst (λ fs. IsImageOfOne fs image) cut of)

since_step : (new mid : Moments) (g : Facts) → new ≡ then_now g mid → (t : ℕ) → t ≤ length mid.past → (image : Files) →
    IsImageOfOne (drop t (all_moments new)) image → IsImageOfOne (drop t (all_moments mid)) image ⊎ IsImage g image
since_step new mid g e t le image of = since_more mid g t image le (subst (λ ms. IsImageOfOne (drop t (all_moments ms)) image) e of)

longer : (new mid : Moments) (g : Facts) → new ≡ then_now g mid → length mid.past ≤ length new.past
longer new mid g e = subst (λ ms. length mid.past ≤ length ms.past) (sym e) (omega (arith, length-append mid.past (mid.now ∷ [])))

-- one change more, after which each image has P
pub goes_on : (old mid new : Disk) (P : Files → Type 0) (g : Facts) → LeavesOnly old mid P → new.moments ≡ then_now g mid.moments → ((image : Files) → IsImage g image → P image) → LeavesOnly old new P
goes_on old mid new P g so_far e here = record {
  later = omega (arith, so_far.later, longer new.moments mid.moments g e);
  each = λ image left. ⊎_elim (so_far.each image) (here image) (since_step new.moments mid.moments g e (moment old) so_far.later image left);
  before = λ t image le left. ⊎_elim (so_far.before t image le) (λ now. inr (here image now)) (since_step new.moments mid.moments g e t (omega (arith, le, so_far.later)) image left);
}

pub this_file : {A : Type 0} (file : ℕ) (a : A) (all : ℕ → A) → with_file file a all file ≡ a
this_file file a all = ⊎_elim (λ e. ap (λ b. cond b a (all file)) e.0) (λ e. absurd (e.1 refl)) (eqb_tells file file)

pub other_file : {A : Type 0} (file : ℕ) (a : A) (all : ℕ → A) (f : ℕ) → f ≢ file → with_file file a all f ≡ all f
other_file file a all f ne = ⊎_elim (λ e. absurd (ne e.1)) (λ e. ap (λ b. cond b a (all f)) e.0) (eqb_tells f file)

-- an image after a change of one file is, but for that file, one of before it
pub image_but : (d : Disk) (file : ℕ) (a : FileFacts) (P : Option (List ℕ) → Type 0) (image : Files) → IsHonest d → IsImage (with_file file a d.moments.now) image → P (image file) → IsImageBut d file P image
image_but d file a P image honest is p = record {
  before = with_file file (d.files file) image;
  is_image = λ f. ⊎_elim
      (λ e. subst (λ g. IsFileImage (d.moments.now g) (with_file file (d.files file) image g)) (sym e.1)
      (subst (IsFileImage (d.moments.now file)) (sym (this_file file (d.files file) image)) (honest.is_image file)))
      (λ e. subst (IsFileImage (d.moments.now f)) (sym (other_file file (d.files file) image f e.1))
      (subst (λ facts. IsFileImage facts (image f)) (other_file file a d.moments.now f e.1) (is f)))
      (eqb_tells f file);
  others = λ f ne. sym (other_file file (d.files file) image f ne);
  this = p;
}

-- a change that failed has its moment where the count of those that could not be noted stayed
pub noted : (file : ℕ) (change : Change) (count : ℕ) (old new : Disk) → count < 2 ^ 64 - 1 → TellsFiles old → TellsMoments old →
    Changes file change false count count old new → new.moments ≡ moments_after file change false old.files old.moments
noted file change count old new few tells tells' changes =
    ⊎_elim (λ e. e) (λ un. absurd (omega (arith, few, un.0))) (changes.moments tells tells')
