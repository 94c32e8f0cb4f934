use Rattle.std.proofs.Common.{◌≡◌, ℕ, ◌≤◌, Bool, true, false, List, [], ◌∷◌, ◌++◌, length, drop, Option, refl, sym, ◌∙◌, subst, arith, inl, inr, ⊎_elim}
use Rattle.std.specs.Prelude.{IsTrue}
use Rattle.std.proofs.lemmas.List.{drop-append-le}
use Rattle.std.proofs.Math.Seq.{drop-append_seam}
use Rattle.std.proofs.lemmas.Bool.Decides.{eqb_tells}
use Rattle.rk_outside.specs.Disks.{Files, FileFacts, Facts, Moments, Disk, Change, Changes, FilesStayBut, IsUndone, TellsFiles, TellsMoments, IsHonest, facts_after, with_file, then_now, all_moments, moment, IsFileImage, IsImage, IsImageOfOne, IsImageNow, IsImageBut, LeavesOnly, LeavesFileOnly}
use Rattle.rk_outside.proofs.Moments.{goes_on, image_but, this_file, other_file}
use Rattle.rk_outside.proofs.Honest.{kept_done, kept_failed}

last_one : (fs : List Facts) (g : Facts) (image : Files) → IsImage g image → IsImageOfOne (fs ++ g ∷ []) image
last_one [] g image is = inl is
last_one (f ∷ fs) g image is = inr (last_one fs g image is)

pub now_since : (ms : Moments) (t : ℕ) (image : Files) → t ≤ length ms.past → IsImage ms.now image → IsImageOfOne (drop t (all_moments ms)) image
now_since ms t image le is = subst (λ fs. IsImageOfOne fs image) (sym (drop-append-le t ms.past (ms.now ∷ []) le)) (last_one (drop t ms.past) ms.now image is)

-- one change of the file more, which leaves of it what has P
leaves : (start mid new : Disk) (file : ℕ) (g : FileFacts) (P : Option (List ℕ) → Type 0) → IsHonest mid → LeavesFileOnly file start mid P →
    new.moments ≡ then_now (with_file file g mid.moments.now) mid.moments → ((image : Option (List ℕ)) → IsFileImage g image → P image) → LeavesFileOnly file start new P
leaves start mid new file g P honest so_far e here = goes_on start mid new (IsImageBut start file P) (with_file file g mid.moments.now) so_far e (λ image is.
    let p = here (image file) (subst (λ facts. IsFileImage facts (image file)) (this_file file g mid.moments.now) (is file)) in
    let one = image_but mid file g P image honest is p in
    let two = so_far.each one.before (now_since mid.moments (moment start) one.before so_far.later one.is_image) in
    record { before = two.before; is_image = two.is_image; others = λ f ne. one.others f ne ∙ two.others f ne; this = p })

pub stays_honest : (mid new : Disk) (file : ℕ) (g : FileFacts) → IsHonest mid → TellsFiles new → TellsMoments new → FilesStayBut file mid.files new.files →
    new.moments ≡ then_now (with_file file g mid.moments.now) mid.moments → IsFileImage g (new.files file) → IsHonest new
stays_honest mid new file g honest tells tells' others e k = record {
  tells_files = tells;
  tells_moments = tells';
  is_image = subst (λ ms. IsImage ms.now new.files) (sym e) (λ f. ⊎_elim
      (λ same. subst (λ h. IsFileImage (with_file file g mid.moments.now h) (new.files h)) (sym same.1)
      (subst (λ facts. IsFileImage facts (new.files file)) (sym (this_file file g mid.moments.now)) k))
      (λ other. subst (λ facts. IsFileImage facts (new.files f)) (sym (other_file file g mid.moments.now f other.1))
      (subst (IsFileImage (mid.moments.now f)) (sym (others f other.1)) (honest.is_image f)))
      (eqb_tells f file));
}

undone : (start mid new : Disk) (P : Files → Type 0) → IsHonest mid → TellsFiles new → TellsMoments new → IsUndone mid new → LeavesOnly start mid P → IsHonest new × LeavesOnly start new P
undone start mid new P honest tells tells' un so_far = (
  record {
    tells_files = tells;
    tells_moments = tells';
    is_image = subst (λ ms. IsImage ms.now new.files) (sym un.moments) (λ f. subst (IsFileImage (mid.moments.now f)) (sym (un.files f)) (honest.is_image f));
  },
  record {
    later = subst (λ ms. length start.moments.past ≤ length ms.past) (sym un.moments) so_far.later;
    each = λ image left. so_far.each image (subst (λ ms. IsImageOfOne (drop (moment start) (all_moments ms)) image) un.moments left);
    before = λ t image le left. so_far.before t image le (subst (λ ms. IsImageOfOne (drop t (all_moments ms)) image) un.moments left);
  },
)

-- A change of a journal's file: where each of its images by the new facts has P, the run goes on
pub step : (start mid new : Disk) (file : ℕ) (change : Change) (ok : Bool) (before now : ℕ) (P : Option (List ℕ) → Type 0) → IsHonest mid → LeavesFileOnly file start mid P →
    Changes file change ok before now mid new →
    ((image : Option (List ℕ)) → IsFileImage (facts_after ok (mid.files file) change (mid.moments.now file)) image → P image) →
    IsHonest new × LeavesFileOnly file start new P
step start mid new file change true before now P honest so_far changes here =
    let fs = changes.files honest.tells_files in
    let tells = subst IsTrue (sym changes.told.files) honest.tells_files in
    let tells' = subst IsTrue (sym changes.told.moments) honest.tells_moments in
    let ms = changes.moments honest.tells_files honest.tells_moments in
    let g = facts_after true (mid.files file) change (mid.moments.now file) in
    let k = subst (IsFileImage g) (sym fs.this) (kept_done change (mid.files file) (mid.moments.now file) (honest.is_image file)) in
    (stays_honest mid new file g honest tells tells' fs.others ms k, leaves start mid new file g P honest so_far ms here)
step start mid new file change false before now P honest so_far changes here =
    let fs = changes.files honest.tells_files in
    let tells = subst IsTrue (sym changes.told.files) honest.tells_files in
    let tells' = subst IsTrue (sym changes.told.moments) honest.tells_moments in
    let ms = changes.moments honest.tells_files honest.tells_moments in
    let g = facts_after false (mid.files file) change (mid.moments.now file) in
    let k = kept_failed change (mid.files file) (new.files file) (mid.moments.now file) fs.this (honest.is_image file) in
    ⊎_elim
    (λ e. (stays_honest mid new file g honest tells tells' fs.others e k, leaves start mid new file g P honest so_far e here))
    (λ un. undone start mid new (IsImageBut start file P) honest tells tells' un.1 so_far) ms

-- before the first change, where each image of now has P
pub started : (d : Disk) (file : ℕ) (P : Option (List ℕ) → Type 0) → ((image : Files) → IsImageNow d image → P (image file)) → LeavesFileOnly file d d P
started d file P here = record {
  later = omega arith;
  each = λ image left. ⊎_elim
      (λ now. record { before = image; is_image = now; others = λ f ne. refl; this = here image now })
      (λ none. absurd none)
      (subst (λ fs. IsImageOfOne fs image) (drop-append_seam d.moments.past (d.moments.now ∷ [])) left);
  before = λ t image le left. inl left;
}
