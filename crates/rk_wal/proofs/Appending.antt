-- What each image has after a payload was added to a log.
use Rattle.std.proofs.Common.{◌≡◌, ◌≢◌, ℕ, ◌⊎◌, Bool, true, false, List, sym, ◌∙◌, ap, arith, inl, inr, ⊎_elim}
use Rattle.std.specs.Prelude.{not}
use Rattle.rk_outside.specs.Disks.{Files, Disk, IsHonest, IsImageBut, EachImage, LeavesOnly, moment}
use Rattle.rk_outside.proofs.Runs.{leaves_less}
use Rattle.rk_outside.proofs.Steps.{now_since}
use Rattle.rk_gate.specs.Calls.{ChangesFile}
use Rattle.rk_gate.specs.Changes.{HasRecordsOf, HasWithOrWithout}
use Rattle.rk_gate.specs.Records.{recovered_file}
use Rattle.rk_manifest.specs.Calls.{HasManifestOf}
use Rattle.rk_opening.specs.Stores.{has_magic}
use Rattle.rk_wal.specs.Writing.{HasStoreOf, HasMore, file_of}

-- the head, the other log and the manifest are in other files
record Others (t : Bool) (old files : Files) : Type 0 where
  pub head : has_magic (files 0) ≡ has_magic (old 0)
  pub other : HasRecordsOf (old (file_of (not t))) (files (file_of (not t)))
  pub manifest : HasManifestOf old files

zero_is_other : (t : Bool) → 0 ≢ file_of t
zero_is_other true e = absurd (omega (arith, e))
zero_is_other false e = absurd (omega (arith, e))

not_this : (t : Bool) → file_of (not t) ≢ file_of t
not_this true e = absurd (omega (arith, e))
not_this false e = absurd (omega (arith, e))

three_is_other : (t : Bool) → 3 ≢ file_of t
three_is_other true e = absurd (omega (arith, e))
three_is_other false e = absurd (omega (arith, e))

four_is_other : (t : Bool) → 4 ≢ file_of t
four_is_other true e = absurd (omega (arith, e))
four_is_other false e = absurd (omega (arith, e))

same_other : (t : Bool) (old files : Files) → HasStoreOf old files → HasRecordsOf (old (file_of (not t))) (files (file_of (not t)))
same_other true old files is = is.first
same_other false old files is = is.second

same_this : (t : Bool) (old files : Files) → HasStoreOf old files → HasRecordsOf (old (file_of t)) (files (file_of t))
same_this true old files is = is.second
same_this false old files is = is.first

-- files that are those of others but for the log
others_from : (t : Bool) (old before files : Files) → HasStoreOf old before → ((f : ℕ) → f ≢ file_of t → files f ≡ before f) → Others t old files
others_from t old before files is same = record {
  head = ap has_magic (same 0 (zero_is_other t)) ∙ is.head;
  other = ap recovered_file (same (file_of (not t)) (not_this t)) ∙ same_other t old before is;
  manifest = record {
    third = ap recovered_file (same 3 (three_is_other t)) ∙ is.manifest.third;
    fourth = ap recovered_file (same 4 (four_is_other t)) ∙ is.manifest.fourth;
  };
}

store_by : (t : Bool) (old files : Files) → Others t old files → HasRecordsOf (old (file_of t)) (files (file_of t)) → HasStoreOf old files
store_by true old files others this = record { head = others.head; first = others.other; second = this; manifest = others.manifest }
store_by false old files others this = record { head = others.head; first = this; second = others.other; manifest = others.manifest }

with_or_without : (t : Bool) (payload : List ℕ) (old files : Files) → Others t old files → HasWithOrWithout payload (old (file_of t)) (files (file_of t))
    → HasStoreOf old files ⊎ HasMore t payload old files
with_or_without t payload old files others = ⊎_elim
    (λ without. inl (store_by t old files others without))
    (λ with. inr (record { head = others.head; this = with; other = others.other; manifest = others.manifest }))

pub appended_image : (t : Bool) (payload : List ℕ) (a b : Disk) → IsHonest a → EachImage a (HasStoreOf a.files)
    → ChangesFile (file_of t) a b (HasWithOrWithout payload (a.files (file_of t)))
    → LeavesOnly a b (λ image. HasStoreOf a.files image ⊎ HasMore t payload a.files image)
appended_image t payload a b honest images one = leaves_less a b (IsImageBut a (file_of t) (HasWithOrWithout payload (a.files (file_of t)))) _
    (λ image is. with_or_without t payload a.files image (others_from t a.files is.before image (images is.before is.is_image) is.others) is.this)
    (one.crash honest)

-- after `Ok` each image has what reads give
pub settled_image : (t : Bool) (payload : List ℕ) (a b : Disk) → (IsHonest b → IsHonest a) → (IsHonest a → EachImage a (HasStoreOf a.files))
    → ChangesFile (file_of t) a b (HasWithOrWithout payload (a.files (file_of t)))
    → (IsHonest b → EachImage b (λ image. image (file_of t) ≡ b.files (file_of t))) → IsHonest b → EachImage b (HasStoreOf b.files)
settled_image t payload a b back images one there honest image now =
    let before = back honest in
    let run = one.crash before in
    let is = run.each image (now_since b.moments (moment a) image run.later now) in
    let was = images before is.before is.is_image in
    let others = others_from t a.files is.before image was is.others in
    let reads = λ (f : ℕ) (ne : f ≢ file_of t). one.others before.tells_files f ne in
    store_by t b.files image (record {
      head = others.head ∙ sym (ap has_magic (reads 0 (zero_is_other t)));
      other = others.other ∙ sym (ap recovered_file (reads (file_of (not t)) (not_this t)));
      manifest = record {
        third = others.manifest.third ∙ sym (ap recovered_file (reads 3 (three_is_other t)));
        fourth = others.manifest.fourth ∙ sym (ap recovered_file (reads 4 (four_is_other t)));
      };
    }) (ap recovered_file (there honest image now))
