-- Several calls in a row: what one leaves and then another, and what stays told.
use Rattle.std.proofs.Common.{ℕ, Option, List, sym, ◌∙◌, subst, arith, ⊎_elim, inl, inr}
use Rattle.std.specs.Prelude.{IsTrue}
use Rattle.rk_outside.specs.Disks.{Files, Disk, TellsAlike, TellsFiles, TellsMoments, IsHonest, IsImageBut, LeavesOnly, LeavesFileOnly}
use Rattle.rk_outside.proofs.Steps.{now_since}

-- what is told after two calls is what was told before them
pub still_told : (a b c : Disk) → TellsAlike a b → TellsAlike b c → TellsAlike a c
still_told a b c one two = record { files = two.files ∙ one.files; moments = two.moments ∙ one.moments }

-- a disk that is honest after calls, where a vault that tells both is honest, was so before them
pub honest_before : (old new : Disk) → TellsAlike old new → (TellsFiles old → TellsMoments old → IsHonest old) → IsHonest new → IsHonest old
honest_before old new told law honest = law (subst IsTrue told.files honest.tells_files) (subst IsTrue told.moments honest.tells_moments)

pub honest_after : (old new : Disk) → TellsAlike old new → (TellsFiles new → TellsMoments new → IsHonest new) → IsHonest old → IsHonest new
honest_after old new told law honest = law (subst IsTrue (sym told.files) honest.tells_files) (subst IsTrue (sym told.moments) honest.tells_moments)

-- two calls that each leave only images with P
pub leaves_on : (a b c : Disk) (P : Files → Type 0) → LeavesOnly a b P → LeavesOnly b c P → LeavesOnly a c P
leaves_on a b c P one two = record {
  later = omega (arith, one.later, two.later);
  each = λ image left. ⊎_elim (one.each image) (λ p. p) (two.before _ image one.later left);
  before = λ t image le left. ⊎_elim (one.before t image le) inr (two.before t image (omega (arith, le, one.later)) left);
}

-- two calls that change one file: of that file each image has what one of them leaves
pub leaves_file_on : (a b c : Disk) (file : ℕ) (P : Option (List ℕ) → Type 0) → LeavesFileOnly file a b P → LeavesFileOnly file b c P → LeavesFileOnly file a c P
leaves_file_on a b c file P one two = leaves_on a b c (IsImageBut a file P) one (record {
  later = two.later;
  each = λ image left. from_b image (two.each image left);
  before = λ t image le left. ⊎_elim inl (λ is. inr (from_b image is)) (two.before t image le left);
})
  where
    from_b : (image : Files) → IsImageBut b file P image → IsImageBut a file P image
    from_b image is =
        let before = one.each is.before (now_since b.moments _ is.before one.later is.is_image) in
        record { before = before.before; is_image = before.is_image; others = λ f ne. is.others f ne ∙ before.others f ne; this = is.this }

-- what every image that a call leaves has, may be weakened
pub leaves_less : (a b : Disk) (P Q : Files → Type 0) → ((image : Files) → P image → Q image) → LeavesOnly a b P → LeavesOnly a b Q
leaves_less a b P Q weaken one = record {
  later = one.later;
  each = λ image left. weaken image (one.each image left);
  before = λ t image le left. ⊎_elim inl (λ p. inr (weaken image p)) (one.before t image le left);
}

pub leaves_file_less : (a b : Disk) (file : ℕ) (P Q : Option (List ℕ) → Type 0) → ((bytes : Option (List ℕ)) → P bytes → Q bytes) → LeavesFileOnly file a b P → LeavesFileOnly file a b Q
leaves_file_less a b file P Q weaken = leaves_less a b (IsImageBut a file P) (IsImageBut a file Q)
    (λ image is. record { before = is.before; is_image = is.is_image; others = is.others; this = weaken (image file) is.this })
