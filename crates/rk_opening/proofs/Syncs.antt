-- One sync, and several in a row.
use Rattle.std.specs.Prelude.{IsTrue}
use Rattle.std.proofs.Common.{◌≡◌, ℕ, ◌+◌, Bool, true, false, Option, List, [], ◌∷◌, refl, sym, ◌∙◌, subst, arith, inl, ⊎_elim}
use Rattle.std.proofs.Math.Seq.{drop-append_seam}
use Rattle.std.proofs.lemmas.Bool.Decides.{eqb_tells}
use Rattle.rk_outside.specs.Disks.{Files, Disk, Changes, Sync, IsHonest, IsImageNow, IsImageBut, IsFileImage, FileFacts, facts_after, Reads, LeavesFileOnly, IsImageOfOne, moment}
use Rattle.rk_outside.proofs.Runs.{still_told, leaves_on, leaves_less}
use Rattle.rk_outside.proofs.Steps.{step, started, now_since}
use Rattle.rk_opening.specs.Syncing.{OnlySyncs, IsSettledAt, SyncedUpTo}

same_read : (ok : Bool) (old new : Option (List ℕ)) → Reads ok Sync old new → new ≡ old
same_read true old new e = e
same_read false old new e = e

still_there : (ok : Bool) (file image : Option (List ℕ)) (facts : FileFacts) → IsFileImage facts file → IsFileImage (facts_after ok file Sync facts) image → IsFileImage facts image
still_there true file image facts is e = subst (IsFileImage facts) (sym e) is
still_there false file image facts is there = there

-- an image from before but for one file, of which it may be left so, is one from before
whole : (d : Disk) (file : ℕ) (image : Files) → IsImageBut d file (IsFileImage (d.moments.now file)) image → IsImageNow d image
whole d file image is = λ f. ⊎_elim
    (λ e. subst (λ g. IsFileImage (d.moments.now g) (image g)) (sym e.1) is.this)
    (λ e. subst (IsFileImage (d.moments.now f)) (sym (is.others f e.1)) (is.is_image f))
    (eqb_tells f file)

pub one_sync : (old new : Disk) (file : ℕ) (ok : Bool) (before now : ℕ) → Changes file Sync ok before now old new → OnlySyncs old new
one_sync old new file ok before now changes = record {
  told = changes.told;
  reads = λ tells f. ⊎_elim
      (λ e. subst (λ g. new.files g ≡ old.files g) (sym e.1) (same_read ok (old.files file) (new.files file) (changes.files tells).this))
      (λ e. (changes.files tells).others f e.1)
      (eqb_tells f file);
  honest = λ honest. (run honest).0;
  crash = λ honest. leaves_less old new (IsImageBut old file (IsFileImage (old.moments.now file))) (IsImageNow old) (whole old file) (run honest).1;
}
  where
    run : IsHonest old → IsHonest new × LeavesFileOnly file old new (IsFileImage (old.moments.now file))
    run honest = step old old new file Sync ok before now (IsFileImage (old.moments.now file)) honest
        (started old file (IsFileImage (old.moments.now file)) (λ image is. is file)) changes
        (λ image is. still_there ok (old.files file) image (old.moments.now file) (honest.is_image file) is)

pub no_sync : (d : Disk) → OnlySyncs d d
no_sync d = record {
  told = record { files = refl; moments = refl };
  reads = λ tells f. refl;
  honest = λ honest. honest;
  crash = λ honest. record {
    later = omega arith;
    each = λ image left. ⊎_elim (λ now. now) (λ none. absurd none) (subst (λ fs. IsImageOfOne fs image) (drop-append_seam d.moments.past (d.moments.now ∷ [])) left);
    before = λ t image le left. inl left;
  };
}

-- syncs and then more of them
pub then_syncs : (a b c : Disk) → OnlySyncs a b → OnlySyncs b c → OnlySyncs a c
then_syncs a b c one two = record {
  told = still_told a b c one.told two.told;
  reads = λ tells f. two.reads (subst IsTrue (sym one.told.files) tells) f ∙ one.reads tells f;
  honest = λ honest. two.honest (one.honest honest);
  crash = λ honest. leaves_on a b c (IsImageNow a) (one.crash honest)
      (leaves_less b c (IsImageNow b) (IsImageNow a) (λ image is. (one.crash honest).each image (now_since b.moments (moment a) image (one.crash honest).later is)) (two.crash (one.honest honest)));
}

-- what was settled stays so
pub settled_on : (b c : Disk) (file : ℕ) → OnlySyncs b c → (IsHonest c → IsHonest b) → IsSettledAt file b → IsSettledAt file c
settled_on b c file syncs back settled honest image now =
    let before = back honest in
    let is = (syncs.crash before).each image (now_since c.moments (moment b) image (syncs.crash before).later now) in
    settled before image is ∙ sym (syncs.reads before.tells_files file)

-- before the first file
pub none_yet : (d : Disk) → SyncedUpTo 0 d d
none_yet d = record { syncs = no_sync d; settled = λ f below. absurd (omega (arith, below)) }

-- one file more
pub one_more : (a b c : Disk) (file : ℕ) → SyncedUpTo file a b → OnlySyncs b c → IsSettledAt file c → (IsHonest c → IsHonest b) → SyncedUpTo (file + 1) a c
one_more a b c file so_far syncs this back = record {
  syncs = then_syncs a b c so_far.syncs syncs;
  settled = λ f below. ⊎_elim
      (λ e. subst (λ g. IsSettledAt g c) (sym e.1) this)
      (λ e. settled_on b c f syncs back (so_far.settled f (omega (arith, below, e.1))))
      (eqb_tells f file);
}
