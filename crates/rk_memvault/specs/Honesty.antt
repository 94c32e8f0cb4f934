-- The disk of a vault in memory is honest: what its record gives is what a crash may leave.
use Rattle.std.proofs.Common.{ℕ, Bool, true, false, ◌&&◌, ◌+◌, List, [], ◌∷◌, length, Option, Some, None, refl, sym, ◌∙◌, subst, arith}
use Rattle.std.specs.Prelude.{nat_lt, nat_le}
use Rattle.std.proofs.lemmas.Bool.{or_parts}
use Rattle.std.proofs.lemmas.List.{length-take, get_or-take}
use Rattle.rk_outside.specs.Disks.{FileFacts, IsFileImage, Change, Write, Cut, Sync, Remove, Disk, IsHonest, done, facts_after, since_sync, restarted, is_written}
use Rattle.rk_outside.proofs.Honest.{kept_done, left_now}
use Rattle.rk_outside.proofs.Moments.{this_file, other_file}
use Rattle.rk_outside.proofs.Steps.{stays_honest}
use Rattle.rk_memvault.specs.declared.record.Call.{Call}
use Rattle.rk_memvault.specs.declared.record.Call.TheVariants.{Numbers, MakeRoom, Length, Read, Edited, Open}
use Rattle.rk_memvault.specs.declared.record.Noted.{Noted}
use Rattle.rk_memvault.specs.Records.{Memory, change_of, disk_after, replayed, disk_of, files_of}

-- what is read is one of the images too where a change failed and nothing was done
pub kept_undone : (change : Change) (file : Option (List ℕ)) (facts : FileFacts) → IsFileImage facts file → IsFileImage (facts_after false file change facts) file
kept_undone (Write at bytes) None facts is = refl
kept_undone (Write at bytes) (Some b) facts is =
    let left = left_now facts b is in
    record {
      no_shorter = left.no_shorter;
      kept = λ i lt not.
          left.kept i lt (or_parts (nat_le at i && nat_lt i (at + length bytes)) (is_written (since_sync facts).writes i) not).1;
    }
kept_undone (Cut len) None facts is = is
kept_undone (Cut len) (Some b) facts is =
    let left = left_now facts b is in
    let front = (since_sync facts).front in
    record {
      no_shorter = omega (arith, left.no_shorter, length-take len front);
      kept = λ i lt not. left.kept i (omega (arith, lt, length-take len front)) not ∙ sym (get_or-take len front i 0 (omega (arith, lt, length-take len front)));
    }
kept_undone Sync file facts is = is
kept_undone Remove None facts is = is
kept_undone Remove (Some b) facts is = let left = left_now facts b is in record { no_shorter = left.no_shorter; kept = left.kept }

after_honest : (call : Call) (ok : Bool) (d : Disk) → IsHonest d → IsHonest (disk_after call ok d)
after_honest (Edited file e) true d honest =
    stays_honest d (disk_after (Edited file e) true d) file (facts_after true (d.files file) (change_of e) (d.moments.now file)) honest refl refl
    (λ f ne. other_file file (done (change_of e) (d.files file)) d.files f ne) refl
    (subst (IsFileImage (facts_after true (d.files file) (change_of e) (d.moments.now file))) (sym (this_file file (done (change_of e) (d.files file)) d.files))
    (kept_done (change_of e) (d.files file) (d.moments.now file) (honest.is_image file)))
after_honest (Edited file e) false d honest =
    stays_honest d (disk_after (Edited file e) false d) file (facts_after false (d.files file) (change_of e) (d.moments.now file)) honest refl refl
    (λ f ne. refl) refl (kept_undone (change_of e) (d.files file) (d.moments.now file) (honest.is_image file))
after_honest Numbers ok d honest = honest
after_honest (MakeRoom file upto) ok d honest = honest
after_honest (Length file) ok d honest = honest
after_honest (Read file at len) ok d honest = honest
after_honest (Open file) ok d honest = honest

replayed_honest : (ns : List Noted) (d : Disk) → IsHonest d → IsHonest (replayed ns d)
replayed_honest [] d honest = honest
replayed_honest (n ∷ ns) d honest = replayed_honest ns (disk_after n.call n.ok d) (after_honest n.call n.ok d honest)

pub disk_honest : (m : Memory) → IsHonest (disk_of m)
disk_honest m = replayed_honest m.kept.entries (restarted (files_of m.origin)) (record { tells_files = refl; tells_moments = refl; is_image = λ f. refl })
