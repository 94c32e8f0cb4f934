-- The steps of a reset, as the calls' results name them.
use Rattle.std.proofs.Common.{◌≡◌, ℕ, ◌<◌, [], ◌∷◌, refl, sym, subst}
use Rattle.rk_outside.specs.Disks.{Disk, TellsFiles, IsHonest, EachImage, done, Write, Cut}
use Rattle.rk_gate.specs.Calls.{ChangesFile}
use Rattle.rk_gate.specs.Changes.{HasRecordsOf, HasAllOrNone, IsJournalWithGate}
use Rattle.rk_gate.specs.Reading.{IsFileOver, IsImageOver, HasFrontOf, IsImageCut, IsSynced}
use Rattle.rk_gate.proofs.Resetting.{cut_empty, gate_closed, after_close, after_cut_closed, after_cut_empty, all_empty, AllDone}
use Rattle.rk_gate.proofs.Runs.{Moved, moved}

-- where there is no record the file is cut alone
module _ (old new : Disk) (file file' gate : ℕ) (m : Moved old old file file' 0 0) (journal : TellsFiles old → IsJournalWithGate gate (old.files file)) (is : gate ≡ 0) where
  pub empty_done : (TellsFiles old → new.files file' ≡ done (Cut 1) (old.files file')) → TellsFiles old → AllDone gate (old.files file) (new.files file)
  empty_done = moved (λ d f k. (TellsFiles d → new.files f ≡ done (Cut 1) (d.files f)) → TellsFiles old → AllDone gate (old.files file) (new.files file)) old old file file' 0 0 m
      (λ made tells. subst (AllDone gate (old.files file)) (sym (made tells)) (all_empty gate (old.files file) (journal tells) is))

  pub empty_reads : (TellsFiles old → HasFrontOf 1 (old.files file') (new.files file')) → TellsFiles old → HasAllOrNone (old.files file) (new.files file)
  empty_reads = moved (λ d f k. (TellsFiles d → HasFrontOf 1 (d.files f) (new.files f)) → TellsFiles old → HasAllOrNone (old.files file) (new.files file)) old old file file' 0 0 m
      (λ reads tells. cut_empty gate (old.files file) (old.files file) (new.files file) (journal tells) is refl (reads tells))

  pub empty_run : (IsHonest old → EachImage old (λ image. HasRecordsOf (old.files file) (image file))) → ChangesFile file' old new (IsImageCut (old.moments.now file') 1) → ChangesFile file old new (HasAllOrNone (old.files file))
  empty_run images = moved (λ d f k. ChangesFile f d new (IsImageCut (d.moments.now f) 1) → ChangesFile file old new (HasAllOrNone (old.files file))) old old file file' 0 0 m
      (after_cut_empty old new file gate journal is images)

-- else the first gate is closed before
module _ (old old' mid : Disk) (file file' gate : ℕ) (m : Moved old old' file file' 0 0) (journal : TellsFiles old → IsJournalWithGate gate (old.files file)) (some : 0 < gate) where
  pub close_reads : (TellsFiles old' → IsFileOver 0 1 (old'.files file') (mid.files file')) → TellsFiles old → HasAllOrNone (old.files file) (mid.files file)
  close_reads = moved (λ d f k. (TellsFiles d → IsFileOver 0 1 (d.files f) (mid.files f)) → TellsFiles old → HasAllOrNone (old.files file) (mid.files file)) old old' file file' 0 0 m
      (λ reads tells. gate_closed gate (old.files file) (old.files file) (mid.files file) (journal tells) some refl (reads tells))

  pub close_run : (IsHonest old → EachImage old (λ image. HasRecordsOf (old.files file) (image file))) → ChangesFile file' old' mid (IsImageOver (old'.moments.now file') 0 1) → ChangesFile file old mid (HasAllOrNone (old.files file))
  close_run images = moved (λ d f k. ChangesFile f d mid (IsImageOver (d.moments.now f) 0 1) → ChangesFile file old mid (HasAllOrNone (old.files file))) old old' file file' 0 0 m
      (after_close old mid file gate journal some images)

  close_done : (TellsFiles old' → mid.files file' ≡ done (Write 0 (0 ∷ [])) (old'.files file')) → TellsFiles old → mid.files file ≡ done (Write 0 (0 ∷ [])) (old.files file)
  close_done = moved (λ d f k. (TellsFiles d → mid.files f ≡ done (Write 0 (0 ∷ [])) (d.files f)) → TellsFiles old → mid.files file ≡ done (Write 0 (0 ∷ [])) (old.files file)) old old' file file' 0 0 m (λ made. made)

  pub cut_run : (new : Disk) → ChangesFile file old mid (HasAllOrNone (old.files file)) → IsSynced file' mid → (TellsFiles old' → mid.files file' ≡ done (Write 0 (0 ∷ [])) (old'.files file')) →
      ChangesFile file' mid new (IsImageCut (mid.moments.now file') 1) → ChangesFile file old new (HasAllOrNone (old.files file))
  cut_run new one synced made = moved (λ d f k. IsSynced f d → ChangesFile f d new (IsImageCut (d.moments.now f) 1) → ChangesFile file old new (HasAllOrNone (old.files file))) mid mid file file' 0 0
      (record { same_disk = refl; same_file = m.same_file; same_place = refl })
      (λ synced' two. after_cut_closed old mid new file gate journal one synced' (close_done made) two) synced
