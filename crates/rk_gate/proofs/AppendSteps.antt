-- The steps of an append, as the calls' results name them.
use Rattle.std.proofs.Common.{◌≡◌, ℕ, ◌+◌, ◌<◌, ◌≤◌, ◌^◌, inl, List, [], ◌∷◌, length, Option, Some, IsSomeAnd, IsTrue, refl, sym, ◌∙◌, ap, subst, arith}
use Rattle.rk_outside.specs.Disks.{Disk, TellsFiles, IsHonest, EachImage, done, Write}
use Rattle.rk_gate.specs.Calls.{ChangesFile}
use Rattle.rk_gate.specs.Changes.{HasRecordsOf, HasWithOrWithout, IsJournalWithGate, behind_gate}
use Rattle.rk_gate.specs.Reading.{IsFileOver, IsImageOver, IsSynced}
use Rattle.rk_gate.proofs.Appending.{after_first, after_second, first_written, second_written, gate_there, staged_there, both_written, BothWritten}
use Rattle.rk_gate.proofs.Runs.{Moved, moved}

some_and : (file : Option (List ℕ)) (P : List ℕ → Type 0) (b : List ℕ) → file ≡ Some b → P b → IsSomeAnd file P
some_and file P b is p = subst (λ f. IsSomeAnd f P) (sym is) p

module _ (old old' : Disk) (file file' gate gate' : ℕ) (payload : List ℕ) (m : Moved old old' file file' gate gate') (journal : TellsFiles old → IsJournalWithGate gate (old.files file)) where
  -- there is a byte behind the gate, or the file ends there
  pub first_there : TellsFiles old' → IsSomeAnd (old'.files file') (λ b. gate' + 1 ≤ length b)
  first_there = moved (λ d f k. TellsFiles d → IsSomeAnd (d.files f) (λ b. k + 1 ≤ length b)) old old' file file' gate gate' m
      (λ tells. let there = gate_there gate (old.files file) (journal tells) in some_and (old.files file) (λ b. gate + 1 ≤ length b) there.0 there.1 (omega (arith, there.2)))

  pub first_reads : (mid : Disk) (n : ℕ) → (TellsFiles old' → IsFileOver (gate' + 1) n (old'.files file') (mid.files file')) → TellsFiles old → HasWithOrWithout payload (old.files file) (mid.files file)
  first_reads mid n = moved (λ d f k. (TellsFiles d → IsFileOver (k + 1) n (d.files f) (mid.files f)) → TellsFiles old → HasWithOrWithout payload (old.files file) (mid.files file)) old old' file file' gate gate' m
      (λ reads tells. inl (first_written gate n (old.files file) (old.files file) (mid.files file) (journal tells) refl (reads tells)))

  pub first_run : (mid : Disk) (n : ℕ) → (IsHonest old → EachImage old (λ image. HasRecordsOf (old.files file) (image file))) →
      ChangesFile file' old' mid (IsImageOver (old'.moments.now file') (gate' + 1) n) → ChangesFile file old mid (HasWithOrWithout payload (old.files file))
  first_run mid n images = moved (λ d f k. ChangesFile f d mid (IsImageOver (d.moments.now f) (k + 1) n) → ChangesFile file old mid (HasWithOrWithout payload (old.files file))) old old' file file' gate gate' m
      (after_first old mid file gate n payload journal images)

  pub first_done : (mid : Disk) (behind : List ℕ) → behind ≡ behind_gate payload → (TellsFiles old' → mid.files file' ≡ done (Write (gate' + 1) behind) (old'.files file')) →
      TellsFiles old → mid.files file ≡ done (Write (gate + 1) (behind_gate payload)) (old.files file)
  first_done mid behind is = moved (λ d f k. (TellsFiles d → mid.files f ≡ done (Write (k + 1) behind) (d.files f)) → TellsFiles old → mid.files file ≡ done (Write (gate + 1) (behind_gate payload)) (old.files file)) old old' file file' gate gate' m
      (λ made tells. made tells ∙ ap (λ b. done (Write (gate + 1) b) (old.files file)) is)

  -- behind the first write and its sync
  module _ (mid new : Disk) (short : length payload < 2 ^ 64) (one : ChangesFile file old mid (HasWithOrWithout payload (old.files file)))
      (is : TellsFiles old → mid.files file ≡ done (Write (gate + 1) (behind_gate payload)) (old.files file)) where
    at_mid : Moved mid mid file file' gate gate'
    at_mid = record { same_disk = refl; same_file = m.same_file; same_place = m.same_place }

    still : TellsFiles old → TellsFiles mid
    still tells = subst IsTrue (sym one.told.files) tells

    pub second_there : TellsFiles old → IsSomeAnd (mid.files file') (λ b. gate' ≤ length b)
    second_there tells = moved (λ d f k. IsSomeAnd (d.files f) (λ b. k ≤ length b)) mid mid file file' gate gate' at_mid
        (let there = staged_there gate payload (old.files file) (journal tells) in some_and (mid.files file) (λ b. gate ≤ length b) there.0 (is tells ∙ there.1) (omega (arith, there.2)))

    pub second_reads : (TellsFiles mid → IsFileOver gate' 1 (mid.files file') (new.files file')) → TellsFiles old → HasWithOrWithout payload (old.files file) (new.files file)
    second_reads = moved (λ d f k. (TellsFiles d → IsFileOver k 1 (d.files f) (new.files f)) → TellsFiles old → HasWithOrWithout payload (old.files file) (new.files file)) mid mid file file' gate gate' at_mid
        (λ reads tells. second_written gate payload (old.files file) (new.files file) (journal tells) short (subst (λ f. IsFileOver gate 1 f (new.files file)) (is tells) (reads (still tells))))

    pub second_run : IsSynced file' mid → ChangesFile file' mid new (IsImageOver (mid.moments.now file') gate' 1) → ChangesFile file old new (HasWithOrWithout payload (old.files file))
    second_run = moved (λ d f k. IsSynced f d → ChangesFile f d new (IsImageOver (d.moments.now f) k 1) → ChangesFile file old new (HasWithOrWithout payload (old.files file))) mid mid file file' gate gate' at_mid
        (λ synced two. after_second old mid new file gate payload journal short one synced is two)

    pub finished : (TellsFiles mid → new.files file' ≡ done (Write gate' (1 ∷ [])) (mid.files file')) → TellsFiles old → BothWritten gate payload (old.files file) (new.files file)
    finished = moved (λ d f k. (TellsFiles d → new.files f ≡ done (Write k (1 ∷ [])) (d.files f)) → TellsFiles old → BothWritten gate payload (old.files file) (new.files file)) mid mid file file' gate gate' at_mid
        (λ made tells. subst (BothWritten gate payload (old.files file)) (sym (made (still tells) ∙ ap (done (Write gate (1 ∷ []))) (is tells))) (both_written gate payload (old.files file) (journal tells) short))
