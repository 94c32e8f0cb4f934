use Rattle.std.proofs.Common.{◌≡◌, ℕ, ◌+◌, ◌-◌, ◌<◌, true, false, List, [], length, Option, Some, None, refl, sym, ◌∙◌, ap, subst, arith, ⊎_elim, get_or, ◌&&◌}
use Rattle.std.specs.Prelude.{unwrap_or, nat_lt, nat_le}
use Rattle.std.proofs.lemmas.Bool.{lt-ltb, true≢false, or_parts}
use Rattle.std.proofs.lemmas.Bool.Decides.{leb_tells}
use Rattle.std.proofs.lemmas.List.{length-take, get_or-take, get_or-drop}
use Rattle.rk_outside.specs.Disks.{FileFacts, Synced, Changed, Unsynced, IsLeft, IsFileImage, Change, Write, Cut, Sync, Remove, MayRead, IsTorn, is_written, done, facts_after, since_sync, after_write, after_removal}
use Rattle.rk_outside.proofs.Writes.{overwritten_image}

-- what is read now is left by what the file has met since its sync
pub left_now : (facts : FileFacts) (bytes : List ℕ) → IsFileImage facts (Some bytes) → IsLeft (since_sync facts) bytes
left_now (Synced None) bytes is = let bad : ⊥ = cc in absurd bad
left_now (Synced (Some b)) bytes is = let same : bytes ≡ b = ap (λ o. unwrap_or o []) is in subst (λ c. IsLeft (since_sync (Synced (Some b))) c) (sym same) (record { no_shorter = omega arith; kept = λ i lt not. refl })
left_now (Changed u) bytes is = is

-- what is read after a change that was done is left by the facts after it
pub kept_done : (change : Change) (file : Option (List ℕ)) (facts : FileFacts) → IsFileImage facts file → IsFileImage (facts_after true file change facts) (done change file)
kept_done (Write at bytes) None facts is = record { no_shorter = omega arith; kept = λ i lt not. absurd (omega (arith, lt)) }
kept_done (Write at bytes) (Some b) facts is = overwritten_image (since_sync facts) at bytes b (left_now facts b is)
kept_done (Cut len) None facts is = is
kept_done (Cut len) (Some b) facts is =
    let left = left_now facts b is in
    let front = (since_sync facts).front in
    record {
      no_shorter = omega (arith, left.no_shorter, length-take len front, length-take len b);
      kept = λ i lt not.
          get_or-take len b i 0 (omega (arith, lt, length-take len front))
          ∙ left.kept i (omega (arith, lt, length-take len front)) not
          ∙ sym (get_or-take len front i 0 (omega (arith, lt, length-take len front)));
    }
kept_done Sync file facts is = refl
kept_done Remove None facts is = is
kept_done Remove (Some b) facts is = refl

torn_left : (u : Unsynced) (at n : ℕ) (b c : List ℕ) → IsLeft u b → IsTorn at n b c → IsLeft (after_write true at n u) c
torn_left u at n b c left torn = record {
  no_shorter = omega (arith, left.no_shorter, torn.no_shorter);
  kept = λ i lt not.
      let parts = or_parts (nat_le at i && nat_lt i (at + n)) (is_written u.writes i) not in
      ⊎_elim
      (λ e. ⊎_elim
      (λ k.
      let there : i ≡ at + n + (i - (at + n)) = omega (arith, k.1) in
      ap (λ j. get_or c j 0) there ∙ sym (get_or-drop (at + n) c (i - (at + n)) 0) ∙ ap (λ l. get_or l (i - (at + n)) 0) torn.after
      ∙ get_or-drop (at + n) b (i - (at + n)) 0 ∙ sym (ap (λ j. get_or b j 0) there) ∙ left.kept i lt parts.1)
      (λ k. absurd (true≢false (sym (ap (λ x. x && nat_lt i (at + n)) e.0 ∙ lt-ltb i (at + n) k.1) ∙ parts.0)))
      (leb_tells (at + n) i))
      (λ e. sym (get_or-take at c i 0 e.1) ∙ ap (λ l. get_or l i 0) torn.before ∙ get_or-take at b i 0 e.1 ∙ left.kept i lt parts.1)
      (leb_tells at i);
}

-- the same after a change that failed
pub kept_failed : (change : Change) (file new : Option (List ℕ)) (facts : FileFacts) → MayRead change file new → IsFileImage facts file → IsFileImage (facts_after false file change facts) new
kept_failed (Write at bytes) None None facts reads is = refl
kept_failed (Write at bytes) None (Some c) facts reads is = record { no_shorter = omega arith; kept = λ i lt not. absurd (omega (arith, lt)) }
kept_failed (Write at bytes) (Some b) None facts reads is = absurd reads
kept_failed (Write at bytes) (Some b) (Some c) facts reads is = torn_left (since_sync facts) at (length bytes) b c (left_now facts b is) reads
kept_failed (Cut len) None new facts reads is = subst (IsFileImage facts) (sym reads) is
kept_failed (Cut len) (Some b) None facts reads is = absurd reads
kept_failed (Cut len) (Some b) (Some c) facts reads is =
    let left = left_now facts b is in
    let front = (since_sync facts).front in
    record {
      no_shorter = omega (arith, reads.no_shorter, length-take len front);
      kept = λ i lt not.
          let below : i < length c = omega (arith, lt, reads.no_shorter, length-take len front) in
          ap (λ l. get_or l i 0) reads.front ∙ get_or-take (length c) b i 0 below
          ∙ left.kept i (omega (arith, lt, length-take len front)) not
          ∙ sym (get_or-take len front i 0 (omega (arith, lt, length-take len front)));
    }
kept_failed Sync file new facts reads is = subst (IsFileImage facts) (sym reads) is
kept_failed Remove None new facts reads is = ⊎_elim (λ e. subst (IsFileImage facts) (sym e) is) (λ e. subst (IsFileImage facts) (sym e) is) reads
kept_failed Remove (Some b) new facts reads is =
    ⊎_elim (λ e. subst (IsFileImage (Changed (after_removal (since_sync facts)))) (sym e) (let left = left_now facts b is in record { no_shorter = left.no_shorter; kept = left.kept }))
    (λ e. subst (IsFileImage (Changed (after_removal (since_sync facts)))) (sym e) refl) reads
