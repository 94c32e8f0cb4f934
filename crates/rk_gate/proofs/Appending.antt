-- What an append makes of a journal's file, at each of its steps.
use Rattle.std.proofs.Common.{◌≡◌, ℕ, ◌+◌, ◌<◌, ◌≤◌, ◌^◌, ◌⊎◌, inl, inr, List, [], ◌∷◌, ◌++◌, length, take, drop, get_or, Option, Some, None, Result, Ok, Err, IsOkAnd, option_map, refl, sym, ◌∙◌, ap, subst, arith, ⊎_elim}
use Rattle.std.proofs.lemmas.List.{length-append, length-take-le, take-take, take_at, drop_at, drop_more, append_assoc}
use Rattle.std.proofs.lemmas.Bool.Decides.{eqb_tells}
use Rattle.byteorder.specs.Endian.{big_bytes}
use Rattle.byteorder.specs.Numbers.{length-bytes_high_first}
use Rattle.rk_outside.specs.Disks.{Disk, TellsFiles, IsHonest, EachImage, done, overwritten, Write}
use Rattle.rk_gate.specs.declared.record.Record.{Record}
use Rattle.rk_gate.specs.Calls.{ChangesFile}
use Rattle.rk_gate.specs.Changes.{HasRecordsOf, HasWithOrWithout, IsJournalWithGate, after_append, appended, behind_gate, with_payload}
use Rattle.rk_gate.specs.Reading.{IsFileOver, IsImageOver, HasFrontOf, IsSynced}
use Rattle.rk_gate.specs.Records.{recovered, recovered_file, gate_behind}
use Rattle.rk_gate.proofs.Recovering.{recovered_front, same_records, closed_records, opened_records, gate_behind-with_payload}
use Rattle.rk_gate.proofs.Runs.{images_have, changes_less, then_changes, synced_image}

-- the records of a journal whose gate stands at a place
pub journal_parts : (gate : ℕ) (q : Result (List Record) ℕ) → IsOkAnd q (λ rs. gate ≡ gate_behind rs) → (rs : List Record) × (q ≡ Ok rs) × (gate ≡ gate_behind rs)
journal_parts gate (Ok rs) is = (rs, refl, is)
journal_parts gate (Err at) is = absurd is

pub journal_from : (gate : ℕ) (file : Option (List ℕ)) (rs : List Record) → recovered_file file ≡ Ok rs → gate ≡ gate_behind rs → IsJournalWithGate gate file
journal_from gate file rs e is = subst (λ q. IsOkAnd q (λ rs. gate ≡ gate_behind rs)) (sym e) is

-- a file with the bytes of a journal up to its gate, that one too, has its records
pub same_front : (gate : ℕ) (old before image : Option (List ℕ)) → IsJournalWithGate gate old → HasRecordsOf old before → HasFrontOf (gate + 1) before image → HasRecordsOf old image
same_front gate old None None journal has front = has
same_front gate old None (Some c) journal has front = absurd front
same_front gate old (Some b) None journal has front = absurd front
same_front gate old (Some b) (Some c) journal has front =
    let parts = journal_parts gate (recovered_file old) journal in
    let same : take (gate_behind parts.0 + 1) c ≡ take (gate_behind parts.0 + 1) b = subst (λ k. take (k + 1) c ≡ take (k + 1) b) parts.2 front in
    same_records b c parts.0 (has ∙ parts.1) same ∙ sym parts.1

pub over_front : (at n : ℕ) (before image : Option (List ℕ)) → IsFileOver at n before image → HasFrontOf at before image
over_front at n None None over = tt
over_front at n None (Some c) over = over
over_front at n (Some b) None over = over
over_front at n (Some b) (Some c) over = over.before

-- behind the closed gate anything may be written
pub first_written : (gate n : ℕ) (old before image : Option (List ℕ)) → IsJournalWithGate gate old → HasRecordsOf old before → IsFileOver (gate + 1) n before image → HasRecordsOf old image
first_written gate n old before image journal has over = same_front gate old before image journal has (over_front (gate + 1) n before image over)

-- a journal has its gate
pub gate_there : (gate : ℕ) (old : Option (List ℕ)) → IsJournalWithGate gate old → (b : List ℕ) × (old ≡ Some b) × (gate < length b)
gate_there gate None journal = absurd journal
gate_there gate (Some b) journal =
    let parts = journal_parts gate (recovered b) journal in
    (b, refl, omega (arith, parts.2, (recovered_front b parts.0 parts.1).long))

pub length-behind : (payload : List ℕ) → length (behind_gate payload) ≡ length payload + 9
length-behind payload =
    let head = big_bytes 8 (length payload) in
    omega (arith, length-bytes_high_first 8 (length payload), length-append head payload, length-append (head ++ payload) (0 ∷ []))

-- the bytes with a record behind their closed gate
module _ (gate : ℕ) (payload b : List ℕ) (long : gate < length b) where
  staged : List ℕ
  staged = overwritten b (gate + 1) (behind_gate payload)

  rest : List ℕ
  rest = drop (gate + 1 + length (behind_gate payload)) b

  front_length : length (take (gate + 1) b) ≡ gate + 1
  front_length = length-take-le (gate + 1) b (omega (arith, long))

  staged_split : staged ≡ take (gate + 1) b ++ (behind_gate payload ++ rest)
  unfolding staged rest
  staged_split = append_assoc (take (gate + 1) b) (behind_gate payload) (drop (gate + 1 + length (behind_gate payload)) b)

  staged_front : take gate staged ≡ take gate b
  staged_front =
      ap (take gate) staged_split ∙ sym (take-take gate (gate + 1) (take (gate + 1) b ++ (behind_gate payload ++ rest)) (omega arith))
      ∙ ap (take gate) (take_at (take (gate + 1) b) (behind_gate payload ++ rest) (gate + 1) front_length)
      ∙ take-take gate (gate + 1) b (omega arith)

  staged_behind : drop (gate + 1) staged ≡ behind_gate payload ++ rest
  staged_behind = ap (drop (gate + 1)) staged_split ∙ drop_at (take (gate + 1) b) (behind_gate payload ++ rest) (gate + 1) front_length

  length-staged : gate < length staged
  length-staged = omega (arith, ap length staged_split, front_length, length-append (take (gate + 1) b) (behind_gate payload ++ rest))

  appended_is : overwritten staged gate (1 ∷ []) ≡ appended gate payload b
  unfolding rest
  appended_is =
      ap (λ l. l ++ (1 ∷ []) ++ drop (gate + 1) staged) staged_front ∙ ap (λ l. take gate b ++ (1 ∷ []) ++ l) staged_behind
      ∙ append_assoc (take gate b) (1 ∷ []) (behind_gate payload ++ drop (gate + 1 + length (behind_gate payload)) b)
      ∙ sym (append_assoc (take gate b) (1 ∷ behind_gate payload) (drop (gate + 1 + length (behind_gate payload)) b))
      ∙ ap (λ k. take gate b ++ 1 ∷ behind_gate payload ++ drop k b) (places (length-behind payload))
    where
      places : length (behind_gate payload) ≡ length payload + 9 → gate + 1 + length (behind_gate payload) ≡ gate + length payload + 10
      places e = omega (arith, e)

  -- whatever byte the gate is then, there is a record more or not
  gate_written : (rs : List Record) (c : List ℕ) → recovered b ≡ Ok rs → gate ≡ gate_behind rs → length payload < 2 ^ 64 → take gate c ≡ take gate staged →
      (more : List ℕ) → drop (gate + 1) c ≡ drop (gate + 1) staged ++ more → length staged ≤ length c →
      (recovered c ≡ Ok rs) ⊎ (recovered c ≡ Ok (with_payload rs payload))
  gate_written rs c e is short t more d le = ⊎_elim
      (λ o. inr (opened_records b c rs payload (rest ++ more) e front
      (subst (λ k. drop k c ≡ 1 ∷ behind_gate payload ++ (rest ++ more)) is (whole o.1)) short))
      (λ s. inl (closed_records b c rs e front (omega (arith, is, length-staged, le)) (λ one. s.1 (subst (λ k. get_or c k 1 ≡ 1) (sym is) one))))
      (eqb_tells (get_or c gate 1) 1)
    where
      front : take (gate_behind rs) c ≡ take (gate_behind rs) b
      front = subst (λ k. take k c ≡ take k b) is (t ∙ staged_front)

      whole : get_or c gate 1 ≡ 1 → drop gate c ≡ 1 ∷ behind_gate payload ++ (rest ++ more)
      whole one =
          drop_more c gate 1 (omega (arith, length-staged, le)) ∙ ap (λ g. g ∷ drop (gate + 1) c) one
          ∙ ap (λ l. 1 ∷ l) (d ∙ ap (λ l. l ++ more) staged_behind ∙ append_assoc (behind_gate payload) rest more)

-- the file with the record behind its closed gate, and what a write of the gate leaves of it
pub second_written : (gate : ℕ) (payload : List ℕ) (old image : Option (List ℕ)) → IsJournalWithGate gate old → length payload < 2 ^ 64 →
    IsFileOver gate 1 (done (Write (gate + 1) (behind_gate payload)) old) image → HasWithOrWithout payload old image
unfolding staged
second_written gate payload None image journal short over = absurd journal
second_written gate payload (Some b) None journal short over = absurd over
second_written gate payload (Some b) (Some c) journal short over =
    let parts = journal_parts gate (recovered b) journal in
    let long : gate < length b = omega (arith, parts.2, (recovered_front b parts.0 parts.1).long) in
    ⊎_elim (λ e. inl (e ∙ sym parts.1)) (λ e. inr (e ∙ ap (after_append payload) (sym parts.1)))
    (gate_written gate payload b long parts.0 c parts.1 parts.2 short over.before over.rest over.after over.no_shorter)

pub staged_there : (gate : ℕ) (payload : List ℕ) (old : Option (List ℕ)) → IsJournalWithGate gate old → (s : List ℕ) × (done (Write (gate + 1) (behind_gate payload)) old ≡ Some s) × (gate < length s)
unfolding staged
staged_there gate payload old journal =
    let there = gate_there gate old journal in
    (staged gate payload there.0 there.2, ap (done (Write (gate + 1) (behind_gate payload))) there.1, length-staged gate payload there.0 there.2)

-- both writes were done
pub record BothWritten (gate : ℕ) (payload : List ℕ) (old new : Option (List ℕ)) : Type 0 where
  pub bytes : new ≡ option_map (appended gate payload) old
  pub added : recovered_file new ≡ after_append payload (recovered_file old)
  pub stands : IsJournalWithGate (gate + 9 + length payload) new

pub both_written : (gate : ℕ) (payload : List ℕ) (old : Option (List ℕ)) → IsJournalWithGate gate old → length payload < 2 ^ 64 →
    BothWritten gate payload old (done (Write gate (1 ∷ [])) (done (Write (gate + 1) (behind_gate payload)) old))
unfolding staged
both_written gate payload None journal short = absurd journal
both_written gate payload (Some b) journal short =
    let parts = journal_parts gate (recovered b) journal in
    let long : gate < length b = omega (arith, parts.2, (recovered_front b parts.0 parts.1).long) in
    let is = appended_is gate payload b long in
    let added : recovered (appended gate payload b) ≡ Ok (with_payload parts.0 payload) =
    opened_records b (appended gate payload b) parts.0 payload (drop (gate + length payload + 10) b) parts.1
    (subst (λ k. take k (appended gate payload b) ≡ take k b) parts.2 (front b long))
    (subst (λ k. drop k (appended gate payload b) ≡ 1 ∷ behind_gate payload ++ drop (gate + length payload + 10) b) parts.2 (back b long)) short in
    record {
      bytes = ap (λ l. Some l) is;
      added = ap recovered is ∙ added ∙ ap (after_append payload) (sym parts.1);
      stands = journal_from (gate + 9 + length payload) (Some (overwritten (overwritten b (gate + 1) (behind_gate payload)) gate (1 ∷ []))) (with_payload parts.0 payload)
          (ap recovered is ∙ added) (omega (arith, parts.2, gate_behind-with_payload parts.0 payload));
    }
  where
    split : (b : List ℕ) → appended gate payload b ≡ take gate b ++ (1 ∷ behind_gate payload ++ drop (gate + length payload + 10) b)
    split b = append_assoc (take gate b) (1 ∷ behind_gate payload) (drop (gate + length payload + 10) b)

    front : (b : List ℕ) → gate < length b → take gate (appended gate payload b) ≡ take gate b
    front b long = ap (take gate) (split b) ∙ take_at (take gate b) _ gate (length-take-le gate b (omega (arith, long)))

    back : (b : List ℕ) → gate < length b → drop gate (appended gate payload b) ≡ 1 ∷ behind_gate payload ++ drop (gate + length payload + 10) b
    back b long = ap (drop gate) (split b) ∙ drop_at (take gate b) _ gate (length-take-le gate b (omega (arith, long)))

-- The steps of an append over a disk: what each image has after the first write and sync, and after the second
pub after_first : (old new : Disk) (file gate n : ℕ) (payload : List ℕ) → (TellsFiles old → IsJournalWithGate gate (old.files file)) → (IsHonest old → EachImage old (λ image. HasRecordsOf (old.files file) (image file))) →
    ChangesFile file old new (IsImageOver (old.moments.now file) (gate + 1) n) → ChangesFile file old new (HasWithOrWithout payload (old.files file))
after_first old new file gate n payload journal images run =
    changes_less old new file (IsImageOver (old.moments.now file) (gate + 1) n) (HasWithOrWithout payload (old.files file))
    (λ honest x over. inl (first_written gate n (old.files file) over.before x (journal honest.tells_files)
    (images_have old file (HasRecordsOf (old.files file)) honest (images honest) over.before over.is_image) over.over))
    run

pub after_second : (old mid new : Disk) (file gate : ℕ) (payload : List ℕ) → (TellsFiles old → IsJournalWithGate gate (old.files file)) → length payload < 2 ^ 64 →
    ChangesFile file old mid (HasWithOrWithout payload (old.files file)) → IsSynced file mid →
    (TellsFiles old → mid.files file ≡ done (Write (gate + 1) (behind_gate payload)) (old.files file)) →
    ChangesFile file mid new (IsImageOver (mid.moments.now file) gate 1) → ChangesFile file old new (HasWithOrWithout payload (old.files file))
after_second old mid new file gate payload journal short one synced is two =
    then_changes old mid new file (IsImageOver (mid.moments.now file) gate 1) (HasWithOrWithout payload (old.files file)) one two
    (λ honest x over.
    let before = synced_image mid file synced (one.honest honest) over.before over.is_image ∙ is honest.tells_files in
    second_written gate payload (old.files file) x (journal honest.tells_files) short (subst (λ f. IsFileOver gate 1 f x) before over.over))
