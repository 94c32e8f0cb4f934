-- What a reset makes of a journal's file, at each of its steps.
use Rattle.std.proofs.Common.{◌≡◌, ℕ, ◌+◌, ◌<◌, ◌≤◌, inl, inr, List, [], ◌∷◌, length, take, drop, Option, Some, None, Ok, IsSomeAnd, option_map, refl, sym, ◌∙◌, ap, subst, arith, ⊎_elim, if◌then◌else◌, ◌==◌}
use Rattle.std.proofs.lemmas.List.{take-take, take-append-le}
use Rattle.std.proofs.lemmas.List.Sums.{sum_by-cons}
use Rattle.std.proofs.lemmas.Bool.Decides.{eqb_tells}
use Rattle.rk_outside.specs.Disks.{Disk, TellsFiles, IsHonest, EachImage, done, Write, Cut}
use Rattle.rk_gate.specs.declared.record.Record.{Record}
use Rattle.rk_gate.specs.Calls.{ChangesFile}
use Rattle.rk_gate.specs.Changes.{HasRecordsOf, HasAllOrNone, IsJournalWithGate, emptied}
use Rattle.rk_gate.specs.Reading.{IsFileOver, IsOver, IsImageOver, HasFrontOf, IsImageCut, IsSynced}
use Rattle.rk_gate.specs.Records.{recovered, recovered_file, gate_behind, record_length}
use Rattle.rk_gate.proofs.Recovering.{recovered_front, same_records, closed_gate, one_answer}
use Rattle.rk_gate.proofs.Appending.{journal_parts, journal_from, same_front, gate_there}
use Rattle.rk_gate.proofs.Runs.{images_have, changes_less, then_changes, synced_image}

-- no record, no gate behind one
no_records : (rs : List Record) → gate_behind rs ≡ 0 → rs ≡ []
no_records [] e = refl
no_records (r ∷ rs) e = absurd (omega (arith, e, sum_by-cons record_length r rs))

-- the first gate of a journal with a record, and any byte in its place
first_gate : (b c : List ℕ) (rs : List Record) → recovered b ≡ Ok rs → 0 < gate_behind rs → IsOver 0 1 b c → HasAllOrNone (Some b) (Some c)
first_gate [] c rs e some over = let bad : ⊥ = cc in absurd bad
first_gate (y ∷ bs) [] rs e some over = absurd (omega (arith, over.no_shorter))
first_gate (y ∷ bs) (z ∷ cs) rs e some over = ⊎_elim
    (λ o. inl (same_records (y ∷ bs) (z ∷ cs) rs e (ap (take (gate_behind rs + 1)) (ap (λ k. k ∷ cs) (o.1 ∙ sym is_open) ∙ ap (λ l. y ∷ l) over.after)
    ∙ take-append-le (gate_behind rs + 1) (y ∷ bs) over.rest (omega (arith, (recovered_front (y ∷ bs) rs e).long))) ∙ sym e))
    (λ s. inr (closed_gate 0 z cs s.1))
    (eqb_tells z 1)
  where
    is_open : y ≡ 1
    is_open = ⊎_elim (λ o. o.1)
        (λ s.
        let none : rs ≡ [] = one_answer (recovered (y ∷ bs)) rs [] e (closed_gate 0 y bs s.1) in
        absurd (omega (arith, some, ap gate_behind none)))
        (eqb_tells y 1)

-- a file whose first gate was written has all records or none
pub gate_closed : (gate : ℕ) (old before image : Option (List ℕ)) → IsJournalWithGate gate old → 0 < gate → HasRecordsOf old before → IsFileOver 0 1 before image → HasAllOrNone old image
gate_closed gate old None None journal some has over = inl has
gate_closed gate old None (Some c) journal some has over = absurd over
gate_closed gate old (Some b) None journal some has over = absurd over
gate_closed gate old (Some b) (Some c) journal some has over =
    let parts = journal_parts gate (recovered_file old) journal in
    ⊎_elim (λ e. inl (e ∙ has)) inr
    (first_gate b c parts.0 (has ∙ parts.1) (omega (arith, some, parts.2)) over)

-- the bytes with a closed gate in front
pub closed_there : (gate : ℕ) (old : Option (List ℕ)) → IsJournalWithGate gate old → (rest : List ℕ) × (done (Write 0 (0 ∷ [])) old ≡ Some (0 ∷ rest))
closed_there gate old journal =
    let there = gate_there gate old journal in
    (drop 1 there.0, ap (done (Write 0 (0 ∷ []))) there.1)

empty_journal : (rest : List ℕ) → recovered (0 ∷ rest) ≡ Ok []
empty_journal rest = closed_gate 0 0 rest (omega arith)

-- a file cut behind a closed first gate has no record
pub cut_closed : (gate : ℕ) (old image : Option (List ℕ)) → IsJournalWithGate gate old → HasFrontOf 1 (done (Write 0 (0 ∷ [])) old) image → HasAllOrNone old image
cut_closed gate old image journal front =
    let there = closed_there gate old journal in
    let s : Option (List ℕ) = Some (0 ∷ there.0) in
    inr (same_front 0 s s image (journal_from 0 s [] (empty_journal there.0) refl) refl (subst (λ f. HasFrontOf 1 f image) there.1 front) ∙ empty_journal there.0)

-- a journal without records, cut behind its gate
pub cut_empty : (gate : ℕ) (old before image : Option (List ℕ)) → IsJournalWithGate gate old → gate ≡ 0 → HasRecordsOf old before → HasFrontOf 1 before image → HasAllOrNone old image
cut_empty gate old before image journal is has front = inl (same_front 0 old before image (subst (λ k. IsJournalWithGate k old) is journal) has front)

pub after_close : (old new : Disk) (file gate : ℕ) → (TellsFiles old → IsJournalWithGate gate (old.files file)) → 0 < gate → (IsHonest old → EachImage old (λ image. HasRecordsOf (old.files file) (image file))) →
    ChangesFile file old new (IsImageOver (old.moments.now file) 0 1) → ChangesFile file old new (HasAllOrNone (old.files file))
after_close old new file gate journal some images run =
    changes_less old new file (IsImageOver (old.moments.now file) 0 1) (HasAllOrNone (old.files file))
    (λ honest x over. gate_closed gate (old.files file) over.before x (journal honest.tells_files) some
    (images_have old file (HasRecordsOf (old.files file)) honest (images honest) over.before over.is_image) over.over)
    run

pub after_cut_closed : (old mid new : Disk) (file gate : ℕ) → (TellsFiles old → IsJournalWithGate gate (old.files file)) →
    ChangesFile file old mid (HasAllOrNone (old.files file)) → IsSynced file mid → (TellsFiles old → mid.files file ≡ done (Write 0 (0 ∷ [])) (old.files file)) →
    ChangesFile file mid new (IsImageCut (mid.moments.now file) 1) → ChangesFile file old new (HasAllOrNone (old.files file))
after_cut_closed old mid new file gate journal one synced is two =
    then_changes old mid new file (IsImageCut (mid.moments.now file) 1) (HasAllOrNone (old.files file)) one two
    (λ honest x cut.
    let before = synced_image mid file synced (one.honest honest) cut.before cut.is_image ∙ is honest.tells_files in
    cut_closed gate (old.files file) x (journal honest.tells_files) (subst (λ f. HasFrontOf 1 f x) before cut.front))

pub after_cut_empty : (old new : Disk) (file gate : ℕ) → (TellsFiles old → IsJournalWithGate gate (old.files file)) → gate ≡ 0 → (IsHonest old → EachImage old (λ image. HasRecordsOf (old.files file) (image file))) →
    ChangesFile file old new (IsImageCut (old.moments.now file) 1) → ChangesFile file old new (HasAllOrNone (old.files file))
after_cut_empty old new file gate journal is images run =
    changes_less old new file (IsImageCut (old.moments.now file) 1) (HasAllOrNone (old.files file))
    (λ honest x cut. cut_empty gate (old.files file) cut.before x (journal honest.tells_files) is
    (images_have old file (HasRecordsOf (old.files file)) honest (images honest) cut.before cut.is_image) cut.front)
    run

-- all was done
pub record AllDone (gate : ℕ) (old new : Option (List ℕ)) : Type 0 where
  pub bytes : new ≡ option_map (emptied gate) old
  pub none : recovered_file new ≡ Ok []
  pub stands : IsJournalWithGate 0 new

pub all_closed : (gate : ℕ) (old : Option (List ℕ)) → IsJournalWithGate gate old → 0 < gate → AllDone gate old (done (Cut 1) (done (Write 0 (0 ∷ [])) old))
all_closed gate None journal some = absurd journal
all_closed gate (Some b) journal some = record {
  bytes = ⊎_elim (λ e. absurd (omega (arith, some, e.1))) (λ e. sym (ap (λ t. Some (if t then take 1 b else 0 ∷ [])) e.0)) (eqb_tells gate 0);
  none = refl;
  stands = refl;
}

pub all_empty : (gate : ℕ) (old : Option (List ℕ)) → IsJournalWithGate gate old → gate ≡ 0 → AllDone gate old (done (Cut 1) old)
all_empty gate None journal is = absurd journal
all_empty gate (Some b) journal is =
    let parts = journal_parts gate (recovered b) journal in
    let nil : parts.0 ≡ [] = no_records parts.0 (sym parts.2 ∙ is) in
    let same : HasRecordsOf (Some b) (Some (take 1 b)) =
    same_front 0 (Some b) (Some b) (Some (take 1 b)) (subst (λ k. IsJournalWithGate k (Some b)) is journal) refl (take-take 1 1 b (omega arith)) in
    let empty : recovered (take 1 b) ≡ Ok [] = same ∙ parts.1 ∙ ap (λ (l : List Record). Ok l) nil in
    record {
      bytes = sym (ap (λ k. Some (if k == 0 then take 1 b else 0 ∷ [])) is);
      none = empty;
      stands = journal_from 0 (Some (take 1 b)) [] empty refl;
    }

-- a journal has a first byte
pub first_byte : (gate : ℕ) (old : Option (List ℕ)) → IsJournalWithGate gate old → IsSomeAnd old (λ b. 1 ≤ length b)
first_byte gate old journal =
    let there = gate_there gate old journal in
    subst (λ f. IsSomeAnd f (λ b. 1 ≤ length b)) (sym there.1) (omega (arith, there.2))
