-- What a record gives: one call more is one step more.
use Rattle.std.proofs.Common.{◌≡◌, ℕ, ◌≤◌, Bool, true, false, ◌⊎◌, List, [], ◌∷◌, ◌++◌, length, Option, Some, None, refl, sym, ◌∙◌, ap, subst, arith, inl, ⊎_elim}
use Rattle.std.specs.Prelude.{Result, Ok, Err, OnOk, OnErr, IsErr, is_ok, IfSome, IsSome, unwrap_or}
use Rattle.std.proofs.lemmas.Bool.{false≢true}
use Rattle.std.proofs.lemmas.Bool.Decides.{eqb_tells}
use Rattle.rk_outside.specs.Calls.{one_more}
use Rattle.rk_outside.specs.Disks.{Cut, Disk, IsHonest, Changes, FilesChange, done, with_file, restarted}
use Rattle.rk_outside.proofs.Moments.{this_file, other_file}
use Rattle.rk_outside.proofs.Starved.{IsNoLonger, stays, starved}
use Rattle.rk_memvault.specs.declared.record.Edit.{Edit}
use Rattle.rk_memvault.specs.declared.record.Call.{Call}
use Rattle.rk_memvault.specs.declared.record.Call.TheVariants.{Edited}
use Rattle.rk_memvault.specs.declared.record.Noted.{Noted}
use Rattle.rk_memvault.specs.Slots.{files_in}
use Rattle.rk_memvault.specs.Honesty.{disk_honest}
use Rattle.rk_memvault.specs.Records.{Kept, Memory, IsTied, change_of, disk_after, replayed, disk_of, files_of, noted, after_noted, after_starved, ChangesNothing}

pub replayed_more : (ns : List Noted) (n : Noted) (d : Disk) → replayed (ns ++ n ∷ []) d ≡ disk_after n.call n.ok (replayed ns d)
replayed_more [] n d = refl
replayed_more (m ∷ ns) n d = replayed_more ns n (disk_after m.call m.ok d)

-- the change that an edit asks for, as it was answered
edited : (d : Disk) (file : ℕ) (e : Edit) (ok : Bool) (count : ℕ) → IsHonest d → IsNoLonger (change_of e) (d.files file) → Changes file (change_of e) ok count count d (disk_after (Edited file e) ok d)
edited d file e true count honest asked = record {
  later = omega arith;
  kept = λ ok. refl;
  told = record { files = sym honest.tells_files; moments = sym honest.tells_moments };
  files = λ tells. record { this = this_file file (done (change_of e) (d.files file)) d.files; others = λ f ne. other_file file (done (change_of e) (d.files file)) d.files f ne };
  moments = λ tells tells'. refl;
}
edited d file e false count honest asked = record {
  later = omega arith;
  kept = λ ok. refl;
  told = record { files = sym honest.tells_files; moments = sym honest.tells_moments };
  files = λ tells. record { this = stays (change_of e) (d.files file) asked; others = λ f ne. refl };
  moments = λ tells tells'. inl refl;
}

entries_noted : (call : Call) (ok : Bool) (kept : Kept) → (after_noted call ok kept).entries ≡ kept.entries ++ noted call ok ∷ []
entries_noted call true kept = refl
entries_noted call false kept = refl

starved_noted : (call : Call) (ok : Bool) (kept : Kept) → (after_noted call ok kept).starved ≡ kept.starved
starved_noted call true kept = refl
starved_noted call false kept = refl

-- one call more that was noted, and one that was not
disk_noted : (old new : Memory) (call : Call) (ok : Bool) → new.origin ≡ old.origin → new.kept ≡ after_noted call ok old.kept → disk_of new ≡ disk_after call ok (disk_of old)
disk_noted old new call ok origin kept =
    ap (λ files. replayed new.kept.entries (restarted (files_of files))) origin
    ∙ ap (λ entries. replayed entries (restarted (files_of old.origin))) (ap (λ k. k.entries) kept ∙ entries_noted call ok old.kept)
    ∙ replayed_more old.kept.entries (noted call ok) (restarted (files_of old.origin))

disk_starved : (old new : Memory) → new.origin ≡ old.origin → new.kept ≡ after_starved old.kept → disk_of new ≡ disk_of old
disk_starved old new origin kept =
    ap (λ files. replayed new.kept.entries (restarted (files_of files))) origin
    ∙ ap (λ entries. replayed entries (restarted (files_of old.origin))) (ap (λ k. k.entries) kept)

-- a call that was noted or not: the one that failed was listed
abbrev pub IsRefused : Call → (Type 0) → Kept → Kept → Type 0
IsRefused call listed old new = (listed × (new ≡ after_noted call false old)) ⊎ (new ≡ after_starved old)

pub same_noted : {T E : Type 0} (r : Result T E) (old new : Memory) (call : Call) (listed : Type 0) → ChangesNothing call → new.origin ≡ old.origin →
    OnOk r (new.kept ≡ after_noted call true old.kept) → OnErr r (IsRefused call listed old.kept new.kept) → disk_of new ≡ disk_of old
same_noted (Ok v) old new call listed nothing origin done refused = disk_noted old new call true origin done ∙ nothing true (disk_of old)
same_noted (Err e) old new call listed nothing origin done refused =
    ⊎_elim (λ kept. disk_noted old new call false origin kept.1 ∙ nothing false (disk_of old)) (λ kept. disk_starved old new origin kept) refused

pub tied_same : (old new : Memory) → IsTied old → ((f : ℕ) → files_in new.slots f ≡ files_in old.slots f) → disk_of new ≡ disk_of old → IsTied new
tied_same old new tied slots same = λ f. slots f ∙ tied f ∙ sym (ap (λ d. d.files f) same)

-- a change
changed_by : (old new : Memory) (file : ℕ) (e : Edit) (ok : Bool) → new.origin ≡ old.origin → new.kept ≡ after_noted (Edited file e) ok old.kept → IsNoLonger (change_of e) ((disk_of old).files file) →
    Changes file (change_of e) ok old.kept.starved new.kept.starved (disk_of old) (disk_of new)
changed_by old new file e ok origin kept asked =
    subst (λ d. Changes file (change_of e) ok old.kept.starved new.kept.starved (disk_of old) d) (sym (disk_noted old new (Edited file e) ok origin kept))
    (subst (λ count. Changes file (change_of e) ok old.kept.starved count (disk_of old) (disk_after (Edited file e) ok (disk_of old)))
    (sym (ap (λ k. k.starved) kept ∙ starved_noted (Edited file e) ok old.kept)) (edited (disk_of old) file e ok old.kept.starved (disk_honest old) asked))

pub changed : (old seen new : Memory) (file : ℕ) (e : Edit) → old ≡ seen → new.origin ≡ old.origin → new.kept ≡ after_noted (Edited file e) true old.kept →
    IsNoLonger (change_of e) ((disk_of old).files file) → Changes file (change_of e) true seen.kept.starved new.kept.starved (disk_of seen) (disk_of new)
changed old seen new file e view origin kept asked =
    subst (λ m. Changes file (change_of e) true m.kept.starved new.kept.starved (disk_of m) (disk_of new)) view (changed_by old new file e true origin kept asked)

pub refused : {T E : Type 0} (r : Result T E) (old seen new : Memory) (file : ℕ) (e : Edit) (listed : Type 0) → IsErr r → old ≡ seen → new.origin ≡ old.origin →
    old.kept.starved ≤ new.kept.starved → IsRefused (Edited file e) listed old.kept new.kept → IsNoLonger (change_of e) ((disk_of old).files file) →
    Changes file (change_of e) (is_ok r) seen.kept.starved new.kept.starved (disk_of seen) (disk_of new)
refused (Ok v) old seen new file e listed failed view origin later why asked = absurd (false≢true failed)
refused (Err x) old seen new file e listed failed view origin later why asked =
    subst (λ m. Changes file (change_of e) false m.kept.starved new.kept.starved (disk_of m) (disk_of new)) view
    (⊎_elim (λ kept. changed_by old new file e false origin kept.1 asked)
    (λ kept.
    subst (λ d. Changes file (change_of e) false old.kept.starved new.kept.starved (disk_of old) d) (sym (disk_starved old new origin kept))
    (starved (disk_of old) file (change_of e) old.kept.starved new.kept.starved later
    (let rose : new.kept.starved ≡ one_more old.kept.starved = ap (λ k. k.starved) kept in omega (arith, rose)) asked))
    why)

pub no_longer : (len : ℕ) (file : Option (List ℕ)) → IfSome file (λ bytes. len ≤ length bytes) → IsNoLonger (Cut len) file
no_longer len None asked = tt
no_longer len (Some bytes) asked = asked

pub tied_done : (old new : Memory) (file : ℕ) (e : Edit) → new.origin ≡ old.origin → new.kept ≡ after_noted (Edited file e) true old.kept → IsTied old →
    FilesChange file (change_of e) true (files_in old.slots) (files_in new.slots) → IsTied new
tied_done old new file e origin kept tied files = λ f.
    ⊎_elim
    (λ same.
    ap (files_in new.slots) same.1 ∙ files.this ∙ ap (done (change_of e)) (tied file) ∙ sym (this_file file (done (change_of e) ((disk_of old).files file)) (disk_of old).files)
    ∙ ap (with_file file (done (change_of e) ((disk_of old).files file)) (disk_of old).files) (sym same.1))
    (λ other. files.others f other.1 ∙ tied f ∙ sym (other_file file (done (change_of e) ((disk_of old).files file)) (disk_of old).files f other.1))
    (eqb_tells f file)
    ∙ sym (ap (λ d. d.files f) (disk_noted old new (Edited file e) true origin kept))

pub tied_refused : (old new : Memory) (file : ℕ) (e : Edit) (listed : Type 0) → new.origin ≡ old.origin → new.slots ≡ old.slots → IsRefused (Edited file e) listed old.kept new.kept → IsTied old → IsTied new
tied_refused old new file e listed origin slots why tied = λ f.
    ap (λ s. files_in s f) slots ∙ tied f
    ∙ ⊎_elim (λ kept. sym (ap (λ d. d.files f) (disk_noted old new (Edited file e) false origin kept.1))) (λ kept. sym (ap (λ d. d.files f) (disk_starved old new origin kept))) why

pub as_it_is : (file : Option (List ℕ)) (bytes : List ℕ) → IsSome file → bytes ≡ unwrap_or file [] → Some bytes ≡ file
as_it_is None bytes there is = absurd (false≢true there)
as_it_is (Some held) bytes there is = ap Some is
