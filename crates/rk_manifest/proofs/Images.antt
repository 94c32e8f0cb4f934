-- What calls that change the files of the manifest leave.
use Rattle.std.proofs.Common.{◌≡◌, ◌≢◌, ℕ, cond, Bool, true, false, Option, Some, Ok, List, refl, sym, ap, subst, ◌∙◌, arith, inl}
use Rattle.std.specs.Prelude.{Result, unwrap_or, IsTrue, IsOkAnd, not}
use Rattle.std.proofs.lemmas.Bool.{false≢true}
use Rattle.rk_outside.specs.Disks.{Files, Disk, TellsFiles, IsHonest, EachImage, IsImageNow, IsImageBut, LeavesOnly}
use Rattle.rk_outside.proofs.Runs.{still_told, leaves_on, leaves_less, leaves_file_on, leaves_file_less}
use Rattle.rk_outside.proofs.Steps.{now_since, started}
use Rattle.rk_gate.specs.Calls.{ChangesFile, in_journal}
use Rattle.rk_gate.specs.Changes.{IsAnything, HasRecordsOf, HasWithOrWithout, after_append}
use Rattle.rk_gate.specs.Records.{recovered_file}
use Rattle.rk_manifest.specs.Versions.{no_version, Version, version_bytes, has_no_tables}
use Rattle.rk_pieces.specs.Pieces.{then_do}
use Rattle.rk_outside.specs.declared.error.StoreError.{StoreError}
use Rattle.rk_manifest.specs.Manifests.{newer_of, versions_above, ManifestState, StandsFor, MayFollow, IsInFourth, HasOldOrNew, versions_in, is_newer, newest, manifest_in, file_of}
use Rattle.rk_manifest.specs.Calls.{IsImageBesides, ChangesManifest, HasManifestOf, start_of, MayStart, MayHold}
use Rattle.rk_manifest.proofs.Spellings.{bounds}
use Rattle.rk_manifest.proofs.Installing.{Known, ok_and, recorded_from, payload_read, held, third_written, fourth_written, new_in_third, new_in_fourth}

pub same_disk : (d : Disk) (file : ℕ) (P : Option (List ℕ) → Type 0) → (IsHonest d → (image : Files) → IsImageNow d image → P (image file)) → ChangesFile file d d P
same_disk d file P here = record {
  told = record { files = refl; moments = refl };
  others = λ t f ne. refl;
  honest = λ h. h;
  crash = λ h. started d file P (here h);
}

pub kept_disk : (a b : Disk) (file : ℕ) (P : Option (List ℕ) → Type 0) → b ≡ a → (IsHonest a → (image : Files) → IsImageNow a image → P (image file)) → ChangesFile file a b P
kept_disk a b file P same here = subst (λ d. ChangesFile file a d P) (sym same) (same_disk a file P here)

pub changes_less : (a b : Disk) (file : ℕ) (P R : Option (List ℕ) → Type 0) → ((f : Option (List ℕ)) → P f → R f) → ChangesFile file a b P → ChangesFile file a b R
changes_less a b file P R less one = record {
  told = one.told;
  others = one.others;
  honest = one.honest;
  crash = λ h. leaves_file_less a b file P R less (one.crash h);
}

-- two calls in a row
pub then_changes : (a b c : Disk) (file : ℕ) (P Q R : Option (List ℕ) → Type 0) → ((f : Option (List ℕ)) → P f → R f) → (TellsFiles a → (f : Option (List ℕ)) → Q f → R f)
    → ChangesFile file a b P → ChangesFile file b c Q → ChangesFile file a c R
then_changes a b c file P Q R first second one two = record {
  told = still_told a b c one.told two.told;
  others = λ t f ne. two.others (subst (λ x. x ≡ true) (sym one.told.files) t) f ne ∙ one.others t f ne;
  honest = λ h. two.honest (one.honest h);
  crash = λ h. leaves_file_on a b c file R (leaves_file_less a b file P R first (one.crash h)) (leaves_file_less b c file Q R (second h.tells_files) (two.crash (one.honest h)));
}

besides : (d : Disk) (file : ℕ) (P : Option (List ℕ) → Type 0) → ((f : ℕ) → f ≢ 3 → f ≢ 4 → f ≢ file) → (image : Files) → IsImageBut d file P image → IsImageBesides d image
besides d file P other image is = record { before = is.before; is_image = is.is_image; others = λ f a b. is.others f (other f a b) }

changes_one : (a b : Disk) (file : ℕ) (P : Option (List ℕ) → Type 0) → ((f : ℕ) → f ≢ 3 → f ≢ 4 → f ≢ file) → ChangesFile file a b P → ChangesManifest a b
changes_one a b file P other one = record {
  told = one.told;
  others = λ t f x y. one.others t f (other f x y);
  honest = one.honest;
  crash = λ h. leaves_less a b (IsImageBut a file P) (IsImageBesides a) (besides a file P other) (one.crash h);
}

pub changes_third : (a b : Disk) (P : Option (List ℕ) → Type 0) → ChangesFile 3 a b P → ChangesManifest a b
changes_third a b P one = changes_one a b 3 P (λ f x y. x) one

pub changes_fourth : (a b : Disk) (P : Option (List ℕ) → Type 0) → ChangesFile 4 a b P → ChangesManifest a b
changes_fourth a b P one = changes_one a b 4 P (λ f x y. y) one

pub unchanged : (a b : Disk) → b ≡ a → ChangesManifest a b
unchanged a b same = subst (ChangesManifest a) (sym same) (changes_third a a IsAnything (same_disk a 3 IsAnything (λ h image is. tt)))

-- both in a row
pub changes_both : (a b c : Disk) → ChangesManifest a b → ChangesManifest b c → ChangesManifest a c
changes_both a b c one two = record {
  told = still_told a b c one.told two.told;
  others = λ t f x y. two.others (subst (λ z. z ≡ true) (sym one.told.files) t) f x y ∙ one.others t f x y;
  honest = λ h. two.honest (one.honest h);
  crash = λ h. leaves_on a b c (IsImageBesides a) (one.crash h) (second h);
}
  where
    from_b : IsHonest a → (image : Files) → IsImageBesides b image → IsImageBesides a image
    from_b h image is =
        let run = one.crash h in
        let before = run.each is.before (now_since b.moments _ is.before run.later is.is_image) in
        record { before = before.before; is_image = before.is_image; others = λ f x y. is.others f x y ∙ before.others f x y }

    second : IsHonest a → LeavesOnly b c (IsImageBesides a)
    second h = leaves_less b c (IsImageBesides b) (IsImageBesides a) (from_b h) (two.crash (one.honest h))

-- what each image now has of another file, it had before a change
pub image_of_other : (a b : Disk) (file other : ℕ) (P : Option (List ℕ) → Type 0) (Q : Option (List ℕ) → Type 0) → other ≢ file → IsHonest a
    → ChangesFile file a b P → EachImage a (λ image. Q (image other)) → EachImage b (λ image. Q (image other))
image_of_other a b file other P Q ne h one here image now =
    let run = one.crash h in
    let is = run.each image (now_since b.moments _ image run.later now) in
    subst Q (sym (is.others other ne)) (here is.before is.is_image)

-- a journal that was emptied, or not, and then has a payload more
pub written : (f g h : ℕ) (a b c d : Disk) (emptied : Bool) (payload : List ℕ) → g ≡ f → h ≡ g → b ≡ a → ChangesFile g b c (MayStart emptied (b.files g))
    → (TellsFiles b → recovered_file (c.files g) ≡ start_of emptied (recovered_file (b.files g)))
    → ChangesFile h c d (HasWithOrWithout payload (c.files h)) → ChangesFile f a d (MayHold emptied payload (a.files f))
written f g h a b c d emptied payload gf hg same one started two =
    let second = subst (λ x. ChangesFile x c d (HasWithOrWithout payload (c.files x))) hg two in
    let all = then_changes b c d g (MayStart emptied (b.files g)) (HasWithOrWithout payload (c.files g)) (MayHold emptied payload (b.files g))
    (λ x. inl) (λ t x. held emptied payload (b.files g) (c.files g) x (started t)) one second in
    subst (λ x. ChangesFile x a d (MayHold emptied payload (a.files x))) gf (subst (λ x. ChangesFile g x d (MayHold emptied payload (x.files g))) same all)

pub started_only : (f g : ℕ) (a b c : Disk) (emptied : Bool) (payload : List ℕ) → g ≡ f → b ≡ a → ChangesFile g b c (MayStart emptied (b.files g)) → ChangesFile f a c (MayHold emptied payload (a.files f))
started_only f g a b c emptied payload gf same one =
    let all = changes_less b c g (MayStart emptied (b.files g)) (MayHold emptied payload (b.files g)) (λ x. inl) one in
    subst (λ x. ChangesFile x a c (MayHold emptied payload (a.files x))) gf (subst (λ x. ChangesFile g x c (MayHold emptied payload (x.files g))) same all)

other_of : (t : Bool) → file_of (not t) ≢ file_of t
other_of true e = absurd (omega arith)
other_of false e = absurd (omega arith)

pub changes_file_of : (t : Bool) (a b : Disk) (P : Option (List ℕ) → Type 0) → ChangesFile (file_of t) a b P → ChangesManifest a b
changes_file_of true a b P one = changes_fourth a b P one
changes_file_of false a b P one = changes_third a b P one

one_of : (t : Bool) (old files : Files) → HasManifestOf old files → HasRecordsOf (old (file_of t)) (files (file_of t))
one_of true old files h = h.fourth
one_of false old files h = h.third

both_of : (t : Bool) (old files : Files) → HasRecordsOf (old (file_of t)) (files (file_of t)) → HasRecordsOf (old (file_of (not t))) (files (file_of (not t))) → HasManifestOf old files
both_of true old files this other = record { third = other; fourth = this }
both_of false old files this other = record { third = this; fourth = other }

where_from : (in_fourth emptied t : Bool) → t ≡ cond emptied (not in_fourth) in_fourth → IsTrue emptied → in_fourth ≡ not t
where_from true true t e h = ap not (sym e)
where_from false true t e h = ap not (sym e)
where_from b false t e h = absurd (false≢true h)

-- what is read, or what a crash leaves, has the old version or the new one
pub old_or_new : (in_fourth emptied t : Bool) (old new : Files) (payload : List ℕ) (v : Version) → t ≡ cond emptied (not in_fourth) in_fourth → Known in_fourth (old 3) (old 4) payload v
    → MayHold emptied payload (old (file_of t)) (new (file_of t)) → HasRecordsOf (old (file_of (not t))) (new (file_of (not t))) → HasOldOrNew old v new
old_or_new in_fourth emptied true old new payload v e k held same = fourth_written in_fourth emptied (old 3) (old 4) payload v (new 3) (new 4) k (where_from in_fourth emptied true e) same held
old_or_new in_fourth emptied false old new payload v e k held same = third_written in_fourth emptied (old 3) (old 4) payload v (new 3) (new 4) k (where_from in_fourth emptied false e) held same

pub new_version : (in_fourth emptied t : Bool) (old new : Files) (payload : List ℕ) (v : Version) → Known in_fourth (old 3) (old 4) payload v
    → recovered_file (new (file_of t)) ≡ after_append payload (start_of emptied (recovered_file (old (file_of t)))) → HasRecordsOf (old (file_of (not t))) (new (file_of (not t)))
    → (manifest_in new ≡ Ok v) × IsInFourth t (new 3) (new 4)
new_version in_fourth emptied true old new payload v k added same = new_in_fourth in_fourth emptied (old 3) (old 4) payload v (new 3) (new 4) k same added
new_version in_fourth emptied false old new payload v k added same = new_in_third in_fourth emptied (old 3) (old 4) payload v (new 3) (new 4) k added same

-- the other file reads as before
pub other_reads : (t : Bool) (a b : Disk) (P : Option (List ℕ) → Type 0) → TellsFiles a → ChangesFile (file_of t) a b P → HasRecordsOf (a.files (file_of (not t))) (b.files (file_of (not t)))
other_reads t a b P tells one = ap recovered_file (one.others tells (file_of (not t)) (other_of t))

pub crash_of : (in_fourth emptied t : Bool) (a b : Disk) (payload : List ℕ) (v : Version) → t ≡ cond emptied (not in_fourth) in_fourth → Known in_fourth (a.files 3) (a.files 4) payload v
    → IsHonest a → EachImage a (HasManifestOf a.files) → ChangesFile (file_of t) a b (MayHold emptied payload (a.files (file_of t))) → LeavesOnly a b (HasOldOrNew a.files v)
crash_of in_fourth emptied t a b payload v e k honest here one =
    leaves_less a b (IsImageBut a (file_of t) (MayHold emptied payload (a.files (file_of t)))) (HasOldOrNew a.files v)
    (λ image is. old_or_new in_fourth emptied t a.files image payload v e k is.this
    (ap recovered_file (is.others (file_of (not t)) (other_of t)) ∙ one_of (not t) a.files is.before (here is.before is.is_image)))
    (one.crash honest)

pub there_of : (t : Bool) (a b : Disk) (P : Option (List ℕ) → Type 0) → IsHonest a → EachImage a (HasManifestOf a.files) → ChangesFile (file_of t) a b P
    → EachImage b (λ image. HasRecordsOf (b.files (file_of t)) (image (file_of t))) → EachImage b (HasManifestOf b.files)
there_of t a b P honest here one this image now =
    let o = file_of (not t) in
    let other = image_of_other a b (file_of t) o P (λ f. HasRecordsOf (a.files o) f) (other_of t) honest one (λ i n. one_of (not t) a.files i (here i n)) image now in
    both_of t b.files image (this image now) (other ∙ sym (other_reads t a b P honest.tells_files one))

-- what is known before an install
pub known : (m : ManifestState) (files : Files) (v : Version) → StandsFor m files → MayFollow files v → IsTrue (has_no_tables v) → Known m.in_fourth (files 3) (files 4) (version_bytes v) v
known m files v stands follow none =
    let third = ok_and (versions_in (files 3)) (λ vs. IsOkAnd (versions_in (files 4)) (λ ws. m.in_fourth ≡ is_newer (newest vs) (newest ws))) stands.in_fourth in
    let fourth = ok_and (versions_in (files 4)) (λ ws. m.in_fourth ≡ is_newer (newest third.0) (newest ws)) third.2 in
    let recorded = recorded_from (files 3) (files 4) (newest third.0) (newest fourth.0) (record { vs = third.0; versions = third.1; newest_is = refl }) (record { vs = fourth.0; versions = fourth.1; newest_is = refl }) in
    record {
      vs = third.0;
      ws = fourth.0;
      third_is = third.1;
      fourth_is = fourth.1;
      flag = fourth.2;
      newer = subst (λ r. IsOkAnd r (λ old. IsTrue (is_newer old (Some v)))) recorded follow.newer;
      read = payload_read v follow.is_version none;
      some = omega (arith, (bounds v follow.is_version).least);
    }

pub three_not_four : ◌≢◌ {A = ℕ} 3 4
three_not_four e = absurd (omega arith)

-- a record was written into the file where it goes, which was emptied first or not
pub record Written (in_fourth emptied t : Bool) (a b : Disk) (payload : List ℕ) : Type 0 where
  pub place : t ≡ cond emptied (not in_fourth) in_fourth
  pub change : ChangesFile (file_of t) a b (MayHold emptied payload (a.files (file_of t)))
  pub reads : TellsFiles a → MayHold emptied payload (a.files (file_of t)) (b.files (file_of t))

-- the same, behind a call that left the disk
pub written_at : (in_fourth emptied t : Bool) (a b c : Disk) (payload : List ℕ) → b ≡ a → t ≡ cond emptied (not in_fourth) in_fourth
    → ChangesFile (file_of t) b c (MayHold emptied payload (b.files (file_of t))) → (TellsFiles b → MayHold emptied payload (b.files (file_of t)) (c.files (file_of t)))
    → Written in_fourth emptied t a c payload
written_at in_fourth emptied t a b c payload same place change reads = subst (λ d. Written in_fourth emptied t d c payload) same (record { place = place; change = change; reads = reads })

pub known_by : (m : ManifestState) (files : Files) (payload : List ℕ) (v : Version) → payload ≡ version_bytes v → StandsFor m files → IsTrue (has_no_tables v) → MayFollow files v
    → Known m.in_fourth (files 3) (files 4) payload v
known_by m files payload v spelled stands none follow = subst (λ p. Known m.in_fourth (files 3) (files 4) p v) (sym spelled) (known m files v stands follow none)

pub reads_of : (in_fourth emptied t : Bool) (a b : Disk) (payload : List ℕ) (v : Version) → Written in_fourth emptied t a b payload → TellsFiles a → Known in_fourth (a.files 3) (a.files 4) payload v
    → HasOldOrNew a.files v b.files
reads_of in_fourth emptied t a b payload v w tells k =
    old_or_new in_fourth emptied t a.files b.files payload v w.place k (w.reads tells) (other_reads t a b (MayHold emptied payload (a.files (file_of t))) tells w.change)

pub new_of : (in_fourth emptied t : Bool) (a b c : Disk) (payload : List ℕ) (v : Version) → Written in_fourth emptied t a c payload → b ≡ a → TellsFiles a → Known in_fourth (a.files 3) (a.files 4) payload v
    → (TellsFiles b → recovered_file (c.files (file_of t)) ≡ after_append payload (start_of emptied (recovered_file (b.files (file_of t)))))
    → (manifest_in c.files ≡ Ok v) × IsInFourth t (c.files 3) (c.files 4)
new_of in_fourth emptied t a b c payload v w same tells k added =
    let here = subst (λ d. TellsFiles d → recovered_file (c.files (file_of t)) ≡ after_append payload (start_of emptied (recovered_file (d.files (file_of t))))) same added tells in
    new_version in_fourth emptied t a.files c.files payload v k here (other_reads t a c (MayHold emptied payload (a.files (file_of t))) tells w.change)

abbrev version_by : Result (List Version) ℕ → Result (List Version) ℕ → Result Version StoreError
version_by third fourth =
    then_do (then_do (in_journal 3 third) (λ vs. then_do (in_journal 4 fourth) (λ ws. Ok (newer_of (newest vs) (newest ws))))) (λ v. Ok (unwrap_or v no_version))

-- files with the same records have the same version
pub same_version : (old files : Files) → HasManifestOf old files → manifest_in files ≡ manifest_in old
same_version old files h =
    ap (λ r. version_by (then_do r (versions_above 0)) (versions_in (files 4))) h.third
    ∙ ap (λ r. version_by (versions_in (old 3)) (then_do r (versions_above 0))) h.fourth
