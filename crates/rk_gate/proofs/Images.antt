-- What a write, a cut and a sync of one file leave of it in each image.
use Rattle.std.proofs.Common.{◌≡◌, ℕ, ◌+◌, ◌-◌, ◌≤◌, ◌<◌, Bool, true, false, ◌&&◌, ◌||◌, List, [], ◌∷◌, ◌++◌, length, take, drop, get_or, min, Option, Some, None, IsSomeAnd, IsTrue, refl, sym, ◌∙◌, ap, subst, arith, ⊎_elim}
use Rattle.std.specs.Prelude.{nat_lt, nat_le}
use Rattle.std.proofs.lemmas.Bool.{false≢true, or_from}
use Rattle.std.proofs.lemmas.Bool.Decides.{leb_tells}
use Rattle.std.proofs.lemmas.List.{length-append, length-take, length-take-le, length-drop, get_or-take, get_or-drop, get_or_append_left, get_or-append_right, take_at, drop_at, take-append-drop, drop_all, take_all, append-nil, append_assoc, ext_get_or}
use Rattle.rk_outside.specs.Disks.{Disk, Files, Facts, FileFacts, Synced, Changed, Unsynced, IsLeft, IsFileImage, IsImageNow, Change, Write, Cut, Sync, Changes, TellsFiles, IsHonest, IsTorn, MayRead, done, overwritten, is_written, after_write, after_cut, since_sync, facts_after, with_file, LeavesFileOnly, moment}
use Rattle.rk_outside.proofs.Moments.{this_file, other_file}
use Rattle.rk_outside.proofs.Steps.{started, step, now_since}
use Rattle.std.proofs.lemmas.Bool.Decides.{eqb_tells}
use Rattle.rk_gate.specs.Calls.{ChangesFile}
use Rattle.rk_gate.specs.Reading.{IsOver, IsFileOver, IsImageOver, HasFrontOf, IsImageCut}

-- a write doesn't cover a place before it or behind it
before_it : (ws : List (ℕ × ℕ)) (at n i : ℕ) → i < at → is_written ws i ≡ false → is_written ((at, n) ∷ ws) i ≡ false
before_it ws at n i lt not = ⊎_elim (λ e. absurd (omega (arith, lt, e.1))) (λ e. ap (λ b. (b && nat_lt i (at + n)) || is_written ws i) e.0 ∙ not) (leb_tells at i)

behind_it : (ws : List (ℕ × ℕ)) (at n i : ℕ) → at + n ≤ i → is_written ws i ≡ false → is_written ((at, n) ∷ ws) i ≡ false
behind_it ws at n i le not = or_from (nat_le at i && nat_lt i (at + n)) (is_written ws i) (no (nat_le at i) (nat_lt i (at + n)) (not_below i (at + n) le)) not
  where
    no : (a b : Bool) → b ≡ false → (a && b) ≡ false
    no true b e = e
    no false b e = refl

    not_below : (a b : ℕ) → b ≤ a → nat_lt a b ≡ false
    not_below a b le = grind (arith)

over_same : (at n : ℕ) (c : List ℕ) → IsOver at n c c
over_same at n c = record { rest = []; before = refl; after = sym (append-nil (drop (at + n) c)); no_shorter = omega arith }

pub over_file_same : (at n : ℕ) (file : Option (List ℕ)) → IsFileOver at n file file
over_file_same at n None = tt
over_file_same at n (Some c) = over_same at n c

-- an image behind a file's last sync, with its range as it was there
module _ (u : Unsynced) (at n : ℕ) (c : List ℕ) (left : IsLeft (after_write true at n u) c) (long : at ≤ length c) where
  all : List ℕ
  all = u.front ++ drop (length u.front) c

  length-all : length all ≡ length c
  unfolding all
  length-all = omega (arith, length-append u.front (drop (length u.front) c), length-drop (length u.front) c, left.no_shorter)

  range : List ℕ
  range = take n (drop at all)

  length-range : length range ≡ min n (length c - at)
  unfolding range
  length-range = omega (arith, length-take n (drop at all), length-drop at all, length-all)

  image_before : List ℕ
  image_before = take at c ++ range ++ drop (at + n) c

  front_length : length (take at c) ≡ at
  front_length = length-take-le at c long

  two : length (take at c ++ range) ≡ at + min n (length c - at)
  two = omega (arith, front_length, length-append (take at c) range, length-range)

  length-before : length image_before ≡ length c
  unfolding image_before
  length-before = omega (arith, two, length-append (take at c ++ range) (drop (at + n) c), length-drop (at + n) c)

  before_kept : (i : ℕ) → i < length u.front → is_written u.writes i ≡ false → get_or image_before i 0 ≡ get_or u.front i 0
  unfolding image_before range all
  before_kept i lt not = ⊎_elim
      (λ e. ⊎_elim
      (λ k.
      get_or-append_right (take at c ++ range) (drop (at + n) c) (at + n) i 0 (omega (arith, two, k.1, lt, left.no_shorter)) k.1
      ∙ get_or-drop (at + n) c (i - (at + n)) 0 ∙ ap (λ j. get_or c j 0) (omega (arith, k.1))
      ∙ left.kept i lt (behind_it u.writes at n i k.1 not))
      (λ k.
      get_or_append_left (take at c ++ range) (drop (at + n) c) 0 i (omega (arith, two, k.1, e.1, lt, left.no_shorter))
      ∙ get_or-append_right (take at c) range at i 0 front_length e.1
      ∙ get_or-take n (drop at all) (i - at) 0 (omega (arith, e.1, k.1))
      ∙ get_or-drop at all (i - at) 0 ∙ ap (λ j. get_or all j 0) (omega (arith, e.1))
      ∙ get_or_append_left u.front (drop (length u.front) c) 0 i lt)
      (leb_tells (at + n) i))
      (λ e.
      get_or_append_left (take at c ++ range) (drop (at + n) c) 0 i (omega (arith, two, e.1))
      ∙ get_or_append_left (take at c) range 0 i (omega (arith, front_length, e.1))
      ∙ get_or-take at c i 0 e.1 ∙ left.kept i lt (before_it u.writes at n i e.1 not))
      (leb_tells at i)

  before_left : IsLeft u image_before
  before_left = record { no_shorter = omega (arith, length-before, left.no_shorter); kept = before_kept }

  behind_same : drop (at + n) c ≡ drop (at + n) image_before
  unfolding image_before
  behind_same = ⊎_elim
      (λ e. sym (drop_at (take at c ++ range) (drop (at + n) c) (at + n) (omega (arith, two, e.1))))
      (λ e. drop_all (at + n) c (omega (arith, e.1)) ∙ sym (drop_all (at + n) (take at c ++ range ++ drop (at + n) c) (omega (arith, e.1, length-before))))
      (leb_tells (at + n) (length c))

  over_before : IsOver at n image_before c
  unfolding image_before
  over_before = record {
    rest = [];
    before = sym (ap (take at) (append_assoc (take at c) range (drop (at + n) c)) ∙ take_at (take at c) (range ++ drop (at + n) c) at front_length);
    after = behind_same ∙ sym (append-nil (drop (at + n) (take at c ++ range ++ drop (at + n) c)));
    no_shorter = omega (arith, length-before);
  }

-- an image after a write is one from before it, with anything where it wrote
over_changed : (u : Unsynced) (at n : ℕ) (c : List ℕ) → IsLeft (after_write true at n u) c → IsImageOver (Changed u) at n (Some c)
over_changed u at n c left = ⊎_elim
    (λ e. record { before = Some (image_before u at n c left e.1); is_image = before_left u at n c left e.1; over = over_before u at n c left e.1 })
    (λ e. record {
      before = Some c;
      is_image = record { no_shorter = left.no_shorter; kept = λ i lt not. left.kept i lt (before_it u.writes at n i (omega (arith, e.1, lt, left.no_shorter)) not) };
      over = over_same at n c;
    })
    (leb_tells at (length c))

over_synced : (f : List ℕ) (at n : ℕ) (c : List ℕ) → at ≤ length f → IsLeft (after_write true at n (record { front = f; writes = []; loose = false })) c → IsOver at n f c
over_synced f at n c le left =
    let behind = length f - (at + n) in record {
      rest = drop behind (drop (at + n) c);
      before = ext_get_or 0 (take at c) (take at f)
          (omega (arith, length-take at c, length-take at f, le, left.no_shorter))
          (λ i lt.
          let below : i < at = omega (arith, lt, length-take at c) in
          get_or-take at c i 0 below ∙ left.kept i (omega (arith, below, le)) (before_it [] at n i below refl) ∙ sym (get_or-take at f i 0 below));
      after = sym (take-append-drop behind (drop (at + n) c))
          ∙ ap (λ l. l ++ drop behind (drop (at + n) c)) (ext_get_or 0 (take behind (drop (at + n) c)) (drop (at + n) f)
          (omega (arith, length-take behind (drop (at + n) c), length-drop (at + n) c, length-drop (at + n) f, left.no_shorter))
          (λ i lt.
          let below : i < behind = omega (arith, lt, length-take behind (drop (at + n) c)) in
          get_or-take behind (drop (at + n) c) i 0 below ∙ get_or-drop (at + n) c i 0
          ∙ left.kept (at + n + i) (omega (arith, below)) (behind_it [] at n (at + n + i) (omega arith) refl) ∙ sym (get_or-drop (at + n) f i 0)));
      no_shorter = left.no_shorter;
    }

pub write_images : (facts : FileFacts) (file : Option (List ℕ)) (at : ℕ) (bytes : List ℕ) (ok : Bool) (image : Option (List ℕ)) → IsFileImage facts file → IsSomeAnd file (λ old. at ≤ length old) →
    IsFileImage (facts_after ok file (Write at bytes) facts) image → IsImageOver facts at (length bytes) image
write_images facts None at bytes ok image is there left = absurd there
write_images (Synced None) (Some b) at bytes ok image is there left = let bad : ⊥ = cc in absurd bad
write_images (Synced (Some f)) (Some b) at bytes ok None is there left = absurd (false≢true left)
write_images (Synced (Some f)) (Some b) at bytes ok (Some c) is there left =
    let same : b ≡ f = cc in
    record { before = Some f; is_image = refl; over = over_synced f at (length bytes) c (subst (λ l. at ≤ length l) same there) left }
write_images (Changed u) (Some b) at bytes ok None is there left = record { before = None; is_image = left; over = tt }
write_images (Changed u) (Some b) at bytes ok (Some c) is there left = over_changed u at (length bytes) c left

-- what is read after a write is what was, with anything where it wrote
pub write_reads : (file new : Option (List ℕ)) (at : ℕ) (bytes : List ℕ) (ok : Bool) → IsSomeAnd file (λ old. at ≤ length old) →
    Rattle.rk_outside.specs.Disks.Reads ok (Write at bytes) file new → IsFileOver at (length bytes) file new
write_reads None new at bytes ok there reads = absurd there
write_reads (Some b) new at bytes true there reads = subst (IsFileOver at (length bytes) (Some b)) (sym reads) (
    let two : length (take at b ++ bytes) ≡ at + length bytes = omega (arith, length-append (take at b) bytes, length-take-le at b there) in
    record {
      rest = [];
      before = ap (take at) (append_assoc (take at b) bytes (drop (at + length bytes) b)) ∙ take_at (take at b) (bytes ++ drop (at + length bytes) b) at (length-take-le at b there);
      after = drop_at (take at b ++ bytes) (drop (at + length bytes) b) (at + length bytes) two ∙ sym (append-nil (drop (at + length bytes) b));
      no_shorter = omega (arith, two, length-append (take at b ++ bytes) (drop (at + length bytes) b), length-drop (at + length bytes) b);
    })
write_reads (Some b) None at bytes false there reads = absurd reads
write_reads (Some b) (Some c) at bytes false there reads = record {
  rest = [];
  before = reads.before;
  after = reads.after ∙ sym (append-nil (drop (at + length bytes) b));
  no_shorter = reads.no_shorter;
}

-- a sync changes nothing that is read
pub sync_reads : (file new : Option (List ℕ)) (ok : Bool) → Rattle.rk_outside.specs.Disks.Reads ok Sync file new → new ≡ file
sync_reads file new true reads = reads
sync_reads file new false reads = reads

cut_changed : (u : Unsynced) (len : ℕ) (c : List ℕ) → IsLeft (after_cut len u) c → IsLeft u (take len c ++ drop len u.front)
cut_changed u len c left = record {
  no_shorter = omega (arith, left.no_shorter, length-take len u.front, length-append (take len c) (drop len u.front), length-take len c, length-drop len u.front);
  kept = λ i lt not. ⊎_elim
      (λ e.
      let whole : length (take len c) ≡ len = length-take-le len c (omega (arith, e.1, lt, left.no_shorter, length-take len u.front)) in
      get_or-append_right (take len c) (drop len u.front) len i 0 whole e.1 ∙ get_or-drop len u.front (i - len) 0 ∙ ap (λ k. get_or u.front k 0) (omega (arith, e.1)))
      (λ e.
      get_or_append_left (take len c) (drop len u.front) 0 i (omega (arith, e.1, lt, left.no_shorter, length-take len c, length-take len u.front))
      ∙ get_or-take len c i 0 e.1 ∙ left.kept i (omega (arith, e.1, lt, length-take len u.front)) not ∙ get_or-take len u.front i 0 e.1)
      (leb_tells len i);
}

cut_front : (u : Unsynced) (len : ℕ) (c : List ℕ) → IsLeft (after_cut len u) c → take len c ≡ take len (take len c ++ drop len u.front)
cut_front u len c left = ⊎_elim
    (λ e. sym (take_at (take len c) (drop len u.front) len (length-take-le len c e.1)))
    (λ e.
    let none : drop len u.front ≡ [] = drop_all len u.front (omega (arith, e.1, left.no_shorter, length-take len u.front)) in
    sym (take_all len (take len c) (omega (arith, length-take len c))) ∙ ap (take len) (sym (append-nil (take len c)) ∙ ap (λ l. take len c ++ l) (sym none)))
    (leb_tells len (length c))

cut_synced : (f : List ℕ) (len : ℕ) (c : List ℕ) → len ≤ length f → IsLeft (after_cut len (record { front = f; writes = []; loose = false })) c → take len c ≡ take len f
cut_synced f len c le left =
    ext_get_or 0 (take len c) (take len f)
    (omega (arith, length-take len c, length-take len f, le, left.no_shorter))
    (λ i lt.
    let below : i < len = omega (arith, lt, length-take len c) in
    get_or-take len c i 0 below ∙ left.kept i (omega (arith, below, le, length-take len f)) refl)

pub cut_images : (facts : FileFacts) (file : Option (List ℕ)) (len : ℕ) (ok : Bool) (image : Option (List ℕ)) → IsFileImage facts file → IsSomeAnd file (λ old. len ≤ length old) →
    IsFileImage (facts_after ok file (Cut len) facts) image → IsImageCut facts len image
cut_images facts None len ok image is there left = absurd there
cut_images (Synced None) (Some b) len ok image is there left = let bad : ⊥ = cc in absurd bad
cut_images (Synced (Some f)) (Some b) len ok None is there left = absurd (false≢true left)
cut_images (Synced (Some f)) (Some b) len ok (Some c) is there left =
    let same : b ≡ f = cc in
    record { before = Some f; is_image = refl; front = cut_synced f len c (subst (λ l. len ≤ length l) same there) left }
cut_images (Changed u) (Some b) len ok None is there left = record { before = None; is_image = left; front = tt }
cut_images (Changed u) (Some b) len ok (Some c) is there left = record { before = Some (take len c ++ drop len u.front); is_image = cut_changed u len c left; front = cut_front u len c left }

pub front_file_same : (len : ℕ) (file : Option (List ℕ)) → HasFrontOf len file file
front_file_same len None = tt
front_file_same len (Some c) = refl

-- an image after a sync is one from before it
sync_images : (facts : FileFacts) (file : Option (List ℕ)) (ok : Bool) (image : Option (List ℕ)) → IsFileImage facts file → IsFileImage (facts_after ok file Sync facts) image → IsFileImage facts image
sync_images facts file true image is left = subst (IsFileImage facts) (sym left) is
sync_images facts file false image is left = left

-- what each image of the file has that a call leaves, each image by the facts now has
pub of_now : (old now : Disk) (file : ℕ) (P : Option (List ℕ) → Type 0) → IsHonest now → LeavesFileOnly file old now P → (x : Option (List ℕ)) → IsFileImage (now.moments.now file) x → P x
of_now old now file P honest crash x is =
    let image = with_file file x now.files in
    let is_image : IsImageNow now image =
    (λ f. ⊎_elim
    (λ e. subst (λ g. IsFileImage (now.moments.now g) (image g)) (sym e.1) (subst (IsFileImage (now.moments.now file)) (sym (this_file file x now.files)) is))
    (λ e. subst (IsFileImage (now.moments.now f)) (sym (other_file file x now.files f e.1)) (honest.is_image f))
    (eqb_tells f file)) in
    subst P (this_file file x now.files) (crash.each image (now_since now.moments (moment old) image crash.later is_image)).this

pub write_run : (old new : Disk) (file at : ℕ) (bytes : List ℕ) (ok : Bool) (before now : ℕ) → (TellsFiles old → IsSomeAnd (old.files file) (λ b. at ≤ length b)) → Changes file (Write at bytes) ok before now old new →
    ChangesFile file old new (IsImageOver (old.moments.now file) at (length bytes))
write_run old new file at bytes ok before now there change =
    let P : Option (List ℕ) → Type 0 = IsImageOver (old.moments.now file) at (length bytes) in
    let run : IsHonest old → IsHonest new × LeavesFileOnly file old new P =
    (λ honest. step old old new file (Write at bytes) ok before now P honest
    (started old file P (λ image is. record { before = image file; is_image = is file; over = over_file_same at (length bytes) (image file) }))
    change
    (λ image left. write_images (old.moments.now file) (old.files file) at bytes ok image (honest.is_image file) (there honest.tells_files) left)) in
    record {
      told = change.told;
      others = λ tells. (change.files tells).others;
      honest = λ honest. (run honest).0;
      crash = λ honest. (run honest).1;
    }

pub cut_run : (old new : Disk) (file len : ℕ) (ok : Bool) (before now : ℕ) → (TellsFiles old → IsSomeAnd (old.files file) (λ b. len ≤ length b)) → Changes file (Cut len) ok before now old new →
    ChangesFile file old new (IsImageCut (old.moments.now file) len)
cut_run old new file len ok before now there change =
    let P : Option (List ℕ) → Type 0 = IsImageCut (old.moments.now file) len in
    let run : IsHonest old → IsHonest new × LeavesFileOnly file old new P =
    (λ honest. step old old new file (Cut len) ok before now P honest
    (started old file P (λ image is. record { before = image file; is_image = is file; front = front_file_same len (image file) }))
    change
    (λ image left. cut_images (old.moments.now file) (old.files file) len ok image (honest.is_image file) (there honest.tells_files) left)) in
    record {
      told = change.told;
      others = λ tells. (change.files tells).others;
      honest = λ honest. (run honest).0;
      crash = λ honest. (run honest).1;
    }

-- after more calls that leave what was left, a sync too leaves it
pub then_sync : (old mid new : Disk) (file : ℕ) (P : Option (List ℕ) → Type 0) (ok : Bool) (before now : ℕ) → ChangesFile file old mid P → Changes file Sync ok before now mid new → ChangesFile file old new P
then_sync old mid new file P ok before now run change =
    let go : IsHonest old → IsHonest new × LeavesFileOnly file old new P =
    (λ honest. step old mid new file Sync ok before now P (run.honest honest) (run.crash honest) change
    (λ image left. of_now old mid file P (run.honest honest) (run.crash honest) image
    (sync_images (mid.moments.now file) (mid.files file) ok image ((run.honest honest).is_image file) left))) in
    record {
      told = record { files = change.told.files ∙ run.told.files; moments = change.told.moments ∙ run.told.moments };
      others = λ tells f ne. (change.files (subst IsTrue (sym run.told.files) tells)).others f ne ∙ run.others tells f ne;
      honest = λ honest. (go honest).0;
      crash = λ honest. (go honest).1;
    }
