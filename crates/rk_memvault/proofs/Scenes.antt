-- The traces of files over a record of calls, and the images of its moments.
use Rattle.std.proofs.Common.{◌≡◌, ◌≢◌, ℕ, ◌+◌, ◌-◌, ◌<◌, Bool, true, false, List, [], ◌∷◌, ◌++◌, length, take, drop, Option, Some, None, refl, sym, ◌∙◌, ap, subst, arith, get_or, ⊎_elim, cond, append_assoc}
use Rattle.std.specs.Prelude.{slice_get, IsSomeAnd, Result, Ok, Err, IfOk}
use Rattle.std.specs.List.{AllZip}
use Rattle.std.proofs.lemmas.Bool.Decides.{eqb_tells}
use Rattle.std.proofs.lemmas.List.{take_more, take-append-drop, length-append, append-nil, get_or-append_right}
use Rattle.std.proofs.lemmas.Option.{slice_get-get_or}
use Rattle.rk_outside.specs.Disks.{Files, FileFacts, Facts, Disk, Moments, Change, IsImage, IsImageAt, all_moments, moment, restarted, with_file, facts_after}
use Rattle.rk_outside.proofs.Moments.{this_file, other_file}
use Rattle.rk_memvault.specs.declared.free.Free.{Free}
use Rattle.rk_memvault.specs.declared.record.Edit.{Edit}
use Rattle.rk_memvault.specs.declared.record.Call.{Call}
use Rattle.rk_memvault.specs.declared.record.Call.TheVariants.{Numbers, MakeRoom, Length, Read, Edited, Open}
use Rattle.rk_memvault.specs.declared.record.Noted.{Noted}
use Rattle.rk_memvault.specs.Records.{Memory, change_of, files_after, disk_after, replayed, files_of, disk_of}
use Rattle.rk_memvault.specs.Images.{Trace, IsTraceOf, TracesChange, trace_after, choices, AreTracesOf, trace_at, start_trace, is_change, disk_upto, IsImageBy, AreImagesBy, AreTracesAt, AreLeftAt}
use Rattle.rk_memvault.proofs.Traces.{traced, file_after}
use Rattle.rk_memvault.proofs.ByTraces.{image_left}
use Rattle.rk_memvault.proofs.Replays.{replayed_more}

-- from the start
start_is : (fill : ℕ) (file : Option (List ℕ)) → IsTraceOf fill file (Rattle.rk_outside.specs.Disks.Synced file) (start_trace file)
start_is fill None = record { read = refl; met = refl }
start_is fill (Some b) = record { read = refl; met = refl }

pub scene_started : (fill : ℕ) (files : Files) (traces : List (ℕ × Trace)) → ((f : ℕ) → trace_at traces f ≡ start_trace (files f)) → AreTracesOf fill (restarted files) traces
scene_started fill files traces are = λ f. subst (IsTraceOf fill (files f) (Rattle.rk_outside.specs.Disks.Synced (files f))) (sym (are f)) (start_is fill (files f))

-- over a change
this_after : (ok : Bool) (file : ℕ) (change : Change) (files : Files) → files_after ok file change files file ≡ file_after ok change (files file)
this_after true file change files = this_file file (Rattle.rk_outside.specs.Disks.done change (files file)) files
this_after false file change files = refl

other_after : (ok : Bool) (file : ℕ) (change : Change) (files : Files) (f : ℕ) → f ≢ file → files_after ok file change files f ≡ files f
other_after true file change files f apart = other_file file (Rattle.rk_outside.specs.Disks.done change (files file)) files f apart
other_after false file change files f apart = refl

pub scene_edited : (fill file : ℕ) (e : Edit) (ok : Bool) (d : Disk) (old new : List (ℕ × Trace)) → AreTracesOf fill d old → TracesChange fill file (change_of e) ok old new →
    AreTracesOf fill (disk_after (Edited file e) ok d) new
scene_edited fill file e ok d old new are changes = λ f.
    let next = disk_after (Edited file e) ok d in
    let facts = facts_after ok (d.files file) (change_of e) (d.moments.now file) in
    let after = trace_after fill (change_of e) ok (trace_at old file) in
    ⊎_elim
    (λ same. subst (λ g. IsTraceOf fill (next.files g) (next.moments.now g) (trace_at new g)) (sym same.1)
    (subst (λ t. IsTraceOf fill (next.files file) (next.moments.now file) t) (sym changes.this)
    (subst (λ x. IsTraceOf fill (next.files file) x after) (sym (this_file file facts d.moments.now))
    (subst (λ x. IsTraceOf fill x facts after) (sym (this_after ok file (change_of e) d.files)) (traced fill (change_of e) ok (d.files file) (d.moments.now file) (trace_at old file) (are file))))))
    (λ other. subst (λ t. IsTraceOf fill (next.files f) (next.moments.now f) t) (sym (changes.others f other.1))
    (subst (λ x. IsTraceOf fill (next.files f) x (trace_at old f)) (sym (other_file file facts d.moments.now f other.1))
    (subst (λ x. IsTraceOf fill x (d.moments.now f) (trace_at old f)) (sym (other_after ok file (change_of e) d.files f other.1)) (are f))))
    (eqb_tells f file)

-- one call more
pub upto_more : (origin : List (ℕ × List ℕ)) (entries : List Noted) (i : ℕ) (n : Noted) → i < length entries → n ≡ get_or entries i n →
    disk_upto (i + 1) origin entries ≡ disk_after n.call n.ok (disk_upto i origin entries)
upto_more origin entries i n lt is =
    ap (λ ns. replayed ns (restarted (files_of origin))) (take_more entries i n lt ∙ ap (λ m. take i entries ++ m ∷ []) (sym is))
    ∙ replayed_more (take i entries) n (restarted (files_of origin))

pub moment_more : (call : Call) (ok : Bool) (d : Disk) → moment (disk_after call ok d) ≡ moment d + cond (is_change call) 1 0
moment_more (Edited file e) ok d = length-append d.moments.past (d.moments.now ∷ [])
moment_more Numbers ok d = omega arith
moment_more (MakeRoom file upto) ok d = omega arith
moment_more (Length file) ok d = omega arith
moment_more (Read file at len) ok d = omega arith
moment_more (Open file) ok d = omega arith

-- the moments so far stay
grows : (ns : List Noted) (d : Disk) → (more : List Facts) × (all_moments (replayed ns d).moments ≡ all_moments d.moments ++ more)
grows [] d = ([], sym (append-nil (all_moments d.moments)))
grows (n ∷ ns) d = by n.call (λ e. grows ns e)
  where
    by : (call : Call) → ((e : Disk) → (more : List Facts) × (all_moments (replayed ns e).moments ≡ all_moments e.moments ++ more)) →
        (more : List Facts) × (all_moments (replayed ns (disk_after call n.ok d)).moments ≡ all_moments d.moments ++ more)
    by (Edited file e) rest =
        let next = disk_after (Edited file e) n.ok d in
        let far = rest next in
        (next.moments.now ∷ [] ++ far.0, far.1 ∙ append_assoc (all_moments d.moments) (next.moments.now ∷ []) far.0)
    by Numbers rest = rest d
    by (MakeRoom file upto) rest = rest d
    by (Length file) rest = rest d
    by (Read file at len) rest = rest d
    by (Open file) rest = rest d

pub replayed-append : (xs ys : List Noted) (d : Disk) → replayed (xs ++ ys) d ≡ replayed ys (replayed xs d)
replayed-append [] ys d = refl
replayed-append (n ∷ xs) ys d = replayed-append xs ys (disk_after n.call n.ok d)

now_at : (d : Disk) (more : List Facts) → slice_get (all_moments d.moments ++ more) (moment d) ≡ Some d.moments.now
now_at d more =
    let past = d.moments.past in
    let now = d.moments.now in
    let lengths = length-append past (now ∷ []) in
    slice_get-get_or (all_moments d.moments ++ more) (length past) now (omega (arith, lengths, length-append (all_moments d.moments) more))
    ∙ ap Some (ap (λ l. get_or l (length past) now) (append_assoc past (now ∷ []) more) ∙ get_or-append_right past (now ∷ [] ++ more) (length past) (length past) now refl (omega arith)
    ∙ (let none : length past - length past ≡ 0 = omega arith in ap (λ k. get_or (now ∷ [] ++ more) k now) none))

-- the crash facts at a moment are those after the calls up to it
pub facts_at : (origin : List (ℕ × List ℕ)) (entries : List Noted) (k : ℕ) →
    slice_get (all_moments (replayed entries (restarted (files_of origin))).moments) (moment (disk_upto k origin entries)) ≡ Some (disk_upto k origin entries).moments.now
facts_at origin entries k =
    let start = restarted (files_of origin) in
    let d = disk_upto k origin entries in
    let far = grows (drop k entries) d in
    ap (λ ns. slice_get (all_moments (replayed ns start).moments) (moment d)) (sym (take-append-drop k entries))
    ∙ ap (λ e. slice_get (all_moments e.moments) (moment d)) (replayed-append (take k entries) (drop k entries) start)
    ∙ ap (λ ms. slice_get ms (moment d)) far.1 ∙ now_at d far.0

each_left : (fill t k : ℕ) (m : Memory) (traces : List (ℕ × Trace)) (which : List (Free × Bool)) (vaults : List Memory) → moment (disk_upto k m.origin m.kept.entries) ≡ t →
    AreTracesOf fill (disk_upto k m.origin m.kept.entries) traces → AllZip {A = Free × Bool} (λ choice vault. IsImageBy choice.0 choice.1 traces vault) which vaults → AreLeftAt t m vaults
each_left fill t k m traces which [] at are zip = tt
each_left fill t k m traces [] (v ∷ vs) at are zip = absurd zip
each_left fill t k m traces (c ∷ cs) (v ∷ vs) at are zip =
    let d = disk_upto k m.origin m.kept.entries in
    let is : IsImage d.moments.now (files_of v.origin) = λ f. subst (Rattle.rk_outside.specs.Disks.IsFileImage (d.moments.now f)) (sym (zip.0.files f)) (image_left fill (d.moments.now f) c.0 c.1 (trace_at traces f) (are f).met) in (
      subst (λ o. IsSomeAnd o (λ facts. IsImage facts (files_of v.origin))) (sym (facts_at m.origin m.kept.entries k) ∙ ap (slice_get (all_moments (disk_of m).moments)) at) is,
      each_left fill t k m traces cs vs at are zip.1,
    )

-- each image is what a crash at the moment may leave
pub left_of : {A E : Type 0} (items : A → List Memory) (fill t : ℕ) (m : Memory) (traces : List (ℕ × Trace)) (r : Result A E) → AreTracesAt fill t m.origin m.kept.entries (Some traces) →
    IfOk r (λ vaults. AreImagesBy traces (items vaults)) → IfOk r (λ vaults. AreLeftAt t m (items vaults))
left_of items fill t m traces (Ok vaults) at are = each_left fill t at.0 m traces choices (items vaults) at.1 at.2 are
left_of items fill t m traces (Err e) at are = tt
