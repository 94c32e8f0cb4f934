-- Images that are made of traces.
use Rattle.std.proofs.Common.{◌≡◌, ◌≢◌, ℕ, ◌+◌, ◌-◌, ◌≤◌, ◌<◌, Bool, true, false, List, [], ◌∷◌, length, drop, Option, Some, None, refl, sym, ◌∙◌, ap, subst, arith, get_or, inl, inr, ⊎_elim, ◌⊎◌, cond}
use Rattle.std.specs.Prelude.{Result, Ok, Err, IfOk}
use Rattle.std.specs.List.{AllByRecursion}
use Rattle.std.specs.List.Sorted.{IsStrictlySortedBy}
use Rattle.std.specs.Map.{keys_of, lookup}
use Rattle.std.specs.BTreeMap.{is_at}
use Rattle.std.specs.Ordering.{nat_cmp, is_eq}
use Rattle.std.specs.declared.cmp.Ordering.TheVariants.{Less, Equal, Greater}
use Rattle.std.specs.Cmp.{nat_cmp_is}
use Rattle.std.proofs.lemmas.Bool.{cases_order, false≢true}
use Rattle.std.proofs.lemmas.Bool.Decides.{eqb_tells}
use Rattle.std.proofs.lemmas.Map.Keys.{sorted_head, sorted_tail}
use Rattle.std.proofs.lemmas.List.{drop_more, drop_all}
use Rattle.rk_outside.specs.Disks.{FileFacts, Synced, Changed, IsLeft, IsFileImage}
use Rattle.rk_memvault.specs.Records.{files_of}
use Rattle.rk_memvault.specs.declared.free.Free.{Free}
use Rattle.rk_memvault.specs.declared.free.Free.TheVariants.{Kept, Lost, Filled}
use Rattle.rk_memvault.specs.Images.{Trace, bytes_by, image_by, IsTraceBy, no_trace, trace_of, trace_at, put_file, image_files}

-- the last part of a list, and one element more before it
pub one_before : {X : Type 0} (xs : List X) (i : ℕ) (x : X) → i < length xs → x ≡ get_or xs (length xs - 1 - i) x → drop (length xs - (i + 1)) xs ≡ x ∷ drop (length xs - i) xs
one_before xs i x lt is =
    let at : length xs - 1 - i ≡ length xs - (i + 1) = omega (arith, lt) in
    let next : length xs - (i + 1) + 1 ≡ length xs - i = omega (arith, lt) in
    drop_more xs (length xs - (i + 1)) x (omega (arith, lt)) ∙ ap (λ k. get_or xs (length xs - (i + 1)) x ∷ drop k xs) next
    ∙ ap (λ k. get_or xs k x ∷ drop (length xs - i) xs) (sym at) ∙ ap (λ y. y ∷ drop (length xs - i) xs) (sym is)

pub none_behind : {X : Type 0} (xs : List X) → drop (length xs - 0) xs ≡ []
none_behind xs = drop_all (length xs - 0) xs (omega arith)

pub all_behind : {X : Type 0} (xs : List X) (i : ℕ) → length xs ≤ i → drop (length xs - i) xs ≡ xs
all_behind xs i le = let none : length xs - i ≡ 0 = omega (arith, le) in ap (λ k. drop k xs) none

-- one file more in front
pub with_front : {A : Type 0} (g : Option (List ℕ) → A) (new old : ℕ → A) (e : ℕ × List ℕ) (files : List (ℕ × List ℕ)) → new e.0 ≡ g (Some e.1) → ((f : ℕ) → f ≢ e.0 → new f ≡ old f) →
    ((f : ℕ) → old f ≡ g (files_of files f)) → (f : ℕ) → new f ≡ g (files_of (e ∷ files) f)
with_front g new old e files this others so_far f =
    ⊎_elim
    (λ same. ap new same.1 ∙ this ∙ ap (λ b. g (cond b (Some e.1) (files_of files f))) (sym same.0))
    (λ other. others f other.1 ∙ so_far f ∙ ap (λ b. g (cond b (Some e.1) (files_of files f))) (sym other.0))
    (eqb_tells f e.0)

-- each image by a trace is one by the crash facts
pub image_left : (fill : ℕ) (facts : FileFacts) (free : Free) (there : Bool) (t : Trace) → IsTraceBy fill facts t → IsFileImage facts (image_by free there t)
image_left fill (Synced None) free there t is = ap (image_by free there) is
image_left fill (Synced (Some b)) Kept there t is = ap (image_by Kept there) is
image_left fill (Synced (Some b)) Lost there t is = ap (image_by Lost there) is
image_left fill (Synced (Some b)) Filled there t is = ap (image_by Filled there) is
image_left fill (Changed u) free there t is = go t.loose t.there there refl refl
  where
    left : (which : Free) → IsLeft u (bytes_by which t)
    left Kept = is.0.kept
    left Lost = subst (IsLeft u) (sym is.0.lost) (record { no_shorter = omega arith; kept = λ i lt not. refl })
    left Filled = is.0.filled.left

    go : (loose away chosen : Bool) → t.loose ≡ loose → t.there ≡ away →
        IsFileImage (Changed u) (cond loose (cond chosen (Some (bytes_by free t)) None) (cond away (Some (bytes_by free t)) None))
    go true away true l a = left free
    go true away false l a = sym is.0.loose ∙ l
    go false true chosen l a = left free
    go false false chosen l a = absurd (false≢true (sym l ∙ is.1 a))

no_image : (free : Free) (there : Bool) → image_by free there no_trace ≡ None
no_image free there = refl

absent : (k : ℕ) (traces : List (ℕ × Trace)) → AllByRecursion (λ y. nat_cmp k y ≡ Less) (keys_of traces) → lookup (is_at (nat_cmp k)) traces ≡ None
absent k [] all = refl
absent k (e ∷ es) all = ap (λ r. cond (is_eq r) (Some e.1) (lookup (is_at (nat_cmp k)) es)) all.0 ∙ absent k es all.1

-- the files of an image are, one by one, the images by the traces
pub files_are : (free : Free) (there : Bool) (traces : List (ℕ × Trace)) → IsStrictlySortedBy nat_cmp (keys_of traces) → (f : ℕ) →
    files_of (image_files free there traces) f ≡ image_by free there (trace_at traces f)
files_are free there [] sorted f = sym (no_image free there)
files_are free there (e ∷ es) sorted f = at (files_are free there es (sorted_tail nat_cmp e.0 (keys_of es) sorted)) (cases_order f e.0)
  where
    key : (b : Bool) → is_eq (nat_cmp f e.0) ≡ b → image_by free there (trace_of (cond b (Some e.1) (lookup (is_at (nat_cmp f)) es))) ≡ image_by free there (trace_at (e ∷ es) f)
    key b is = ap (λ b. image_by free there (trace_of (cond b (Some e.1) (lookup (is_at (nat_cmp f)) es)))) (sym is)

    skip : (image : Option (List ℕ)) → f ≢ e.0 → files_of (put_file image e.0 (image_files free there es)) f ≡ files_of (image_files free there es) f
    skip None apart = refl
    skip (Some b) apart = ⊎_elim (λ same. absurd (apart same.1)) (λ other. ap (λ t. cond t (Some b) (files_of (image_files free there es) f)) other.0) (eqb_tells f e.0)

    here : (image : Option (List ℕ)) → files_of (image_files free there es) e.0 ≡ image_by free there (trace_at es e.0) → f ≡ e.0 →
        files_of (put_file image e.0 (image_files free there es)) f ≡ image
    here None rest same =
        ap (files_of (image_files free there es)) same ∙ rest
        ∙ ap (λ o. image_by free there (trace_of o)) (absent e.0 es (sorted_head nat_cmp e.0 (keys_of es) sorted)) ∙ no_image free there
    here (Some b) rest same = ⊎_elim (λ is. ap (λ t. cond t (Some b) (files_of (image_files free there es) f)) is.0) (λ other. absurd (other.1 same)) (eqb_tells f e.0)

    at : ((g : ℕ) → files_of (image_files free there es) g ≡ image_by free there (trace_at es g)) → (f ≡ e.0) ⊎ ((f < e.0) ⊎ (e.0 < f)) →
        files_of (put_file (image_by free there e.1) e.0 (image_files free there es)) f ≡ image_by free there (trace_at (e ∷ es) f)
    at rest (inl same) = here (image_by free there e.1) (rest e.0) same ∙ key true (sym (ap is_eq (nat_cmp_is f e.0 Equal same)))
    at rest (inr (inl lt)) = skip (image_by free there e.1) (λ s. absurd (omega (arith, lt, s))) ∙ rest f ∙ key false (sym (ap is_eq (nat_cmp_is f e.0 Less lt)))
    at rest (inr (inr gt)) = skip (image_by free there e.1) (λ s. absurd (omega (arith, gt, s))) ∙ rest f ∙ key false (sym (ap is_eq (nat_cmp_is f e.0 Greater gt)))

pub imaged : {A E : Type 0} (items : A → List (ℕ × List ℕ)) (free : Free) (there : Bool) (traces : List (ℕ × Trace)) (result : Result A E) →
    IfOk result (λ files. items files ≡ image_files free there traces) → IsStrictlySortedBy nat_cmp (keys_of traces) →
    IfOk result (λ files. (f : ℕ) → files_of (items files) f ≡ image_by free there (trace_at traces f))
imaged items free there traces (Ok files) is sorted = λ f. ap (λ fs. files_of fs f) is ∙ files_are free there traces sorted f
imaged items free there traces (Err e) is sorted = tt
