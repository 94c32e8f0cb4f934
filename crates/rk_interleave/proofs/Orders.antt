-- Items of sorted lists by their places, and what stands on from a gap.
use Rattle.std.proofs.Common.{◌≡◌, ℕ, zero, suc, ◌<◌, ◌≤◌, Bool, true, false, not, List, [], ◌∷◌, length, Some, refl, sym, ap, ◌∙◌, ◌⊎◌, inl, inr, arith}
use Rattle.std.specs.Prelude.{IsTrue}
use Rattle.std.specs.List.{slice_get, list_all}
use Rattle.std.specs.Ordering.{is_lt}
use Rattle.std.proofs.lemmas.Bool.{cases_lt, and_parts}
use Rattle.std.proofs.lemmas.Option.{same_Some}
use Rattle.rk_key.specs.Keys.{key_cmp}
use Rattle.rk_laws.proofs.Order.{key_total, lt_trans, lt_back, ge_trans}
use Rattle.rk_model.specs.Cuts.{item_from}
use Rattle.rk_model.specs.Lists.{Among}
use Rattle.rk_model.specs.Sources.{ascends, op_key, is_extent}
use Rattle.rk_model.specs.Searches.{tail_ascends, not_false}
use Rattle.rk_model.specs.Items.{keyed_extents}
use Rattle.rk_model.specs.declared.op.Entry.{Entry}
use Rattle.rk_model.specs.declared.span.Span.{Span}
use Rattle.rk_span_laws.specs.Given.{are_single_puts}
use Rattle.rk_interleave.specs.Settling.{IsAhead, IsBehind}

abbrev pub Rises : {A : Type 0} → (A → A → Bool) → List A → Type 0
Rises {A} before xs = (i j : ℕ) (x y : A) → i < j → slice_get xs i ≡ Some x → slice_get xs j ≡ Some y → before x y ≡ true

head_before : {A : Type 0} (holds : A → Bool) (before : A → A → Bool) → ((x y z : A) → holds y ≡ true → before x y ≡ true → before y z ≡ true → before x z ≡ true) → (x : A) (xs : List A) → list_all holds xs ≡ true → ascends before (x ∷ xs) ≡ true → (j : ℕ) (y : A) → slice_get xs j ≡ Some y → before x y ≡ true
head_before holds before trans x [] all up j y is = cc
head_before holds before trans x (z ∷ zs) all up zero y is = ap (before x) (sym (same_Some _ _ is)) ∙ (and_parts (before x z) _ up).0
head_before holds before trans x (z ∷ zs) all up (suc j) y is =
    let parts = and_parts (holds z) _ all in
    let two = and_parts (before x z) _ up in
    trans x z y parts.0 two.0 (head_before holds before trans z zs parts.1 two.1 j y is)

pub rises : {A : Type 0} (holds : A → Bool) (before : A → A → Bool) → ((x y z : A) → holds y ≡ true → before x y ≡ true → before y z ≡ true → before x z ≡ true) → (xs : List A) → list_all holds xs ≡ true → ascends before xs ≡ true → Rises before xs
rises holds before trans [] all up i j x y lt is at = cc
rises holds before trans (z ∷ zs) all up i zero x y lt is at = absurd (omega arith)
rises holds before trans (z ∷ zs) all up zero (suc j) x y lt is at = ap (λ w. before w y) (sym (same_Some _ _ is)) ∙ head_before holds before trans z zs (and_parts (holds z) _ all).1 up j y at
rises holds before trans (z ∷ zs) all up (suc i) (suc j) x y lt is at = rises holds before trans zs (and_parts (holds z) _ all).1 (tail_ascends before z zs up) i j x y (omega arith) is at

-- one point is below another, and one span ends where another begins or before
abbrev pub below_key : Entry → Entry → Bool
below_key e f = is_lt (key_cmp (op_key e.op) (op_key f.op))

abbrev pub apart : Span → Span → Bool
apart s t = not (is_lt (key_cmp t.start s.end))

pub puts_rise : (ps : List Entry) → IsTrue (are_single_puts ps) → Rises below_key ps
puts_rise ps single =
    let parts = and_parts (list_all _ ps) _ single in
    rises _ below_key (λ e f g h less more. lt_trans key_total (op_key e.op) (op_key f.op) (op_key g.op) less more) ps parts.0 parts.1

pub spans_rise : (ss : List Span) → IsTrue (keyed_extents ss) → Rises apart ss
spans_rise ss ordered =
    let parts = and_parts _ _ ordered in
    let two = and_parts (list_all is_extent ss) _ parts.0 in
    rises is_extent apart (λ s t u h one more. ap not (ge_trans key_total u.start t.end s.end (not_false _ more) (ge_trans key_total t.end t.start s.end (lt_back key_total t.start t.end (and_parts (is_lt (key_cmp t.start t.end)) _ h).0) (not_false _ one)))) ss two.0 two.1

pub among_get : {A : Type 0} (xs : List A) (x : A) → Among x xs → (i : ℕ) × (slice_get xs i ≡ Some x)
among_get [] x m = absurd m
among_get (y ∷ ys) x (inl e) = (0, ap Some (sym e))
among_get (y ∷ ys) x (inr m) = let found = among_get ys x m in (suc found.0, found.1)

-- one item stands farther than another in a direction
abbrev pub Farther : {A : Type 0} → Bool → (A → A → Bool) → A → A → Type 0
Farther true before d x = before d x ≡ true
Farther false before d x = before x d ≡ true

pub side : (forward : Bool) (g i : ℕ) → IsBehind forward g i ⊎ IsAhead forward g i
side true g i = cases_lt i g
side false g i = go (cases_lt i g)
  where
    go : (i < g) ⊎ (g ≤ i) → (g ≤ i) ⊎ (i < g)
    go (inl lt) = inr lt
    go (inr ge) = inl ge

some_before : {A : Type 0} (xs : List A) (g i : ℕ) (x : A) → slice_get xs i ≡ Some x → g ≤ i → (d : A) × (slice_get xs g ≡ Some d)
some_before [] g i x is le = cc
some_before (y ∷ ys) zero i x is le = (y, refl)
some_before (y ∷ ys) (suc g) zero x is le = absurd (omega arith)
some_before (y ∷ ys) (suc g) (suc i) x is le = some_before ys g i x is (omega arith)

last_there : {A : Type 0} (ys : List A) (h : ℕ) → suc h ≤ length ys → (d : A) × (slice_get ys h ≡ Some d)
last_there [] h le = absurd (omega arith)
last_there (y ∷ ys) zero le = (y, refl)
last_there (y ∷ ys) (suc h) le = last_there ys h (omega arith)

-- What stands on from a gap is the item that is seen, or farther.
pub reach : {A : Type 0} (forward : Bool) (before : A → A → Bool) (xs : List A) → Rises before xs → (g : ℕ) → g ≤ length xs → (i : ℕ) (x : A) → slice_get xs i ≡ Some x → IsAhead forward g i → (d : A) × ((item_from forward xs g ≡ Some d) × ((x ≡ d) ⊎ Farther forward before d x))
reach {A} true before xs rise g within i x is ahead =
    let (d, at) = some_before xs g i x is ahead in
    (d, (at, go d at (cases_lt g i)))
  where
    go : (d : A) → slice_get xs g ≡ Some d → (g < i) ⊎ (i ≤ g) → (x ≡ d) ⊎ (before d x ≡ true)
    go d at (inl lt) = inr (rise g i d x lt at is)
    go d at (inr le) = let e : i ≡ g = omega (arith, le, ahead) in inl (same_Some _ _ (sym is ∙ ap (slice_get xs) e ∙ at))
reach false before xs rise zero within i x is ahead = absurd (omega arith)
reach {A} false before xs rise (suc g) within i x is ahead =
    let (d, at) = last_there xs g within in
    (d, (at, go d at (cases_lt i g)))
  where
    go : (d : A) → slice_get xs g ≡ Some d → (i < g) ⊎ (g ≤ i) → (x ≡ d) ⊎ (before x d ≡ true)
    go d at (inl lt) = inr (rise i g x d lt is at)
    go d at (inr le) = let e : i ≡ g = omega (arith, le, ahead) in inl (same_Some _ _ (sym is ∙ ap (slice_get xs) e ∙ at))

-- what is seen is of the list
pub seen_get : {A : Type 0} (forward : Bool) (xs : List A) (g : ℕ) (d : A) → item_from forward xs g ≡ Some d → (i : ℕ) × ((slice_get xs i ≡ Some d) × IsAhead forward g i)
seen_get true xs g d is = (g, (is, omega arith))
seen_get false xs zero d is = cc
seen_get false xs (suc g) d is = (g, (is, omega arith))
