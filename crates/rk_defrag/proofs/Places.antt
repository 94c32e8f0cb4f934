-- Places of spans in a list in order, and the gaps at their ends.
use Prim.Native.Nat.{zero, suc}
use Rattle.std.proofs.Common.{◌≡◌, ℕ, ◌-◌, ◌<◌, ◌≤◌, Bool, true, false, not, List, [], ◌∷◌, length, Option, Some, None, refl, sym, ap, ◌∙◌, inl, inr, arith, add-one}
use Rattle.std.specs.Prelude.{IsTrue}
use Rattle.std.specs.List.{slice_get}
use Rattle.std.specs.List.Sorted.{IsPartitionedBy}
use Rattle.std.proofs.lemmas.Bool.{not-true}
use Rattle.std.proofs.lemmas.Option.{slice_get_within}
use Rattle.rk_model.specs.Lists.{Among}
use Rattle.rk_model.specs.Spans.{WidestSpan}
use Rattle.rk_model.specs.Cuts.{count_before, item_from, gap_on}
use Rattle.rk_model.specs.Items.{span_beside, keyed_extents}
use Rattle.rk_model.specs.ItemLaws.{spans-first}
use Rattle.rk_model.specs.declared.cut.Cut.TheVariants.{Below}
use Rattle.rk_model.specs.declared.span.Span.{Span}
use Rattle.rk_model.proofs.Gaps.{cut_within, past_none, before_taken, behind_untaken}
use Rattle.rk_model.proofs.Members.{Ascending, among_all}
use Rattle.rk_merge.proofs.Counts.{slice_among}
use Rattle.rk_laws.proofs.Order.{key_total, lt_ge, ge_lt}
use Rattle.rk_laws.proofs.Ends.{lt}
use Rattle.rk_laws.proofs.Widest.{self}
use Rattle.rk_span_laws.proofs.Covers.{apart, extent_of, extents_apart}
use Rattle.rk_defrag.specs.Defrags.{left_end, gap_from}
use Rattle.rk_defrag.specs.Moves.{far_end, RunOver}
use Rattle.rk_defrag.proofs.Runs.{last_gap, run_edge}

pub among_place : {A : Type 0} (xs : List A) (x : A) → Among x xs → (i : ℕ) × (slice_get xs i ≡ Some x)
among_place [] x m = absurd m
among_place (y ∷ ys) x (inl e) = (zero, ap (λ z. Some z) (sym e))
among_place (y ∷ ys) x (inr m) = let f = among_place ys x m in (suc f.0, f.1)

pub item_place : {A : Type 0} (forward : Bool) (xs : List A) (i : ℕ) (x : A) → slice_get xs i ≡ Some x → (g : ℕ) × (item_from forward xs g ≡ Some x)
item_place true xs i x e = (i, e)
item_place false xs i x e = (suc i, e)

pub item_among : {A : Type 0} (forward : Bool) (xs : List A) (g : ℕ) (x : A) → item_from forward xs g ≡ Some x → Among x xs
item_among true xs g x e = slice_among xs g x e
item_among false xs zero x e = cc
item_among false xs (suc g) x e = slice_among xs g x e

-- a gap at which an item is seen lies in the list
pub item_within : {A : Type 0} (forward : Bool) (xs : List A) (g : ℕ) (x : A) → item_from forward xs g ≡ Some x → g ≤ length xs
item_within true xs g x e = let h = slice_get_within xs g x e in omega (arith, h)
item_within false xs zero x e = omega arith
item_within false xs (suc g) x e = let h = slice_get_within xs g x e in omega (arith, h)

-- the item that is seen from a gap is behind from the next one
pub item_behind : {A : Type 0} (forward : Bool) (xs : List A) (g : ℕ) (x : A) → item_from forward xs g ≡ Some x → item_from (not forward) xs (gap_on forward g) ≡ Some x
item_behind true xs g x e = ap (item_from false xs) (add-one g) ∙ e
item_behind false xs zero x e = cc
item_behind false xs (suc g) x e = let q : suc g - 1 ≡ g = omega arith in ap (slice_get xs) q ∙ e

-- what stands before a gap is taken, and what stands behind it is not
pub count_at : {A : Type 0} (t : A → Bool) (xs : List A) → IsPartitionedBy t xs → (g : ℕ) → g ≤ length xs → ((s : A) → item_from false xs g ≡ Some s → t s ≡ true) → ((s : A) → item_from true xs g ≡ Some s → t s ≡ false) → count_before t xs ≡ g
count_at {A} t xs parted g le before behind = let a = low g le before in let b = high (slice_get xs g) refl in omega (arith, a, b)
  where
    low : (g : ℕ) → g ≤ length xs → ((s : A) → item_from false xs g ≡ Some s → t s ≡ true) → g ≤ count_before t xs
    low zero le before = omega arith
    low (suc k) le before = sub (slice_get xs k) refl
      where
        sub : (o : Option A) → slice_get xs k ≡ o → suc k ≤ count_before t xs
        sub None e = let h = past_none xs k e in absurd (omega (arith, h, le))
        sub (Some s) e = let h = before_taken t xs k s parted e (before s e) in omega (arith, h)

    high : (o : Option A) → slice_get xs g ≡ o → count_before t xs ≤ g
    high None e = let h = past_none xs g e in (let c = cut_within t xs in omega (arith, h, c))
    high (Some s) e = behind_untaken t xs g s e (behind s e)

-- of two places the first span ends where the second begins, or before
apart_places : (xs : List Span) → Ascending apart xs → (i j : ℕ) (s t : Span) → i < j → slice_get xs i ≡ Some s → slice_get xs j ≡ Some t → lt t.start s.end ≡ false
apart_places [] up i j s t l e f = cc
apart_places (x ∷ xs) up i zero s t l e f = absurd (omega (arith, l))
apart_places (x ∷ xs) up zero (suc j) s t l e f =
    let h : s ≡ x = cc in
    let a : apart x t ≡ true = among_all (λ t. apart x t ≡ true) xs t up.0 (slice_among xs j t f) in
    not-true (lt t.start s.end) (ap (λ z. apart z t) h ∙ a)
apart_places (x ∷ xs) up (suc i) (suc j) s t l e f = apart_places xs up.1 i j s t (omega (arith, l)) e f

module _ (xs : List Span) (sorted : IsTrue (keyed_extents xs)) where
  pub in_order : (i j : ℕ) (s t : Span) → i < j → slice_get xs i ≡ Some s → slice_get xs j ≡ Some t → lt t.start s.end ≡ false
  in_order = apart_places xs (extents_apart xs sorted)

  pub proper_at : (s : Span) → Among s xs → lt s.start s.end ≡ true
  proper_at s m = (extent_of xs sorted s m).proper

  -- the spans at a gap
  pub next_to : (g : ℕ) (s t : Span) → item_from false xs g ≡ Some s → item_from true xs g ≡ Some t → lt t.start s.end ≡ false
  next_to zero s t e f = cc
  next_to (suc k) s t e f = in_order k (suc k) s t (omega arith) e f

  parted : (forward : Bool) (key : List ℕ) → IsPartitionedBy (span_beside forward key) xs
  parted true key = spans-first true (Below key) xs sorted
  parted false key = spans-first false (Below key) xs sorted

  -- the gap behind a span in a direction, and the gap from which it is seen
  pub gap_behind : (forward : Bool) (g : ℕ) (s : Span) → item_from (not forward) xs g ≡ Some s → count_before (span_beside forward (left_end forward s)) xs ≡ g
  gap_behind true g s e = count_at (span_beside true s.end) xs (parted true s.end) g (item_within false xs g s e) before behind
    where
      before : (t : Span) → item_from false xs g ≡ Some t → not (lt s.end t.end) ≡ true
      before t f = let q : t ≡ s = cc in rw q (ap not (self s.end))

      behind : (t : Span) → item_from true xs g ≡ Some t → not (lt s.end t.end) ≡ false
      behind t f = ap not (ge_lt key_total s.end t.start t.end (next_to g s t e f) (proper_at t (item_among true xs g t f)))
  gap_behind false g s e = count_at (span_beside false s.start) xs (parted false s.start) g (item_within true xs g s e) before behind
    where
      before : (t : Span) → item_from false xs g ≡ Some t → lt t.start s.start ≡ true
      before t f = lt_ge key_total t.start t.end s.start (proper_at t (item_among false xs g t f)) (next_to g t s f e)

      behind : (t : Span) → item_from true xs g ≡ Some t → lt t.start s.start ≡ false
      behind t f = let q : t ≡ s = cc in rw q (self s.start)

  pub gap_of : (forward : Bool) (g : ℕ) (s : Span) → item_from forward xs g ≡ Some s → count_before (span_beside forward (left_end (not forward) s)) xs ≡ g
  gap_of true g s e = count_at (span_beside true s.start) xs (parted true s.start) g (item_within true xs g s e) before behind
    where
      before : (t : Span) → item_from false xs g ≡ Some t → not (lt s.start t.end) ≡ true
      before t f = ap not (next_to g t s f e)

      behind : (t : Span) → item_from true xs g ≡ Some t → not (lt s.start t.end) ≡ false
      behind t f = let q : t ≡ s = cc in rw q (ap not (proper_at s (item_among true xs g s e)))
  gap_of false g s e = count_at (span_beside false s.end) xs (parted false s.end) g (item_within false xs g s e) before behind
    where
      before : (t : Span) → item_from false xs g ≡ Some t → lt t.start s.end ≡ true
      before t f = let q : t ≡ s = cc in rw q (proper_at s (item_among false xs g s e))

      behind : (t : Span) → item_from true xs g ≡ Some t → lt t.start s.end ≡ false
      behind t f = next_to g s t e f

  -- the gap of what is seen
  pub gap_seen : (forward : Bool) (g : ℕ) → g ≤ length xs → (c : Option Span) → item_from forward xs g ≡ c → gap_from forward xs c ≡ g
  gap_seen forward g le None e = sym (last_gap forward xs g le e)
  gap_seen forward g le (Some c) e = gap_of forward g c e

  -- what is seen from the gap of a span
  pub seen_back : (forward : Bool) (c : Span) → Among c xs → item_from forward xs (gap_from forward xs (Some c)) ≡ Some c
  seen_back forward c m =
      let (i, e) = among_place xs c m in
      let (g, f) = item_place forward xs i c e in
      ap (item_from forward xs) (gap_of forward g c f) ∙ f

  -- the gap at the end of a run
  pub run_gap : (forward : Bool) (n near far : ℕ) (w : WidestSpan) → RunOver forward n xs near far w → count_before (span_beside forward (far_end forward w)) xs ≡ far
  run_gap forward n near far w run =
      let b = run_edge forward n xs near far w run in
      ap (λ k. count_before (span_beside forward k) xs) (sym b.end) ∙ gap_behind forward far b.span b.there
