-- Where a travel lands, by the lists alone.
use Rattle.std.proofs.Common.{◌≡◌, ℕ, ◌≤◌, Bool, true, false, not, ◌&&◌, ◌||◌, List, length, Option, Some, None, refl, sym, ap, ◌∙◌, subst, ◌⊎◌, inl, inr, if◌then◌else◌, option_map}
use Rattle.std.specs.Prelude.{IsTrue, IfSome, is_some}
use Rattle.std.specs.List.{slice_get}
use Rattle.std.specs.List.Sorted.{IsPartitionedBy}
use Rattle.rk_model.specs.Cuts.{item_from, is_passed, gap_on, gap_past, count_before}
use Rattle.rk_model.specs.Items.{point_takes, span_takes}
use Rattle.rk_model.specs.Standings.{Listing, Standing, IsTold}
use Rattle.rk_model.specs.declared.op.Entry.{Entry}
use Rattle.rk_model.specs.declared.span.Span.{Span}
use Rattle.rk_model.specs.declared.options.IterOptions.{IterOptions}
use Rattle.rk_model.specs.declared.cut.Cut.{Cut}
use Rattle.rk_interleave.specs.Settling.{IsAhead, IsBehind, point_gap, cut_gap, is_stepped_over, open_span, is_left, has_begun}
use Rattle.rk_interleave.specs.Standing.{AllPassed, Faces, Travels}
use Rattle.rk_interleave.proofs.Orders.{side}
use Rattle.rk_interleave.proofs.Parts.{cut_behind, cut_ahead, past_behind, past_ahead}
use Rattle.rk_interleave.proofs.Near.{Settled, Nears, NearsAt}

-- a gap that is known
pub gap_there : (p : Option ℕ) → is_some p ≡ true → (g : ℕ) × (p ≡ Some g)
gap_there None known = cc
gap_there (Some g) known = (g, refl)

-- what is told at a known gap
pub told_at : {A : Type 0} (l : Listing A) (s : Standing A) (forward : Bool) (xs : List A) (g : ℕ) → IsTold l s → s.forward ≡ forward → l.held ≡ Some xs → s.gap ≡ Some g → (g ≤ length xs) × (s.here ≡ item_from forward xs g)
told_at l s forward xs g told faces held gap = (
  subst (λ p. IfSome p (λ g. g ≤ length xs)) gap (subst (λ h. IfSome h (λ xs. IfSome s.gap (λ g. g ≤ length xs))) held told.within),
  subst (λ f. s.here ≡ item_from f xs g) faces (subst (λ p. IfSome p (λ g. s.here ≡ item_from s.forward xs g)) gap (subst (λ h. IfSome h (λ xs. IfSome s.gap (λ g. s.here ≡ item_from s.forward xs g))) held told.shown)),
)

-- what is told of a list that is told
pub held_at : {A : Type 0} (l : Listing A) (xs : List A) (F : List A → Type 0) → l.held ≡ Some xs → IfSome l.held F → F xs
held_at l xs F held f = subst (λ h. IfSome h F) held f

abbrev pub Behind : {A : Type 0} → Bool → (A → Bool) → List A → ℕ → Type 0
Behind {A} forward takes xs g = (i : ℕ) (x : A) → slice_get xs i ≡ Some x → IsBehind forward g i → is_passed forward (takes x) ≡ true

pub passed_at : {A : Type 0} (forward : Bool) (takes : A → Bool) (l : Listing A) (s : Standing A) (xs : List A) (g : ℕ) → l.held ≡ Some xs → s.gap ≡ Some g → AllPassed forward takes l s → Behind forward takes xs g
passed_at {A} forward takes l s xs g held gap passed =
    subst (λ p. IfSome p (λ g. (i : ℕ) (x : A) → slice_get xs i ≡ Some x → IsBehind forward g i → is_passed forward (takes x) ≡ true)) gap
    (held_at l xs (λ xs. IfSome s.gap (λ g. (i : ℕ) (x : A) → slice_get xs i ≡ Some x → IsBehind forward g i → is_passed forward (takes x) ≡ true)) held passed)

-- points that are placed have nothing behind them but what is passed
placed_points : (forward passes : Bool) (takes : Entry → Bool) (l : Listing Entry) (s at : Standing Entry) (xs : List Entry) → l.held ≡ Some xs → IsPartitionedBy takes xs
    → (IsTrue passes → (is_some s.gap ≡ true) × AllPassed forward takes l s) → at.gap ≡ point_gap passes takes s xs → (g : ℕ) × ((at.gap ≡ Some g) × Behind forward takes xs g)
placed_points forward false takes l s at xs held parted before is = (count_before takes xs, (is, λ i x there behind. cut_behind forward takes xs i x parted there behind))
placed_points forward true takes l s at xs held parted before is =
    let (known, passed) = before refl in
    let (g, gap) = gap_there s.gap known in
    (g, (is ∙ gap, passed_at forward takes l s xs g held gap passed))

-- spans that are placed stand at the cut
placed_spans : {A : Type 0} (forward passes : Bool) (takes : A → Bool) (l : Listing A) (s at : Standing A) (xs : List A) → l.held ≡ Some xs → IsPartitionedBy takes xs
    → (IsTrue passes → (is_some s.gap ≡ true) × AllPassed forward takes l s) → at.gap ≡ cut_gap passes forward takes s xs
    → (g : ℕ) × ((at.gap ≡ Some g) × (Behind forward takes xs g × ((i : ℕ) (x : A) → slice_get xs i ≡ Some x → IsAhead forward g i → is_passed forward (takes x) ≡ false)))
placed_spans forward false takes l s at xs held parted before is =
    (count_before takes xs, (is, (λ i x there behind. cut_behind forward takes xs i x parted there behind, λ i x there ahead. cut_ahead forward takes xs i x parted there ahead)))
placed_spans {A} forward true takes l s at xs held parted before is =
    let (known, passed) = before refl in
    let (g, gap) = gap_there s.gap known in
    let old = passed_at forward takes l s xs g held gap passed in (
      gap_past forward (count_before takes xs) g,
      (
        is ∙ ap (option_map (gap_past forward (count_before takes xs))) gap,
        (λ i x there behind. either i x there g old (past_behind forward (count_before takes xs) g i behind), λ i x there ahead. cut_ahead forward takes xs i x parted there (past_ahead forward (count_before takes xs) g i ahead)),
      ),
    )
  where
    either : (i : ℕ) (x : A) → slice_get xs i ≡ Some x → (g : ℕ) → Behind forward takes xs g → IsBehind forward (count_before takes xs) i ⊎ IsBehind forward g i → is_passed forward (takes x) ≡ true
    either i x there g old (inl cut) = cut_behind forward takes xs i x parted there cut
    either i x there g old (inr was) = old i x there was

-- from where the sources were, the sources have settled
pub record Landed (forward : Bool) (cut : Cut (List ℕ)) (o : IterOptions) (xs : List Entry) (ss : List Span) (s' : Standing Entry) (on t' : Standing Span) (begun : Bool) : Type 0 where
  pub g : ℕ
  pub h : ℕ
  pub settled : Settled forward cut o xs ss g h
  pub placed : on.here ≡ item_from forward ss h
  pub gap : s'.gap ≡ Some g
  pub here : s'.here ≡ item_from forward xs g
  pub span_gap : t'.gap ≡ Some (if is_left forward cut (item_from forward ss h) (item_from forward xs g) then gap_on true h else h)
  pub span : t'.here ≡ item_from forward ss (if is_left forward cut (item_from forward ss h) (item_from forward xs g) then gap_on true h else h)
  pub begins : begun ≡ (has_begun forward cut (item_from forward ss h) && not (is_left forward cut (item_from forward ss h) (item_from forward xs g)))

or_left : (a b : Bool) → a ≡ true → (a || b) ≡ true
or_left true b e = refl
or_left false b e = cc

pub landed : (forward passes : Bool) (cut : Cut (List ℕ)) (o : IterOptions) (l : Listing Entry) (k : Listing Span) (s s' : Standing Entry) (t t' : Standing Span) (begun : Bool) (xs : List Entry) (ss : List Span)
    → l.held ≡ Some xs → k.held ≡ Some ss → IsPartitionedBy (point_takes cut) xs → IsPartitionedBy (span_takes forward cut) ss
    → (IsTrue passes → (is_some s.gap ≡ true) × AllPassed forward (point_takes cut) l s) → (IsTrue passes → (is_some t.gap ≡ true) × AllPassed forward (span_takes forward cut) k t)
    → Faces forward s' → Faces forward t' → IsTold l s' → IsTold k t' → (travels : Travels forward passes cut o l k s s' t t' begun) → Landed forward cut o xs ss s' travels.on t' begun
landed forward passes cut o l k s s' t t' begun xs ss held spread parted parted_spans before before_spans stands stands_spans told told_spans travels =
    let (g0, start) = placed_points forward passes (point_takes cut) l s travels.at xs held parted before (held_at l xs (λ xs. travels.at.gap ≡ point_gap passes (point_takes cut) s xs) held travels.points_placed) in
    let (h, cuts) = placed_spans forward passes (span_takes forward cut) k t travels.on ss spread parted_spans before_spans (held_at k ss (λ ss. travels.on.gap ≡ cut_gap passes forward (span_takes forward cut) t ss) spread travels.spans_placed) in
    let (g, gap) = gap_there s'.gap stands.known in
    let (in_xs, here) = told_at l s' forward xs g told stands.faces held gap in
    let (in_ss, first) = told_at k travels.on forward ss h travels.told travels.faces spread cuts.0 in
    let over = is_stepped_over forward cut o (open_span forward cut (item_from forward ss h)) in
    let between : (i : ℕ) (e : Entry) → slice_get xs i ≡ Some e → IsAhead forward g0 i → IsBehind forward g i → over e ≡ true = stepped g0 g h start.0 gap first in
    let moved : t'.gap ≡ Some (if is_left forward cut (item_from forward ss h) (item_from forward xs g) then gap_on true h else h) =
    subst (λ e. t'.gap ≡ Some (if is_left forward cut (item_from forward ss h) e then gap_on true h else h)) here (subst (λ p. t'.gap ≡ Some (if is_left forward cut p s'.here then gap_on true h else h)) first (held_at k ss (λ ss. t'.gap ≡ option_map (λ g. if is_left forward cut travels.on.here s'.here then gap_on true g else g) travels.on.gap) spread travels.moved ∙ ap (option_map (λ g. if is_left forward cut travels.on.here s'.here then gap_on true g else g)) cuts.0)) in
    record {
      g = g;
      h = h;
      settled = record {
        in_points = in_xs;
        in_spans = in_ss;
        behind = λ i e is behind. passed_or g0 g h i e is behind start.1 between (side forward g0 i);
        seen = subst (λ p. IfSome p (λ e. over e ≡ false)) here (subst (λ p. IfSome s'.here (λ e. is_stepped_over forward cut o (open_span forward cut p) e ≡ false)) first travels.seen);
        gone = cuts.1.0;
        on = cuts.1.1;
      };
      placed = first;
      gap = gap;
      here = here;
      span_gap = moved;
      span = (told_at k t' forward ss _ told_spans stands_spans.faces spread moved).1;
      begins = subst (λ e. begun ≡ (has_begun forward cut (item_from forward ss h) && not (is_left forward cut (item_from forward ss h) e))) here (subst (λ p. begun ≡ (has_begun forward cut p && not (is_left forward cut p s'.here))) first travels.begins);
    }
  where
    stepped : (g0 g h : ℕ) → travels.at.gap ≡ Some g0 → s'.gap ≡ Some g → travels.on.here ≡ item_from forward ss h → (i : ℕ) (e : Entry) → slice_get xs i ≡ Some e → IsAhead forward g0 i → IsBehind forward g i
        → is_stepped_over forward cut o (open_span forward cut (item_from forward ss h)) e ≡ true
    stepped g0 g h at gap first =
        let a = held_at l xs (λ xs. IfSome travels.at.gap (λ g. IfSome s'.gap (λ g'. (i : ℕ) (x : Entry) → slice_get xs i ≡ Some x → IsAhead forward g i → IsBehind forward g' i → is_stepped_over forward cut o (open_span forward cut travels.on.here) x ≡ true))) held travels.between in
        let b = subst (λ p. IfSome p (λ g. IfSome s'.gap (λ g'. (i : ℕ) (x : Entry) → slice_get xs i ≡ Some x → IsAhead forward g i → IsBehind forward g' i → is_stepped_over forward cut o (open_span forward cut travels.on.here) x ≡ true))) at a in
        let c = subst (λ p. IfSome p (λ g'. (i : ℕ) (x : Entry) → slice_get xs i ≡ Some x → IsAhead forward g0 i → IsBehind forward g' i → is_stepped_over forward cut o (open_span forward cut travels.on.here) x ≡ true)) gap b in
        subst (λ p. (i : ℕ) (x : Entry) → slice_get xs i ≡ Some x → IsAhead forward g0 i → IsBehind forward g i → is_stepped_over forward cut o (open_span forward cut p) x ≡ true) first c

    passed_or : (g0 g h i : ℕ) (e : Entry) → slice_get xs i ≡ Some e → IsBehind forward g i → Behind forward (point_takes cut) xs g0
        → ((i : ℕ) (e : Entry) → slice_get xs i ≡ Some e → IsAhead forward g0 i → IsBehind forward g i → is_stepped_over forward cut o (open_span forward cut (item_from forward ss h)) e ≡ true)
        → IsBehind forward g0 i ⊎ IsAhead forward g0 i → is_stepped_over forward cut o (open_span forward cut (item_from forward ss h)) e ≡ true
    passed_or g0 g h i e is behind old between (inl low) = or_left _ _ (old i e is low)
    passed_or g0 g h i e is behind old between (inr high) = between i e is high behind

-- what stands behind a gap that is told is passed
pub all_passed : {A : Type 0} (forward : Bool) (takes : A → Bool) (l : Listing A) (s : Standing A) (xs : List A) (g : ℕ) → l.held ≡ Some xs → s.gap ≡ Some g → Behind forward takes xs g → AllPassed forward takes l s
all_passed forward takes l s xs g held gap behind = rw (held, gap) behind

-- what is seen where a travel lands
pub near_is : (forward : Bool) (cut : Cut (List ℕ)) (o : IterOptions) (xs : List Entry) (ss : List Span) (s' : Standing Entry) (on t' : Standing Span) (begun : Bool) (land : Landed forward cut o xs ss s' on t' begun)
    → NearsAt forward cut o xs ss land.g land.h (has_begun forward cut (item_from forward ss land.h)) (is_left forward cut (item_from forward ss land.h) (item_from forward xs land.g))
    → Nears forward cut o xs ss begun s'.here t'.here land.g (if is_left forward cut (item_from forward ss land.h) (item_from forward xs land.g) then gap_on true land.h else land.h)
near_is forward cut o xs ss s' on t' begun land near =
    let h' : ℕ = if is_left forward cut (item_from forward ss land.h) (item_from forward xs land.g) then gap_on true land.h else land.h in
    let a = subst (λ b. Nears forward cut o xs ss b (item_from forward xs land.g) (item_from forward ss h') land.g h') (sym land.begins) near in
    let c = subst (λ e. Nears forward cut o xs ss begun e (item_from forward ss h') land.g h') (sym land.here) a in
    subst (λ u. Nears forward cut o xs ss begun s'.here u land.g h') (sym land.span) c
