-- Runs of spans between two gaps of a list. What is said of both directions is said once, of the direction.
use Prim.Native.Nat.{zero, suc}
use Rattle.std.proofs.Common.{◌≡◌, ℕ, ◌+◌, ◌-◌, ◌<◌, ◌≤◌, Bool, true, false, not, ◌&&◌, List, [], ◌∷◌, length, Option, Some, None, refl, sym, ap, ◌∙◌, ◌⊎◌, inl, inr, subst, arith, add-one, if◌then◌else◌}
use Rattle.std.specs.Prelude.{IsTrue}
use Rattle.std.specs.List.{slice_get}
use Rattle.std.specs.Option.{option_map_or}
use Rattle.std.specs.Ordering.{is_eq, is_lt}
use Rattle.std.proofs.lemmas.Bool.{and_parts, cases_lt, not-true}
use Rattle.std.proofs.lemmas.Option.{same_Some}
use Rattle.rk_key.specs.Keys.{key_cmp}
use Rattle.rk_model.specs.Lists.{none_of}
use Rattle.rk_model.specs.Spans.{same_cover, WidestSpan}
use Rattle.rk_model.specs.Cuts.{count_before, item_from, gap_on}
use Rattle.rk_model.specs.Items.{span_takes, keyed_extents}
use Rattle.rk_model.specs.ItemLaws.{spans-first}
use Rattle.rk_model.specs.declared.cut.Cut.{Cut}
use Rattle.rk_model.specs.declared.cut.Cut.TheVariants.{Start, Below, Past, End}
use Rattle.rk_model.specs.declared.span.SuffixValue.{SuffixValue}
use Rattle.rk_model.specs.declared.span.Span.{Span}
use Rattle.rk_model.proofs.Gaps.{past_none, taken_before, before_taken}
use Rattle.rk_laws.proofs.Order.{key_total, lt_ge, ge_lt, eq_is}
use Rattle.rk_laws.proofs.Ends.{lt}
use Rattle.rk_laws.proofs.Widest.{cover_same, same_cover_from}
use Rattle.rk_defrag.specs.Moves.{cover_at, is_bare, touches, goes_on, run_of, with_next, begins_by, crosses, EndsAt, RunOver, AllBareOver, Upto, Before, Gathers, Passed, Gathered, Finds, Found, Extends, ExtendsTo, Widens, Completes}

true_false : (b : Bool) → b ≡ true → b ≡ false → ⊥
true_false b p q = cc

same_cover_back : (ps qs : List SuffixValue) → same_cover ps qs ≡ same_cover qs ps
same_cover_back ps qs = go (same_cover ps qs) refl (same_cover qs ps) refl
  where
    go : (a : Bool) → same_cover ps qs ≡ a → (b : Bool) → same_cover qs ps ≡ b → a ≡ b
    go true e true f = refl
    go false e false f = refl
    go true e false f = absurd (true_false _ (same_cover_from qs ps (sym (cover_same ps qs e))) f)
    go false e true f = absurd (true_false _ (same_cover_from ps qs (sym (cover_same qs ps f))) e)

-- a walk from one gap to another is one back
pub run_turned : (forward : Bool) (n : ℕ) (xs : List Span) (near far : ℕ) (w : WidestSpan) → RunOver forward n xs near far w → RunOver (not forward) n xs far near w
run_turned true n xs near far w run = run
run_turned false n xs near far w run = run

pub run_back : (forward : Bool) (n : ℕ) (xs : List Span) (near far : ℕ) (w : WidestSpan) → RunOver (not forward) n xs far near w → RunOver forward n xs near far w
run_back true n xs near far w run = run
run_back false n xs near far w run = run

pub run_some : (forward : Bool) (n : ℕ) (xs : List Span) (near far : ℕ) (w : WidestSpan) → RunOver forward n xs near far w → none_of w.cover ≡ false
run_some true n xs near far w run = run.some
run_some false n xs near far w run = run.some

pub run_edge : (forward : Bool) (n : ℕ) (xs : List Span) (near far : ℕ) (w : WidestSpan) → RunOver forward n xs near far w → EndsAt forward n xs far w
run_edge true n xs near far w run = run.edge true
run_edge false n xs near far w run = run.edge false

pub run_proper : (forward : Bool) (n : ℕ) (xs : List Span) (near far : ℕ) (w : WidestSpan) → RunOver forward n xs near far w → Before forward near far
run_proper true n xs near far w run = run.proper
run_proper false n xs near far w run = run.proper

pub upto_before : (forward : Bool) (g h k : ℕ) → Upto forward g h → Before forward h k → Before forward g k
upto_before true g h k p q = omega (arith, p, q)
upto_before false g h k p q = omega (arith, p, q)

pub upto_itself : (forward : Bool) (g : ℕ) → Upto forward g g
upto_itself true g = omega arith
upto_itself false g = omega arith

pub upto_on : (forward : Bool) (g h : ℕ) → Upto forward g h → Upto forward g (gap_on forward h)
upto_on true g h p = omega (arith, p)
upto_on false g h p = omega (arith, p)

-- where nothing is seen there is no gap further on
pub last_gap : {A : Type 0} (forward : Bool) (xs : List A) (g : ℕ) → g ≤ length xs → item_from forward xs g ≡ None → g ≡ (if forward then length xs else 0)
last_gap true xs g le e = let h = past_none xs g e in omega (arith, h, le)
last_gap false xs zero le e = refl
last_gap false xs (suc g) le e = let h = past_none xs g e in absurd (omega (arith, h, le))

-- the run of one span
pub run_one : (forward : Bool) (n : ℕ) (xs : List Span) (g : ℕ) (t : Span) → item_from forward xs g ≡ Some t → is_bare n t ≡ false → RunOver forward n xs g (gap_on forward g) (run_of n t)
run_one true n xs g t e some = record {
  some = some;
  proper = omega arith;
  edge = λ forward. edge forward;
  one = λ h low high. absurd (omega (arith, low, high));
}
  where
    edge : (forward : Bool) → EndsAt forward n xs (if forward then g + 1 else g) (run_of n t)
    edge true = record { span = t; there = ap (item_from false xs) (add-one g) ∙ e; end = refl; has = refl }
    edge false = record { span = t; there = e; end = refl; has = refl }
run_one false n xs zero t e some = cc
run_one false n xs (suc g) t e some = record {
  some = some;
  proper = omega arith;
  edge = λ forward. edge forward;
  one = λ h low high. absurd (omega (arith, low, high));
}
  where
    edge : (forward : Bool) → EndsAt forward n xs (if forward then suc g else suc g - 1) (run_of n t)
    edge true = record { span = t; there = e; end = refl; has = refl }
    edge false = record { span = t; there = (let q : suc g - 1 ≡ g = omega arith in ap (slice_get xs) q ∙ e); end = refl; has = refl }

-- whether a run goes on in the next span is whether the spans at the gap are of one run
pub crosses_is : (forward : Bool) (n : ℕ) (xs : List Span) (near far : ℕ) (w : WidestSpan) (t : Span) → RunOver forward n xs near far w → item_from forward xs far ≡ Some t → crosses n xs far ≡ goes_on forward n w t
crosses_is true n xs near far w t run e = let b = run.edge true in rw (b.there, e, b.has, b.end) refl
crosses_is false n xs near far w t run e = let b = run.edge false in rw (e, b.there, b.has, b.end) (ap (λ c. is_eq (key_cmp t.end w.start) && c) (same_cover_back (cover_at n t) w.cover))

pub no_cross : (forward : Bool) (n : ℕ) (xs : List Span) (g : ℕ) → item_from forward xs g ≡ None → crosses n xs g ≡ false
no_cross true n xs g e = rw e (go (item_from false xs g))
  where
    go : (o : Option Span) → option_map_or (λ s. false) o false ≡ false
    go None = refl
    go (Some s) = refl
no_cross false n xs g e = rw e refl

-- a run with the next span
pub run_on : (forward : Bool) (n : ℕ) (xs : List Span) (near far : ℕ) (w : WidestSpan) (t : Span) → RunOver forward n xs near far w → item_from forward xs far ≡ Some t → goes_on forward n w t ≡ true → RunOver forward n xs near (gap_on forward far) (with_next forward w t)
run_on true n xs near far w t run e goes = record { some = run.some; proper = (let p = run.proper in omega (arith, p)); edge = λ forward. edge forward; one = one }
  where
    has : cover_at n t ≡ w.cover
    has = sym (cover_same w.cover (cover_at n t) (and_parts (is_eq (key_cmp w.end t.start)) (same_cover w.cover (cover_at n t)) goes).1)

    edge : (forward : Bool) → EndsAt forward n xs (if forward then far + 1 else near) (record w { end = t.end })
    edge true = record { span = t; there = ap (item_from false xs) (add-one far) ∙ e; end = refl; has = has }
    edge false = let b = run.edge false in record { span = b.span; there = b.there; end = b.end; has = b.has }

    one : (g : ℕ) → near < g → g < far + 1 → crosses n xs g ≡ true
    one g low high = go (cases_lt g far)
      where
        go : (g < far) ⊎ (far ≤ g) → crosses n xs g ≡ true
        go (inl l) = run.one g low l
        go (inr l) = let q : g ≡ far = omega (arith, l, high) in ap (crosses n xs) q ∙ crosses_is true n xs near far w t run e ∙ goes
run_on false n xs near zero w t run e goes = cc
run_on false n xs near (suc far) w t run e goes = record { some = run.some; proper = (let p = run.proper in omega (arith, p)); edge = λ forward. edge forward; one = one }
  where
    q : suc far - 1 ≡ far
    q = omega arith

    has : cover_at n t ≡ w.cover
    has = sym (cover_same w.cover (cover_at n t) (and_parts (is_eq (key_cmp t.end w.start)) (same_cover w.cover (cover_at n t)) goes).1)

    edge : (forward : Bool) → EndsAt forward n xs (if forward then near else suc far - 1) (record w { start = t.start })
    edge true = let b = run.edge true in record { span = b.span; there = b.there; end = b.end; has = b.has }
    edge false = record { span = t; there = ap (slice_get xs) q ∙ e; end = refl; has = has }

    one : (g : ℕ) → suc far - 1 < g → g < near → crosses n xs g ≡ true
    one g low high = go (cases_lt (suc far) g)
      where
        go : (suc far < g) ⊎ (g ≤ suc far) → crosses n xs g ≡ true
        go (inl l) = run.one g l high
        go (inr l) = let q : g ≡ suc far = omega (arith, l, low) in ap (crosses n xs) q ∙ crosses_is false n xs near (suc far) w t run e ∙ goes

-- past a span without a cover
pub bare_on : (forward : Bool) (n : ℕ) (xs : List Span) (from g : ℕ) (t : Span) → AllBareOver forward n xs from g → item_from forward xs g ≡ Some t → is_bare n t ≡ true → AllBareOver forward n xs from (gap_on forward g)
bare_on true n xs from g t bare e b = λ k s low high is. go k s low is high (cases_lt k g)
  where
    go : (k : ℕ) (s : Span) → from ≤ k → slice_get xs k ≡ Some s → k < g + 1 → (k < g) ⊎ (g ≤ k) → is_bare n s ≡ true
    go k s low is high (inl l) = bare k s low l is
    go k s low is high (inr l) = let q : k ≡ g = omega (arith, l, high) in (let f : s ≡ t = same_Some s t (sym is ∙ ap (slice_get xs) q ∙ e) in ap (is_bare n) f ∙ b)
bare_on false n xs from zero t bare e b = cc
bare_on false n xs from (suc g) t bare e b = λ k s low high is. go k s low high is (cases_lt g k)
  where
    go : (k : ℕ) (s : Span) → suc g - 1 ≤ k → k < from → slice_get xs k ≡ Some s → (g < k) ⊎ (k ≤ g) → is_bare n s ≡ true
    go k s low high is (inl l) = bare k s (omega (arith, l)) high is
    go k s low high is (inr l) = let q : k ≡ g = omega (arith, l, low) in (let f : s ≡ t = same_Some s t (sym is ∙ ap (slice_get xs) q ∙ e) in ap (is_bare n) f ∙ b)

pub bare_none : (forward : Bool) (n : ℕ) (xs : List Span) (g : ℕ) → AllBareOver forward n xs g g
bare_none true n xs g = λ k t low high is. absurd (omega (arith, low, high))
bare_none false n xs g = λ k t low high is. absurd (omega (arith, low, high))

-- up to a gap that is reached before
pub bare_upto : (forward : Bool) (n : ℕ) (xs : List Span) (from first near : ℕ) → Upto forward first near → AllBareOver forward n xs from near → AllBareOver forward n xs from first
bare_upto true n xs from first near on bare = λ k t low high is. bare k t low (omega (arith, on, high)) is
bare_upto false n xs from first near on bare = λ k t low high is. bare k t (omega (arith, on, low)) high is

-- a span without a cover is of no run
no_bare : (forward : Bool) (n : ℕ) (w : WidestSpan) (t : Span) → none_of w.cover ≡ false → is_bare n t ≡ true → goes_on forward n w t ≡ false
no_bare forward n w t some bare = go (w.cover) some (cover_at n t) bare (touches forward w t)
  where
    go : (ps : List SuffixValue) → none_of ps ≡ false → (qs : List SuffixValue) → none_of qs ≡ true → (b : Bool) → (b && same_cover ps qs) ≡ false
    go [] e qs f b = cc
    go (p ∷ ps) e [] f true = refl
    go (p ∷ ps) e [] f false = refl
    go (p ∷ ps) e (q ∷ qs) f b = cc

-- a run that begins behind a span without a cover begins there
module _ (forward : Bool) (n : ℕ) (xs : List Span) (near at : ℕ) (w : WidestSpan) (run : RunOver forward n xs near at w) where
  pub alone_if : ((t : Span) → item_from (not forward) xs near ≡ Some t → goes_on (not forward) n w t ≡ false) → crosses n xs near ≡ false
  alone_if off = go (item_from (not forward) xs near) refl
    where
      go : (o : Option Span) → item_from (not forward) xs near ≡ o → crosses n xs near ≡ false
      go None e = no_cross (not forward) n xs near e
      go (Some t) e = crosses_is (not forward) n xs at near w t (run_turned forward n xs near at w run) e ∙ off t e

  passed_bare : (from : ℕ) → Before forward from near → AllBareOver forward n xs from near → (t : Span) → item_from (not forward) xs near ≡ Some t → is_bare n t ≡ true
  passed_bare from = go forward near
    where
      go : (forward : Bool) (near : ℕ) → Before forward from near → AllBareOver forward n xs from near → (t : Span) → item_from (not forward) xs near ≡ Some t → is_bare n t ≡ true
      go true zero p bare t e = cc
      go true (suc k) p bare t e = bare k t (omega (arith, p)) (omega arith) e
      go false near p bare t e = bare near t (omega arith) p e

  pub alone_behind : (from : ℕ) → Before forward from near → AllBareOver forward n xs from near → crosses n xs near ≡ false
  alone_behind from p bare = alone_if (λ t e. no_bare (not forward) n w t (run_some forward n xs near at w run) (passed_bare from p bare t e))

upto_cases : (forward : Bool) (from near : ℕ) → Upto forward from near → Before forward from near ⊎ (from ≡ near)
upto_cases true from near u = go (cases_lt from near)
  where
    go : (from < near) ⊎ (near ≤ from) → (from < near) ⊎ (from ≡ near)
    go (inl l) = inl l
    go (inr l) = inr (omega (arith, l, u))
upto_cases false from near u = go (cases_lt near from)
  where
    go : (near < from) ⊎ (from ≤ near) → (near < from) ⊎ (from ≡ near)
    go (inl l) = inl l
    go (inr l) = inr (omega (arith, l, u))

-- a run that was gathered, with what is known of the gap where that began
pub finds : (forward : Bool) (n : ℕ) (xs : List Span) (from at : ℕ) (w : WidestSpan) (g : Gathers forward n xs from at w) → crosses n xs at ≡ false → (from ≡ g.near → crosses n xs g.near ≡ false) → Finds forward n xs from at w
finds forward n xs from at w g ends alone = record {
  near = g.near;
  bare = g.bare;
  beyond = upto_before forward from g.near at g.beyond (run_proper forward n xs g.near at w g.run);
  run = g.run;
  alone = elim (upto_cases forward from g.near g.beyond) [ inl p ↦ alone_behind forward n xs g.near at w g.run from p g.bare | inr e ↦ alone e ];
  ends = ends;
}

pub gathered_found : (forward : Bool) (n : ℕ) (xs : List Span) (from at : ℕ) (found : Option WidestSpan) → Gathered forward n xs from at found → crosses n xs from ≡ false → Found forward n xs from at found
gathered_found forward n xs from at None g alone = g
gathered_found forward n xs from at (Some w) g alone = finds forward n xs from at w g.0 g.1 (λ e. ap (crosses n xs) (sym e) ∙ alone)

-- and with a run that has been widened
pub widened : (forward : Bool) (n : ℕ) (xs : List Span) (from at at' : ℕ) (w w' : WidestSpan) → Widens forward n xs w w' at' → Completes forward n xs from w w' at at'
widened forward n xs from at at' w w' wide g ends =
    let (to, same) = wide g.near at g.run in
    record {
      near = to.first;
      bare = bare_upto forward n xs from to.first g.near to.on g.bare;
      beyond = subst (Before forward from) (sym same) (upto_before forward from g.near at g.beyond (run_proper forward n xs g.near at w g.run));
      run = subst (λ k. RunOver forward n xs to.first k w') (sym same) to.run;
      alone = to.alone;
      ends = ap (crosses n xs) same ∙ ends;
    }

-- spans that don't touch
untouched : (x y : List ℕ) → lt x y ≡ true → is_eq (key_cmp x y) ≡ false
untouched x y h = go (is_eq (key_cmp x y)) refl
  where
    go : (b : Bool) → is_eq (key_cmp x y) ≡ b → b ≡ false
    go true e = let p = eq_is key_total x y e in absurd (true_false _ h (ap is_lt p))
    go false e = refl

-- A run that begins beyond the cut from which it was gathered is whole: what stands next to it before the cut ends, in
-- the direction, at the cut or before.
module _ (n : ℕ) (xs : List Span) (sorted : IsTrue (keyed_extents xs)) where
  flip : (c : Bool) → not c ≡ false → c ≡ true
  flip true h = refl
  flip false h = cc

  before_key : (key : List ℕ) (w : WidestSpan) (t : Span) → not (lt key w.start) ≡ false → not (lt key t.end) ≡ true → is_eq (key_cmp t.end w.start) ≡ false
  before_key key w t b e = untouched t.end w.start (ge_lt key_total t.end key w.start (not-true (lt key t.end) e) (flip (lt key w.start) b))

  behind_key : (key : List ℕ) (w : WidestSpan) (t : Span) → not (lt w.end key) ≡ false → lt t.start key ≡ false → is_eq (key_cmp w.end t.start) ≡ false
  behind_key key w t b e = untouched w.end t.start (lt_ge key_total w.end key t.start (flip (lt w.end key) b) e)

  before_cut : (forward : Bool) (cut : Cut (List ℕ)) (w : WidestSpan) (t : Span) → begins_by forward cut w ≡ false → span_takes forward cut t ≡ forward → touches (not forward) w t ≡ false
  before_cut true Start w t b e = cc
  before_cut true (Below key) w t b e = before_key key w t b e
  before_cut true (Past key) w t b e = before_key key w t b e
  before_cut true End w t b e = cc
  before_cut false Start w t b e = cc
  before_cut false (Below key) w t b e = behind_key key w t b e
  before_cut false (Past key) w t b e = behind_key key w t b e
  before_cut false End w t b e = cc

  taken_at : (forward : Bool) (cut : Cut (List ℕ)) (t : Span) → item_from (not forward) xs (count_before (span_takes forward cut) xs) ≡ Some t → span_takes forward cut t ≡ forward
  taken_at true cut t e = go (count_before (span_takes true cut) xs) refl e
    where
      go : (g : ℕ) → count_before (span_takes true cut) xs ≡ g → item_from false xs g ≡ Some t → span_takes true cut t ≡ true
      go zero q e = cc
      go (suc k) q e = taken_before (span_takes true cut) xs k t e (omega (arith, q))
  taken_at false cut t e = go (span_takes false cut t) refl
    where
      go : (b : Bool) → span_takes false cut t ≡ b → b ≡ false
      go true q = absurd (omega (arith, before_taken (span_takes false cut) xs (count_before (span_takes false cut) xs) t (spans-first false cut xs sorted) e q))
      go false q = refl

  pub completed : (forward : Bool) (cut : Cut (List ℕ)) (at : ℕ) (w : WidestSpan) → begins_by forward cut w ≡ false → Completes forward n xs (count_before (span_takes forward cut) xs) w w at at
  completed forward cut at w b g ends = finds forward n xs (count_before (span_takes forward cut) xs) at w g ends alone
    where
      and_none : (a c : Bool) → a ≡ false → (a && c) ≡ false
      and_none a c e = rw e refl

      alone : count_before (span_takes forward cut) xs ≡ g.near → crosses n xs g.near ≡ false
      alone e = alone_if forward n xs g.near at w g.run (λ t f. and_none (touches (not forward) w t) (same_cover w.cover (cover_at n t)) (before_cut forward cut w t b (taken_at forward cut t (ap (item_from (not forward) xs) e ∙ f))))

-- A run that goes on, span by span.
pub extends_none : (forward : Bool) (n : ℕ) (xs : List Span) (w : WidestSpan) (at : ℕ) → Extends forward n xs w w at at
extends_none forward n xs w at = record { on = upto_itself forward at; run = λ near run. run }

pub extends_on : (forward : Bool) (n : ℕ) (xs : List Span) (w w' : WidestSpan) (at at' : ℕ) (t : Span) → Extends forward n xs w w' at at' → item_from forward xs at' ≡ Some t → goes_on forward n w' t ≡ true → Extends forward n xs w (with_next forward w' t) at (gap_on forward at')
extends_on forward n xs w w' at at' t e is goes = record { on = upto_on forward at at' e.on; run = λ near run. run_on forward n xs near at' w' t (e.run near run) is goes }

pub extends_stops : (forward : Bool) (n : ℕ) (xs : List Span) (w w' : WidestSpan) (at at' : ℕ) (t : Span) → Extends forward n xs w w' at at' → item_from forward xs at' ≡ Some t → goes_on forward n w' t ≡ false → ExtendsTo forward n xs w w' at at'
extends_stops forward n xs w w' at at' t e is stops = record { goes = e; ends = λ near run. crosses_is forward n xs near at' w' t (e.run near run) is ∙ stops }

pub extends_ends : (forward : Bool) (n : ℕ) (xs : List Span) (w w' : WidestSpan) (at at' : ℕ) → Extends forward n xs w w' at at' → item_from forward xs at' ≡ None → ExtendsTo forward n xs w w' at at'
extends_ends forward n xs w w' at at' e is = record { goes = e; ends = λ near run. no_cross forward n xs at' is }

-- what was gathered, with the run as far as it goes on
pub gathered_on : (forward : Bool) (n : ℕ) (xs : List Span) (from at at' : ℕ) (w w' : WidestSpan) → Passed forward n xs from at (Some w) → ExtendsTo forward n xs w w' at at' → Gathered forward n xs from at' (Some w')
gathered_on forward n xs from at at' w w' g e = (record { near = g.near; beyond = g.beyond; bare = g.bare; run = e.goes.run g.near g.run }, e.ends g.near g.run)
