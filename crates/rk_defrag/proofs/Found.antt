-- The run that is found from the gap of a cut is the widest span that is seen from there.
use Prim.Native.Nat.{zero, suc}
use Rattle.std.proofs.Common.{◌≡◌, ℕ, ◌<◌, ◌≤◌, Bool, true, false, not, ◌||◌, List, length, Option, Some, None, option_map, refl, sym, ap, ◌∙◌, ◌⊎◌, inl, inr, subst, arith, if◌then◌else◌}
use Rattle.std.specs.Prelude.{IsTrue}
use Rattle.std.specs.List.{slice_get}
use Rattle.std.specs.Option.{option_map_or}
use Rattle.std.proofs.lemmas.Bool.{and_parts, cases_lt, not-true}
use Rattle.std.proofs.lemmas.Option.{slice_get_within, same_Some}
use Rattle.rk_model.specs.Lists.{Among}
use Rattle.rk_model.specs.Operations.{within}
use Rattle.rk_model.specs.Spans.{at_or_above, below, in_bounds, WidestSpan}
use Rattle.rk_model.specs.Cuts.{count_before, item_from}
use Rattle.rk_model.specs.Items.{span_beside, span_takes, keyed_extents}
use Rattle.rk_model.specs.ItemLaws.{spans-first}
use Rattle.rk_model.specs.declared.cut.Cut.{Cut}
use Rattle.rk_model.specs.declared.cut.Cut.TheVariants.{Start, Below, Past, End}
use Rattle.rk_model.specs.declared.span.Span.{Span}
use Rattle.rk_model.specs.declared.options.IterOptions.{IterOptions}
use Rattle.rk_model.proofs.Gaps.{taken_before, before_taken, behind_untaken}
use Rattle.rk_merge.proofs.Counts.{slice_among}
use Rattle.rk_laws.specs.SameCells.{KeyBounds}
use Rattle.rk_laws.proofs.Order.{key_total, lt_back, lt_trans, ge_trans, lt_ge, ge_lt}
use Rattle.rk_laws.proofs.Ends.{lt}
use Rattle.rk_laws.proofs.Widest.{self}
use Rattle.rk_span_laws.specs.Joined.{as_span, joined}
use Rattle.rk_span_laws.proofs.Covers.{within_parts, within_from}
use Rattle.rk_span_laws.proofs.Joining.{joined_are_in_order}
use Rattle.rk_defrag.specs.Moves.{is_bare, clip_end, clip_start, clipped, inner_cut, is_crossed, lies_far, end_of, IsRun, RunOver, AllBareOver, Before, Finds, Found, FoundAt, IsLent}
use Rattle.rk_defrag.proofs.Places.{among_place, count_at, in_order, item_among, item_within, next_to, proper_at}
use Rattle.rk_defrag.proofs.Parts.{Over, over_of, part_sorted, xs}
use Rattle.rk_defrag.proofs.Leaving.{count_end, count_start}
use Rattle.rk_defrag.proofs.Whole.{whole_is}

true_false : (b : Bool) → b ≡ true → b ≡ false → ⊥
true_false b p q = cc

flip : (b : Bool) → not b ≡ false → b ≡ true
flip true e = refl
flip false e = cc

-- a cut that isn't far is sought itself
inner_is : (o : IterOptions) (forward : Bool) (cut : Cut (List ℕ)) → lies_far o forward cut ≡ false → inner_cut o forward cut ≡ cut
inner_is o forward cut e = ap (λ b. if b then (if forward then End else Start) else cut) e

inside_closed : (o : IterOptions) (x : List ℕ) → in_bounds o x ≡ true → is_crossed o ≡ false
inside_closed o x inside = go o.lower o.upper (and_parts (at_or_above o.lower x) (below o.upper x) inside)
  where
    go : (l u : Option (List ℕ)) → (at_or_above l x ≡ true) × (below u x ≡ true) → option_map_or (λ l. option_map_or (λ u. not (lt l u)) u false) l false ≡ false
    go None u h = refl
    go (Some l) None h = refl
    go (Some l) (Some u) h = ap not (ge_lt key_total l x u (not-true (lt x l) h.0) h.1)

near_upper : (u : Option (List ℕ)) (key x : List ℕ) → below u x ≡ true → lt x key ≡ false → option_map_or (λ u. not (lt key u)) u false ≡ false
near_upper None key x h up = refl
near_upper (Some u) key x h up = ap not (ge_lt key_total key x u up h)

near_lower : (l : Option (List ℕ)) (key x : List ℕ) → at_or_above l x ≡ true → lt x key ≡ true → option_map_or (λ l. not (lt l key)) l false ≡ false
near_lower None key x h up = refl
near_lower (Some l) key x h up = ap not (ge_lt key_total l x key (not-true (lt x l) h) up)

-- a place that is beyond a gap in a direction
abbrev PastGap : Bool → ℕ → ℕ → Type 0
PastGap true g k = g ≤ k
PastGap false g k = k < g

module _ (n : ℕ) (o : IterOptions) (ss : List Span) (bounds : KeyBounds o) (sorted : IsTrue (keyed_extents ss)) where
  abbrev ps : List Span
  ps = xs o ss

  abbrev ds : List Span
  ds = joined n o ss

  up : IsTrue (keyed_extents ps)
  up = part_sorted o ss sorted

  pub joined_sorted : IsTrue (keyed_extents ds)
  joined_sorted = joined_are_in_order n o ss bounds sorted

  abbrev sought : Bool → Cut (List ℕ) → ℕ
  sought forward cut = count_before (span_takes forward (inner_cut o forward cut)) ps

  -- a widest span that is beyond a cut lies over a span with a cover that is beyond the cut's gap
  record Beyond (forward : Bool) (g : ℕ) (d : Span) : Type 0 where
    key : List ℕ
    within_it : within d.start d.end key ≡ true
    over : Over o ss sorted n key
    past : PastGap forward g over.place

  own_start : (d : Span) → Among d ds → within d.start d.end d.start ≡ true
  own_start d m = within_from d.start d.end d.start (self d.start) (proper_at ds joined_sorted d m)

  behind_key : (cut : Cut (List ℕ)) (key : List ℕ) → lies_far o true cut ≡ (is_crossed o || option_map_or (λ u. not (lt key u)) o.upper false) → count_before (span_takes true cut) ps ≡ count_before (span_beside true key) ps
      → (d : Span) → Among d ds → lt key d.end ≡ true → Beyond true (sought true cut) d
  behind_key cut key far same d m h = go (lt key d.start) refl
    where
      made : (x : List ℕ) → within d.start d.end x ≡ true → lt x key ≡ false → Beyond true (sought true cut) d
      made x w low =
          let over = over_of o ss sorted n d m x w in
          let inside = and_parts (at_or_above o.lower x) (below o.upper x) over.inside in
          let near : lies_far o true cut ≡ false = far ∙ rw (inside_closed o x over.inside) (near_upper o.upper key x inside.1 low) in
          let past : lt key over.span.end ≡ true = ge_lt key_total key x over.span.end low (within_parts over.span.start over.span.end x over.over).1 in
          let le : count_before (span_beside true key) ps ≤ over.place = behind_untaken (span_beside true key) ps over.place over.span over.there (ap not past) in
          let is : sought true cut ≡ count_before (span_beside true key) ps = ap (λ c. count_before (span_takes true c) ps) (inner_is o true cut near) ∙ same in
          record { key = x; within_it = w; over = over; past = omega (arith, le, is) }

      go : (b : Bool) → lt key d.start ≡ b → Beyond true (sought true cut) d
      go true e = made d.start (own_start d m) (lt_back key_total key d.start e)
      go false e = made key (within_from d.start d.end key e h) (self key)

  before_key : (cut : Cut (List ℕ)) (key : List ℕ) → lies_far o false cut ≡ (is_crossed o || option_map_or (λ l. not (lt l key)) o.lower false) → count_before (span_takes false cut) ps ≡ count_before (span_beside false key) ps
      → (d : Span) → Among d ds → lt d.start key ≡ true → Beyond false (sought false cut) d
  before_key cut key far same d m h =
      let over = over_of o ss sorted n d m d.start (own_start d m) in
      let inside = and_parts (at_or_above o.lower d.start) (below o.upper d.start) over.inside in
      let near : lies_far o false cut ≡ false = far ∙ rw (inside_closed o d.start over.inside) (near_lower o.lower key d.start inside.0 h) in
      let past : lt over.span.start key ≡ true = ge_lt key_total over.span.start d.start key (within_parts over.span.start over.span.end d.start over.over).0 h in
      let less : over.place < count_before (span_beside false key) ps = before_taken (span_beside false key) ps over.place over.span (spans-first false (Below key) ps up) over.there past in
      let is : sought false cut ≡ count_before (span_beside false key) ps = ap (λ c. count_before (span_takes false c) ps) (inner_is o false cut near) ∙ same in
      record { key = d.start; within_it = own_start d m; over = over; past = omega (arith, less, is) }

  beyond : (forward : Bool) (cut : Cut (List ℕ)) (d : Span) → Among d ds → span_takes forward cut d ≡ not forward → Beyond forward (sought forward cut) d
  beyond true Start d m h =
      let over = over_of o ss sorted n d m d.start (own_start d m) in
      let near : lies_far o true Start ≡ false = rw (inside_closed o d.start over.inside) (none o.upper) in
      let is : sought true Start ≡ 0 = ap (λ c. count_before (span_takes true c) ps) (inner_is o true Start near) ∙ count_start ps up true in
      record { key = d.start; within_it = own_start d m; over = over; past = omega (arith, is) }
    where
      none : (u : Option (List ℕ)) → option_map_or (λ u. false) u false ≡ false
      none None = refl
      none (Some u) = refl
  beyond true (Below key) d m h = behind_key (Below key) key refl refl d m (flip (lt key d.end) h)
  beyond true (Past key) d m h = behind_key (Past key) key refl refl d m (flip (lt key d.end) h)
  beyond true End d m h = cc
  beyond false Start d m h = cc
  beyond false (Below key) d m h = before_key (Below key) key refl refl d m h
  beyond false (Past key) d m h = before_key (Past key) key refl refl d m h
  beyond false End d m h =
      let over = over_of o ss sorted n d m d.start (own_start d m) in
      let near : lies_far o false End ≡ false = rw (inside_closed o d.start over.inside) (none o.lower) in
      let is : sought false End ≡ length ps = ap (λ c. count_before (span_takes false c) ps) (inner_is o false End near) ∙ count_end ps up false in
      record { key = d.start; within_it = own_start d m; over = over; past = (let l = slice_get_within ps over.place over.span over.there in omega (arith, is, l)) }
    where
      none : (u : Option (List ℕ)) → option_map_or (λ u. false) u false ≡ false
      none None = refl
      none (Some u) = refl

  -- what is seen from a cut's gap is beyond the cut
  seen_beyond : (forward : Bool) (cut : Cut (List ℕ)) (d : Span) → item_from forward ds (count_before (span_takes forward cut) ds) ≡ Some d → span_takes forward cut d ≡ not forward
  seen_beyond true cut d e = go (span_takes true cut d) refl
    where
      go : (b : Bool) → span_takes true cut d ≡ b → b ≡ false
      go true q = absurd (omega (arith, before_taken (span_takes true cut) ds (count_before (span_takes true cut) ds) d (spans-first true cut ds joined_sorted) e q))
      go false q = refl
  seen_beyond false cut d e = go (count_before (span_takes false cut) ds) refl e
    where
      go : (g : ℕ) → count_before (span_takes false cut) ds ≡ g → item_from false ds g ≡ Some d → span_takes false cut d ≡ true
      go zero q e = cc
      go (suc k) q e = taken_before (span_takes false cut) ds k d e (omega (arith, q))

  -- spans without a cover up to the end are those of no widest span
  found_none : (forward : Bool) (cut : Cut (List ℕ)) → AllBareOver forward n ps (sought forward cut) (end_of forward ps) → item_from forward ds (count_before (span_takes forward cut) ds) ≡ None
  found_none forward cut bare = go (item_from forward ds (count_before (span_takes forward cut) ds)) refl
    where
      never : (forward : Bool) (g k : ℕ) (t : Span) → AllBareOver forward n ps g (end_of forward ps) → PastGap forward g k → slice_get ps k ≡ Some t → is_bare n t ≡ true
      never true g k t bare past there = bare k t past (slice_get_within ps k t there) there
      never false g k t bare past there = bare k t (omega arith) past there

      go : (q : Option Span) → item_from forward ds (count_before (span_takes forward cut) ds) ≡ q → q ≡ None
      go None e = refl
      go (Some d) e =
          let b = beyond forward cut d (item_among forward ds (count_before (span_takes forward cut) ds) d e) (seen_beyond forward cut d e) in
          absurd (true_false _ (never forward (sought forward cut) b.over.place b.over.span bare b.past b.over.there) b.over.covered)

  module _ (forward : Bool) (cut : Cut (List ℕ)) (at : ℕ) (w : WidestSpan) (f : Finds forward n ps (sought forward cut) at w) where
    -- there are keys between the bounds: else the end of the direction was sought
    closed : is_crossed o ≡ false
    closed = go (is_crossed o) refl forward f.beyond f.run refl
      where
        go : (b : Bool) → is_crossed o ≡ b → (d : Bool) → Before d (sought forward cut) at → RunOver d n ps f.near at w → d ≡ forward → b ≡ false
        go false e d less run q = refl
        go true e true less run q =
            let is : sought forward cut ≡ length ps = rw (← q, e) (count_end ps up true) in
            let le = item_within false ps at (run.edge true).span (run.edge true).there in
            absurd (omega (arith, is, le, less))
        go true e false less run q =
            let is : sought forward cut ≡ 0 = rw (← q, e) (count_start ps up false) in
            absurd (omega (arith, is, less))

  -- the cut that was sought where something was found
  cut_near : (cut : Cut (List ℕ)) (forward b : Bool) → lies_far o forward cut ≡ b → (t : Span) → span_takes forward (inner_cut o forward cut) t ≡ not forward → b ≡ false
  cut_near cut forward false e t h = refl
  cut_near cut true true e t h = let q : span_takes true (inner_cut o true cut) t ≡ true = rw e refl in absurd (true_false _ q h)
  cut_near cut false true e t h = let q : span_takes false (inner_cut o false cut) t ≡ false = rw e refl in absurd (true_false _ h q)

  end_beyond : (key end : List ℕ) (u : Option (List ℕ)) → option_map_or (λ u. not (lt key u)) u false ≡ false → lt key end ≡ true → lt key (clip_end u end) ≡ true
  end_beyond key end None h e = e
  end_beyond key end (Some u) h e = go (lt end u)
    where
      go : (b : Bool) → lt key (if b then end else u) ≡ true
      go true = e
      go false = flip (lt key u) h

  start_before : (key start : List ℕ) (l : Option (List ℕ)) → option_map_or (λ l. not (lt l key)) l false ≡ false → lt start key ≡ true → lt (clip_start l start) key ≡ true
  start_before key start None h e = e
  start_before key start (Some l) h e = go (lt l start)
    where
      go : (b : Bool) → lt (if b then start else l) key ≡ true
      go true = e
      go false = flip (lt l key) h

  or_right : (a b : Bool) → (a || b) ≡ false → b ≡ false
  or_right true b e = cc
  or_right false b e = e

  -- the span of a run that is beyond a cut is beyond it
  clip_beyond : (forward : Bool) (cut : Cut (List ℕ)) (w : WidestSpan) (t : Span) → (if forward then t.end else t.start) ≡ (if forward then w.end else w.start) → span_takes forward (inner_cut o forward cut) t ≡ not forward → span_takes forward cut (as_span n (clipped o w)) ≡ not forward
  clip_beyond forward cut w t e h = go forward cut e (cut_near cut forward (lies_far o forward cut) refl t h) (ap (λ c. span_takes forward c t) (sym (inner_is o forward cut (cut_near cut forward (lies_far o forward cut) refl t h))) ∙ h)
    where
      go : (forward : Bool) (cut : Cut (List ℕ)) → (if forward then t.end else t.start) ≡ (if forward then w.end else w.start) → lies_far o forward cut ≡ false → span_takes forward cut t ≡ not forward → span_takes forward cut (as_span n (clipped o w)) ≡ not forward
      go true Start e near h = refl
      go true (Below key) e near h = ap not (end_beyond key w.end o.upper (or_right (is_crossed o) _ near) (ap (lt key) (sym e) ∙ flip (lt key t.end) h))
      go true (Past key) e near h = ap not (end_beyond key w.end o.upper (or_right (is_crossed o) _ near) (ap (lt key) (sym e) ∙ flip (lt key t.end) h))
      go true End e near h = cc
      go false Start e near h = cc
      go false (Below key) e near h = start_before key w.start o.lower (or_right (is_crossed o) _ near) (ap (λ z. lt z key) (sym e) ∙ h)
      go false (Past key) e near h = start_before key w.start o.lower (or_right (is_crossed o) _ near) (ap (λ z. lt z key) (sym e) ∙ h)
      go false End e near h = refl

  -- the last span of a run that ends beyond a gap is beyond it
  last_beyond : (forward : Bool) (cut : Cut (List ℕ)) (near at : ℕ) (w : WidestSpan) → Before forward (sought forward cut) at → (run : RunOver forward n ps near at w) → span_takes forward cut (as_span n (clipped o w)) ≡ not forward
  last_beyond true cut near at w less run =
      let b = run.edge true in
      clip_beyond true cut w b.span b.end (go at less b.there (span_takes true (inner_cut o true cut) b.span) refl)
    where
      go : (g : ℕ) → sought true cut < g → item_from false ps g ≡ Some (run.edge true).span → (c : Bool) → span_takes true (inner_cut o true cut) (run.edge true).span ≡ c → c ≡ false
      go zero less e c q = cc
      go (suc k) less e true q = absurd (omega (arith, less, before_taken (span_takes true (inner_cut o true cut)) ps k (run.edge true).span (spans-first true (inner_cut o true cut) ps up) e q))
      go (suc k) less e false q = refl
  last_beyond false cut near at w less run =
      let b = run.edge false in
      clip_beyond false cut w b.span b.end (taken_before (span_takes false (inner_cut o false cut)) ps at b.span b.there less)

  -- A widest span that is nearer than that of the run lies over no span from the run on.
  nearer_start : (l : Option (List ℕ)) (start x : List ℕ) → at_or_above l x ≡ true → lt x (clip_start l start) ≡ true → lt x start ≡ true
  nearer_start None start x h e = e
  nearer_start (Some l) start x h e = go (lt l start) refl
    where
      go : (b : Bool) → lt l start ≡ b → lt x start ≡ true
      go true q = sym (ap (λ b. lt x (if b then start else l)) q) ∙ e
      go false q = absurd (true_false _ (sym (ap (λ b. lt x (if b then start else l)) q) ∙ e) (not-true (lt x l) h))

  nearer_end : (u : Option (List ℕ)) (end x : List ℕ) → below u x ≡ true → lt x (clip_end u end) ≡ false → lt x end ≡ false
  nearer_end None end x h e = e
  nearer_end (Some u) end x h e = go (lt end u) refl
    where
      go : (b : Bool) → lt end u ≡ b → lt x end ≡ false
      go true q = sym (ap (λ b. lt x (if b then end else u)) q) ∙ e
      go false q = absurd (true_false _ h (sym (ap (λ b. lt x (if b then end else u)) q) ∙ e))

  over_before : (low high : ℕ) (w : WidestSpan) → IsRun n ps low high w → (x : List ℕ) (over : Over o ss sorted n x) → lt x (clip_start o.lower w.start) ≡ true → over.place < low
  over_before low high w run x over h = go (cases_lt over.place low)
    where
      b : Span
      b = (run.edge false).span

      less : lt over.span.start b.start ≡ true
      less = ge_lt key_total over.span.start x b.start (within_parts over.span.start over.span.end x over.over).0 (ap (lt x) (run.edge false).end ∙ nearer_start o.lower w.start x (and_parts (at_or_above o.lower x) (below o.upper x) over.inside).0 h)

      behind : (low < over.place) ⊎ (over.place ≤ low) → low ≤ over.place → ⊥
      behind (inl l) le =
          let apart : lt over.span.start b.end ≡ false = in_order ps up low over.place b over.span l (run.edge false).there over.there in
          let up_to : lt over.span.start b.end ≡ true = lt_trans key_total over.span.start b.start b.end less (proper_at ps up b (slice_among ps low b (run.edge false).there)) in
          true_false _ up_to apart
      behind (inr l) le =
          let q : over.place ≡ low = omega (arith, l, le) in
          let same : over.span ≡ b = same_Some over.span b (sym over.there ∙ ap (slice_get ps) q ∙ (run.edge false).there) in
          true_false _ less (ap (λ (t : Span). lt t.start b.start) same ∙ self b.start)

      go : (over.place < low) ⊎ (low ≤ over.place) → over.place < low
      go (inl l) = l
      go (inr l) = absurd (behind (cases_lt low over.place) l)

  over_behind : (low high : ℕ) (w : WidestSpan) → IsRun n ps low high w → (x : List ℕ) (over : Over o ss sorted n x) → lt x (clip_end o.upper w.end) ≡ false → high ≤ over.place
  over_behind low high w run x over h = start high refl (run.edge true).there
    where
      b : Span
      b = (run.edge true).span

      past : lt b.end over.span.end ≡ true
      past = ge_lt key_total b.end x over.span.end (ap (lt x) (run.edge true).end ∙ nearer_end o.upper w.end x (and_parts (at_or_above o.lower x) (below o.upper x) over.inside).1 h) (within_parts over.span.start over.span.end x over.over).1

      start : (g : ℕ) → high ≡ g → item_from false ps g ≡ Some b → high ≤ over.place
      start zero q e = omega (arith, q)
      start (suc k) q e = go (cases_lt over.place k)
        where
          go : (over.place < k) ⊎ (k ≤ over.place) → high ≤ over.place
          go (inl l) =
              let apart : lt b.start over.span.end ≡ false = in_order ps up over.place k over.span b l over.there e in
              let above : lt b.start over.span.end ≡ true = lt_trans key_total b.start b.end over.span.end (proper_at ps up b (slice_among ps k b e)) past in
              absurd (true_false _ above apart)
          go (inr l) = last (cases_lt k over.place)
            where
              last : (k < over.place) ⊎ (over.place ≤ k) → high ≤ over.place
              last (inl m) = omega (arith, q, m)
              last (inr m) =
                  let r : over.place ≡ k = omega (arith, l, m) in
                  let same : over.span ≡ b = same_Some over.span b (sym over.there ∙ ap (slice_get ps) r ∙ e) in
                  absurd (true_false _ past (ap (λ (t : Span). lt b.end t.end) same ∙ self b.end))

  -- The found run gives the widest span that is seen from the cut's gap.
  found_some : (forward : Bool) (cut : Cut (List ℕ)) (at : ℕ) (w : WidestSpan) → Finds forward n ps (sought forward cut) at w → (Among (as_span n (clipped o w)) ds) × (item_from forward ds (count_before (span_takes forward cut) ds) ≡ Some (as_span n (clipped o w)))
  found_some true cut at w f =
      let m : Among (as_span n (clipped o w)) ds = whole_is n o ss sorted f.near at w f.run bounds (closed true cut at w f) f.alone f.ends in
      let (g, e) = among_place ds (as_span n (clipped o w)) m in
      (m, ap (slice_get ds) (count_at (span_takes true cut) ds (spans-first true cut ds joined_sorted) g (item_within true ds g (as_span n (clipped o w)) e) (before g e) (behind g e)) ∙ e)
    where
      c : Span
      c = as_span n (clipped o w)

      behind : (g : ℕ) → item_from true ds g ≡ Some c → (s : Span) → item_from true ds g ≡ Some s → span_takes true cut s ≡ false
      behind g e s q = ap (span_takes true cut) (same_Some s c (sym q ∙ e)) ∙ last_beyond true cut f.near at w f.beyond f.run

      before : (g : ℕ) → item_from true ds g ≡ Some c → (s : Span) → item_from false ds g ≡ Some s → span_takes true cut s ≡ true
      before g e s q = go (span_takes true cut s) refl
        where
          go : (b : Bool) → span_takes true cut s ≡ b → b ≡ true
          go true r = refl
          go false r =
              let b = beyond true cut s (item_among false ds g s q) r in
              let x : lt b.key c.start ≡ true = lt_ge key_total b.key s.end c.start (within_parts s.start s.end b.key b.within_it).1 (next_to ds joined_sorted g s c q e) in
              absurd (true_false _ (f.bare b.over.place b.over.span b.past (over_before f.near at w f.run b.key b.over x) b.over.there) b.over.covered)
  found_some false cut at w f =
      let m : Among (as_span n (clipped o w)) ds = whole_is n o ss sorted at f.near w f.run bounds (closed false cut at w f) f.ends f.alone in
      let (k, e) = among_place ds (as_span n (clipped o w)) m in
      (m, ap (item_from false ds) (count_at (span_takes false cut) ds (spans-first false cut ds joined_sorted) (suc k) (item_within false ds (suc k) (as_span n (clipped o w)) e) (before k e) (behind k e)) ∙ e)
    where
      c : Span
      c = as_span n (clipped o w)

      before : (k : ℕ) → slice_get ds k ≡ Some c → (s : Span) → item_from false ds (suc k) ≡ Some s → span_takes false cut s ≡ true
      before k e s q = ap (span_takes false cut) (same_Some s c (sym q ∙ e)) ∙ last_beyond false cut f.near at w f.beyond f.run

      behind : (k : ℕ) → slice_get ds k ≡ Some c → (s : Span) → item_from true ds (suc k) ≡ Some s → span_takes false cut s ≡ false
      behind k e s q = go (span_takes false cut s) refl
        where
          go : (b : Bool) → span_takes false cut s ≡ b → b ≡ false
          go false r = refl
          go true r =
              let b = beyond false cut s (item_among true ds (suc k) s q) r in
              let x : lt b.key c.end ≡ false = ge_trans key_total b.key s.start c.end (within_parts s.start s.end b.key b.within_it).0 (next_to ds joined_sorted (suc k) c s e q) in
              absurd (true_false _ (f.bare b.over.place b.over.span (over_behind at f.near w f.run b.key b.over x) b.past b.over.there) b.over.covered)

  pub found_is : (forward : Bool) (cut : Cut (List ℕ)) (at : ℕ) (found : Option Span) → FoundAt forward n o cut ps at found → item_from forward ds (count_before (span_takes forward cut) ds) ≡ found
  found_is forward cut at found f = go f.run f.is f.there
    where
      go : (run : Option WidestSpan) → found ≡ option_map (λ w. as_span n (clipped o w)) run → Found forward n ps (sought forward cut) at run → item_from forward ds (count_before (span_takes forward cut) ds) ≡ found
      go None e there = found_none forward cut there ∙ sym e
      go (Some w) e there = (found_some forward cut at w there).1 ∙ sym e

  pub lent_is : (forward : Bool) (cut : Cut (List ℕ)) (at : ℕ) (c : Span) → FoundAt forward n o cut ps at (Some c) → (Among c ds) × IsLent forward n o ps at c
  lent_is forward cut at c f = go f.run f.is f.there
    where
      go : (run : Option WidestSpan) → Some c ≡ option_map (λ w. as_span n (clipped o w)) run → Found forward n ps (sought forward cut) at run → (Among c ds) × IsLent forward n o ps at c
      go None e there = cc
      go (Some w) e there =
          let is : c ≡ as_span n (clipped o w) = same_Some c (as_span n (clipped o w)) e in
          (subst (λ z. Among z ds) (sym is) (found_some forward cut at w there).0, record { near = there.near; whole = w; is = is; inside = closed forward cut at w there; run = there.run; alone = there.alone; ends = there.ends })
