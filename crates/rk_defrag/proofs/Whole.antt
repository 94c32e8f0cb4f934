-- A whole run within the bounds is a widest span.
use Prim.Native.Nat.{zero, suc}
use Rattle.std.proofs.Common.{◌≡◌, ◌≢◌, ℕ, ◌+◌, ◌-◌, ◌≤◌, Bool, true, false, not, List, [], ◌∷◌, Option, Some, None, refl, sym, ap, ◌∙◌, subst, arith, if◌then◌else◌}
use Rattle.std.specs.Prelude.{IsTrue, IfSome}
use Rattle.std.specs.Option.{option_map_or}
use Rattle.std.specs.Ordering.{is_eq, is_lt}
use Rattle.std.proofs.lemmas.Bool.{and_parts}
use Rattle.std.proofs.lemmas.Cmp.{tied_itself, tied_back}
use Rattle.std.proofs.lemmas.Option.{same_Some}
use Rattle.rk_key.specs.Keys.{key_cmp}
use Rattle.rk_model.specs.Lists.{Among, none_of}
use Rattle.rk_model.specs.Covers.{upto}
use Rattle.rk_model.specs.Spans.{at_or_above, same_cover, WidestSpan}
use Rattle.rk_model.specs.Cuts.{count_before, item_from}
use Rattle.rk_model.specs.Items.{span_beside, keyed_extents}
use Rattle.rk_model.specs.declared.op.Entry.{Entry}
use Rattle.rk_model.specs.declared.span.SuffixValue.{SuffixValue}
use Rattle.rk_model.specs.declared.span.Span.{Span}
use Rattle.rk_model.specs.declared.options.IterOptions.{IterOptions}
use Rattle.rk_laws.specs.SameCells.{KeyBounds}
use Rattle.rk_laws.proofs.Order.{key_total, lt_back, lt_trans, ge_lt, eq_is}
use Rattle.rk_laws.proofs.Ends.{lt}
use Rattle.rk_laws.proofs.Widest.{same_cover_from, cover_same, self}
use Rattle.rk_span_laws.specs.Joined.{entries_of, as_span, joined}
use Rattle.rk_span_laws.proofs.Covers.{extent_of, span_has_its_cover}
use Rattle.rk_span_laws.proofs.Joins.{HasOne, one_meets, one_inside, edge, Reaches, at_bound, at_span, joined_has}
use Rattle.rk_defrag.specs.Defrags.{left_end}
use Rattle.rk_defrag.specs.Moves.{cover_at, far_end, touches, joins, crosses, clip_start, clip_end, clipped, is_crossed, IsRun, RunOver}
use Rattle.rk_defrag.proofs.Runs.{crosses_is}
use Rattle.rk_defrag.proofs.Places.{gap_of, item_among, item_place, proper_at, run_gap}
use Rattle.rk_defrag.proofs.Parts.{Meets, part_among, part_from, part_meets, part_sorted, xs}

true_false : (b : Bool) → b ≡ true → b ≡ false → ⊥
true_false b p q = cc

-- a run that crosses a gap has a span on either side
record Crosses (n : ℕ) (ps : List Span) (g : ℕ) (s : Span) : Type 0 where
  next : Span
  there : item_from true ps g ≡ Some next
  joins : joins n s next ≡ true

crossed : (n : ℕ) (ps : List Span) (g : ℕ) (s : Span) → item_from false ps g ≡ Some s → crosses n ps g ≡ true → Crosses n ps g s
crossed n ps g s e h = go (item_from true ps g) refl (rw e at h)
  where
    go : (q : Option Span) → item_from true ps g ≡ q → option_map_or (λ t. joins n s t) q false ≡ true → Crosses n ps g s
    go None f h = cc
    go (Some t) f h = record { next = t; there = f; joins = h }

touching : (x y : List ℕ) → is_eq (key_cmp x y) ≡ true → lt x y ≡ false
touching x y e = ap is_lt (eq_is key_total x y e)

touching_back : (x y : List ℕ) → is_eq (key_cmp x y) ≡ true → lt y x ≡ false
touching_back x y e = ap is_lt (tied_back key_total x y (eq_is key_total x y e))

touches_itself : (forward : Bool) (w : WidestSpan) (t : Span) → left_end (not forward) t ≡ far_end forward w → touches forward w t ≡ true
touches_itself true w t e = rw (e, tied_itself key_total w.end) refl
touches_itself false w t e = rw (e, tied_itself key_total w.start) refl

some_cover : (ps : List SuffixValue) → none_of ps ≡ false → ps ≢ []
some_cover [] h e = cc
some_cover (p ∷ ps) h e = cc

module _ (n : ℕ) (o : IterOptions) (ss : List Span) (sorted : IsTrue (keyed_extents ss)) where
  abbrev es : List Entry
  es = upto n (entries_of ss)

  abbrev ps : List Span
  ps = xs o ss

  up : IsTrue (keyed_extents ps)
  up = part_sorted o ss sorted

  span_has : (t : Span) → Among t ps → HasOne es (cover_at n t) t.start t.end
  span_has t m y w = span_has_its_cover n ss sorted t y (part_among o ss sorted t m) w

  module _ (low high : ℕ) (w : WidestSpan) (run : IsRun n ps low high w) where
    -- the run up to a gap within it
    record RunTo (g : ℕ) : Type 0 where
      span : Span
      there : item_from false ps g ≡ Some span
      has : cover_at n span ≡ w.cover
      proper : lt w.start span.end ≡ true
      one : HasOne es w.cover w.start span.end

    run_to : (d : ℕ) → low + suc d ≤ high → RunTo (low + suc d)
    run_to zero le =
        let b = run.edge false in
        let m = item_among true ps low b.span b.there in
        let q : low + 1 ≡ suc low = omega arith in
        record {
          span = b.span;
          there = ap (item_from false ps) q ∙ b.there;
          has = b.has;
          proper = ap (λ z. lt z b.span.end) (sym b.end) ∙ proper_at ps up b.span m;
          one = subst (λ z. HasOne es w.cover z b.span.end) b.end (subst (λ c. HasOne es c b.span.start b.span.end) b.has (span_has b.span m));
        }
    run_to (suc d) le =
        let r = run_to d (omega (arith, le)) in
        let k = crossed n ps (low + suc d) r.span r.there (run.one (low + suc d) (omega arith) (omega (arith, le))) in
        let m = item_among true ps (low + suc d) k.next k.there in
        let parts = and_parts (is_eq (key_cmp r.span.end k.next.start)) (same_cover (cover_at n r.span) (cover_at n k.next)) k.joins in
        let has : cover_at n k.next ≡ w.cover = sym (cover_same (cover_at n r.span) (cover_at n k.next) parts.1) ∙ r.has in
        let next = touching r.span.end k.next.start parts.0 in
        let q : low + suc (suc d) ≡ suc (low + suc d) = omega arith in
        let back : lt k.next.start r.span.end ≡ false = touching_back r.span.end k.next.start parts.0 in
        record {
          span = k.next;
          there = ap (item_from false ps) q ∙ k.there;
          has = has;
          proper = lt_trans key_total w.start r.span.end k.next.end r.proper (ge_lt key_total r.span.end k.next.start k.next.end back (proper_at ps up k.next m));
          one = one_meets es w.cover w.start r.span.end k.next.end r.one (one_inside es w.cover k.next.start k.next.end r.span.end k.next.end next (self k.next.end) (subst (λ c. HasOne es c k.next.start k.next.end) has (span_has k.next m)));
        }

    run_end : RunTo high
    run_end = let p = run.proper in (let q : low + suc (high - low - 1) ≡ high = omega (arith, p) in subst RunTo q (run_to (high - low - 1) (omega (arith, q))))

    end_is : run_end.span.end ≡ w.end
    end_is = let b = run.edge true in ap (λ (t : Span). t.end) (same_Some run_end.span b.span (sym run_end.there ∙ b.there)) ∙ b.end

    run_proper : lt w.start w.end ≡ true
    run_proper = ap (lt w.start) (sym end_is) ∙ run_end.proper

    run_has : HasOne es w.cover w.start w.end
    run_has = subst (HasOne es w.cover w.start) end_is run_end.one

    first_meets : Meets o (run.edge false).span
    first_meets = part_meets o ss sorted (run.edge false).span (item_among true ps low (run.edge false).span (run.edge false).there)

    last_meets : Meets o (run.edge true).span
    last_meets = part_meets o ss sorted (run.edge true).span (item_among false ps high (run.edge true).span (run.edge true).there)

    start_high : IfSome o.upper (λ u. lt w.start u ≡ true)
    start_high = subst (λ z. IfSome o.upper (λ u. lt z u ≡ true)) (run.edge false).end first_meets.high

    end_low : IfSome o.lower (λ l. lt l w.end ≡ true)
    end_low = subst (λ z. IfSome o.lower (λ l. lt l z ≡ true)) (run.edge true).end last_meets.low

    -- the run within the bounds
    clip_proper : is_crossed o ≡ false → lt (clip_start o.lower w.start) (clip_end o.upper w.end) ≡ true
    clip_proper closed = go o.lower o.upper closed end_low start_high
      where
        go : (l u : Option (List ℕ)) → option_map_or (λ l. option_map_or (λ u. not (lt l u)) u false) l false ≡ false → IfSome l (λ l. lt l w.end ≡ true) → IfSome u (λ u. lt w.start u ≡ true) → lt (clip_start l w.start) (clip_end u w.end) ≡ true
        go None None closed low high = run_proper
        go None (Some u) closed low high = pick (lt w.end u)
          where
            pick : (b : Bool) → lt w.start (if b then w.end else u) ≡ true
            pick true = run_proper
            pick false = high
        go (Some l) None closed low high = pick (lt l w.start)
          where
            pick : (b : Bool) → lt (if b then w.start else l) w.end ≡ true
            pick true = run_proper
            pick false = low
        go (Some l) (Some u) closed low high = pick (lt l w.start) (lt w.end u)
          where
            flip : (b : Bool) → not b ≡ false → b ≡ true
            flip true e = refl
            flip false e = cc

            pick : (b c : Bool) → lt (if b then w.start else l) (if c then w.end else u) ≡ true
            pick true true = run_proper
            pick true false = high
            pick false true = low
            pick false false = flip (lt l u) closed

    clip_low : (l : Option (List ℕ)) → (at_or_above l (clip_start l w.start) ≡ true) × (lt (clip_start l w.start) w.start ≡ false)
    clip_low None = (refl, self w.start)
    clip_low (Some l) = go (lt l w.start) refl
      where
        go : (b : Bool) → lt l w.start ≡ b → (not (lt (if b then w.start else l) l) ≡ true) × (lt (if b then w.start else l) w.start ≡ false)
        go true e = (ap not (lt_back key_total l w.start e), self w.start)
        go false e = (ap not (self l), e)

    clip_high : (u : Option (List ℕ)) → IfSome u (λ u. lt u (clip_end (Some u) w.end) ≡ false) × (lt w.end (clip_end u w.end) ≡ false)
    clip_high None = (tt, self w.end)
    clip_high (Some u) = go (lt w.end u) refl
      where
        go : (b : Bool) → lt w.end u ≡ b → (lt u (if b then w.end else u) ≡ false) × (lt w.end (if b then w.end else u) ≡ false)
        go true e = (lt_back key_total w.end u e, self w.end)
        go false e = (self u, e)

  -- a span with its cover that touches the run at an end is one at the gap there
  touching_crosses : (forward : Bool) (near far : ℕ) (w : WidestSpan) → RunOver forward n ps near far w → (t : Span) → Among t ss → Meets o t → left_end (not forward) t ≡ far_end forward w → cover_at n t ≡ w.cover → crosses n ps far ≡ true
  touching_crosses forward near far w run t m meets e has =
      let (k, there) = part_from o ss sorted t m meets in
      let (g, here) = item_place forward ps k t there in
      let q : g ≡ far = sym (gap_of ps up forward g t here) ∙ ap (λ z. count_before (span_beside forward z) ps) e ∙ run_gap ps up forward n near far w run in
      crosses_is forward n ps near far w t run (ap (item_from forward ps) (sym q) ∙ here) ∙ rw (touches_itself forward w t e) (same_cover_from w.cover (cover_at n t) (sym has))

  -- so the run within the bounds ends at a bound, or where no span with its cover goes on
  module _ (low high : ℕ) (w : WidestSpan) (run : IsRun n ps low high w) where
    off_end : crosses n ps high ≡ false → IfSome o.upper (λ u. lt w.end u ≡ true) → (t : Span) → Among t ss → t.start ≡ w.end → cover_at n t ≢ w.cover
    off_end alone inside t m e has = true_false _ (touching_crosses true low high w run t m (record { low = low_meets o.lower (end_low low high w run); high = subst (λ z. IfSome o.upper (λ u. lt z u ≡ true)) (sym e) inside }) e has) alone
      where
        low_meets : (l : Option (List ℕ)) → IfSome l (λ l. lt l w.end ≡ true) → IfSome l (λ l. lt l t.end ≡ true)
        low_meets None h = tt
        low_meets (Some l) h = lt_trans key_total l w.end t.end h (ap (λ z. lt z t.end) (sym e) ∙ (extent_of ss sorted t m).proper)

    off_start : crosses n ps low ≡ false → IfSome o.lower (λ l. lt l w.start ≡ true) → (t : Span) → Among t ss → t.end ≡ w.start → cover_at n t ≢ w.cover
    off_start alone inside t m e has = true_false _ (touching_crosses false high low w run t m (record { low = subst (λ z. IfSome o.lower (λ l. lt l z ≡ true)) (sym e) inside; high = high_meets o.upper (start_high low high w run) }) e has) alone
      where
        high_meets : (u : Option (List ℕ)) → IfSome u (λ u. lt w.start u ≡ true) → IfSome u (λ u. lt t.start u ≡ true)
        high_meets None h = tt
        high_meets (Some u) h = lt_trans key_total t.start w.start u (ap (lt t.start) (sym e) ∙ (extent_of ss sorted t m).proper) h

    at_end : (u : Option (List ℕ)) → o.upper ≡ u → crosses n ps high ≡ false → edge true (clipped o w) ≡ clip_end u w.end → Reaches n o ss (clipped o w) true
    at_end None e alone is = let b = run.edge true in at_span b.span (part_among o ss sorted b.span (item_among false ps high b.span b.there)) (b.end ∙ sym is) b.has (λ t m f. off_end alone (rw e tt) t m (f ∙ is))
    at_end (Some u) e alone is = go (lt w.end u) refl
      where
        go : (c : Bool) → lt w.end u ≡ c → Reaches n o ss (clipped o w) true
        go true q =
            let b = run.edge true in
            let f : edge true (clipped o w) ≡ w.end = is ∙ ap (λ c. if c then w.end else u) q in
            at_span b.span (part_among o ss sorted b.span (item_among false ps high b.span b.there)) (b.end ∙ sym f) b.has (λ t m k. off_end alone (rw e q) t m (k ∙ f))
        go false q = let f : edge true (clipped o w) ≡ u = is ∙ ap (λ c. if c then w.end else u) q in at_bound (e ∙ ap (λ z. Some z) (sym f))

    at_start : (l : Option (List ℕ)) → o.lower ≡ l → crosses n ps low ≡ false → edge false (clipped o w) ≡ clip_start l w.start → Reaches n o ss (clipped o w) false
    at_start None e alone is = let b = run.edge false in at_span b.span (part_among o ss sorted b.span (item_among true ps low b.span b.there)) (b.end ∙ sym is) b.has (λ t m f. off_start alone (rw e tt) t m (f ∙ is))
    at_start (Some l) e alone is = go (lt l w.start) refl
      where
        go : (c : Bool) → lt l w.start ≡ c → Reaches n o ss (clipped o w) false
        go true q =
            let b = run.edge false in
            let f : edge false (clipped o w) ≡ w.start = is ∙ ap (λ c. if c then w.start else l) q in
            at_span b.span (part_among o ss sorted b.span (item_among true ps low b.span b.there)) (b.end ∙ sym f) b.has (λ t m k. off_start alone (rw e q) t m (k ∙ f))
        go false q = let f : edge false (clipped o w) ≡ l = is ∙ ap (λ c. if c then w.start else l) q in at_bound (e ∙ ap (λ z. Some z) (sym f))

    -- and is a widest span
    pub whole_is : KeyBounds o → is_crossed o ≡ false → crosses n ps low ≡ false → crosses n ps high ≡ false → Among (as_span n (clipped o w)) (joined n o ss)
    whole_is bounds closed alone ends = joined_has n o ss bounds sorted (clipped o w) (record {
      proper = clip_proper low high w run closed;
      some = some_cover w.cover run.some;
      low = (clip_low low high w run o.lower).0;
      high = high_ok o.upper refl;
      one = one_inside es w.cover w.start w.end (clip_start o.lower w.start) (clip_end o.upper w.end) (clip_low low high w run o.lower).1 (clip_high low high w run o.upper).1 (run_has low high w run);
      reaches = λ forward. reaches forward;
    })
      where
        high_ok : (u : Option (List ℕ)) → o.upper ≡ u → IfSome o.upper (λ u. lt u (clip_end o.upper w.end) ≡ false)
        high_ok None e = rw e tt
        high_ok (Some u) e = rw e ((clip_high low high w run (Some u)).0)

        reaches : (forward : Bool) → Reaches n o ss (clipped o w) forward
        reaches true = at_end o.upper refl ends refl
        reaches false = at_start o.lower refl alone refl
