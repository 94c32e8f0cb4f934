-- The gap at which a step leaves a span: that at the end of its run.
use Prim.Native.Nat.{zero, suc}
use Rattle.std.proofs.Common.{◌≡◌, ℕ, ◌<◌, Bool, true, false, not, List, length, Option, Some, None, is_some, option_map, refl, sym, ap, ◌∙◌, subst, arith, if◌then◌else◌}
use Rattle.std.specs.Prelude.{IsTrue, IfSome}
use Rattle.std.specs.List.{slice_get}
use Rattle.std.specs.Bool.{beq}
use Rattle.std.specs.Option.{option_map_or}
use Rattle.rk_model.specs.Lists.{Among}
use Rattle.rk_model.specs.Spans.{WidestSpan}
use Rattle.rk_model.specs.Cuts.{count_before, item_from}
use Rattle.rk_model.specs.Items.{span_takes, keyed_extents}
use Rattle.rk_model.specs.Standings.{Listing, Standing}
use Rattle.rk_model.specs.declared.cut.Cut.TheVariants.{Start, Below, End}
use Rattle.rk_model.specs.declared.span.Span.{Span}
use Rattle.rk_model.specs.declared.options.IterOptions.{IterOptions}
use Rattle.std.proofs.lemmas.Option.{slice_get_within, slice_get_past}
use Rattle.rk_model.proofs.Gaps.{past_none}
use Rattle.rk_model.proofs.Clips.{count_all, count_none}
use Rattle.rk_laws.proofs.Order.{key_total, lt_ge, ge_lt}
use Rattle.rk_laws.proofs.Ends.{lt}
use Rattle.rk_laws.proofs.Widest.{self}
use Rattle.rk_sources.specs.Bounds.{Bounding, between}
use Rattle.rk_span_laws.specs.Joined.{as_span}
use Rattle.rk_defrag.specs.Moves.{at_or_over, at_or_under, clip_end, clip_start, clipped, crosses, inner_cut, is_crossed, leaving_cut, lies_far, Arrives, Found, Gathered, Goes, IsLent, IsRun, IsWithin, RunOver, part, place}
use Rattle.rk_defrag.proofs.Runs.{no_cross, run_back, gathered_found}
use Rattle.rk_defrag.proofs.Places.{in_order, item_among, item_within, run_gap}
use Rattle.rk_defrag.proofs.Parts.{Meets, part_meets, part_sorted, xs}

module _ (xs : List Span) (sorted : IsTrue (keyed_extents xs)) where
  -- at a bound that cuts the run it is the last of the list, or the first
  run_last : (n near far : ℕ) (w : WidestSpan) (u : List ℕ) → ((t : Span) → Among t xs → lt t.start u ≡ true) → IsRun n xs near far w → lt w.end u ≡ false → far ≡ length xs
  run_last n near far w u high run cut = go (slice_get xs far) refl (run.edge true).there
    where
      beyond : (s t : Span) → s.end ≡ w.end → item_from false xs far ≡ Some s → slice_get xs far ≡ Some t → ⊥
      beyond s t end e f = go far e f
        where
          go : (g : ℕ) → item_from false xs g ≡ Some s → slice_get xs g ≡ Some t → ⊥
          go zero e f = cc
          go (suc k) e f =
              let a : lt t.start s.end ≡ false = in_order xs sorted k (suc k) s t (omega arith) e f in
              let b : lt t.start u ≡ true = high t (item_among true xs (suc k) t f) in
              let c : lt s.end u ≡ true = ge_lt key_total s.end t.start u a b in
              let d : lt s.end u ≡ false = ap (λ z. lt z u) end ∙ cut in
              cc

      go : (o : Option Span) → slice_get xs far ≡ o → item_from false xs far ≡ Some (run.edge true).span → far ≡ length xs
      go None e f = let h = past_none xs far e in (let le = item_within false xs far (run.edge true).span f in omega (arith, h, le))
      go (Some t) e f = absurd (beyond (run.edge true).span t (run.edge true).end f e)

  run_first : (n near far : ℕ) (w : WidestSpan) (l : List ℕ) → ((t : Span) → Among t xs → lt l t.end ≡ true) → IsRun n xs near far w → lt l w.start ≡ false → near ≡ 0
  run_first n near far w l low run cut = go near refl (run.edge false).there
    where
      go : (g : ℕ) → near ≡ g → item_from true xs near ≡ Some (run.edge false).span → near ≡ 0
      go zero q f = q
      go (suc k) q f = before (slice_get xs k) refl
        where
          s : Span
          s = (run.edge false).span

          here : slice_get xs (suc k) ≡ Some s
          here = ap (slice_get xs) (sym q) ∙ f

          before : (o : Option Span) → slice_get xs k ≡ o → near ≡ 0
          before None e = let h = past_none xs k e in (let le = item_within true xs (suc k) s here in absurd (omega (arith, h, le, inside)))
            where
              inside : suc k < length xs
              inside = slice_get_within xs (suc k) s here
          before (Some t) e =
              let a : lt s.start t.end ≡ false = in_order xs sorted k (suc k) t s (omega arith) e here in
              let b : lt l t.end ≡ true = low t (item_among true xs k t e) in
              let c : lt l s.start ≡ true = lt_ge key_total l t.end s.start b a in
              let d : lt l s.start ≡ false = ap (lt l) (run.edge false).end ∙ cut in
              cc

  pub count_end : (forward : Bool) → count_before (span_takes forward End) xs ≡ length xs
  count_end true = count_all (span_takes true End) xs (λ x. refl)
  count_end false = count_all (span_takes false End) xs (λ x. refl)

  pub count_start : (forward : Bool) → count_before (span_takes forward Start) xs ≡ 0
  count_start true = count_none (span_takes true Start) xs (λ x. refl)
  count_start false = count_none (span_takes false Start) xs (λ x. refl)

  high_gap : (n near far : ℕ) (w : WidestSpan) (u : Option (List ℕ)) → ((t : Span) → Among t xs → IfSome u (λ u. lt t.start u ≡ true)) → IsRun n xs near far w
      → count_before (span_takes true (if option_map_or (λ h. at_or_over h (Below (clip_end u w.end))) u false then End else Below (clip_end u w.end))) xs ≡ far
  high_gap n near far w None high run = run_gap xs sorted true n near far w run
  high_gap n near far w (Some u) high run = go (lt w.end u) refl
    where
      go : (b : Bool) → lt w.end u ≡ b → count_before (span_takes true (if not (lt (if b then w.end else u) u) then End else Below (if b then w.end else u))) xs ≡ far
      go true e = rw e (run_gap xs sorted true n near far w run)
      go false e = rw (self u) (count_end true ∙ sym (run_last n near far w u high run e))

  low_gap : (n near far : ℕ) (w : WidestSpan) (l : Option (List ℕ)) → ((t : Span) → Among t xs → IfSome l (λ l. lt l t.end ≡ true)) → IsRun n xs near far w
      → count_before (span_takes false (if option_map_or (λ h. at_or_under h (Below (clip_start l w.start))) l false then Start else Below (clip_start l w.start))) xs ≡ near
  low_gap n near far w None low run = run_gap xs sorted false n far near w run
  low_gap n near far w (Some l) low run = go (lt l w.start) refl
    where
      go : (b : Bool) → lt l w.start ≡ b → count_before (span_takes false (if not (lt l (if b then w.start else l)) then Start else Below (if b then w.start else l))) xs ≡ near
      go true e = rw e (run_gap xs sorted false n far near w run)
      go false e = rw (self l) (count_start false ∙ sym (run_first n near far w l low run e))

  -- a step leaves a span at the end of its run
  pub leaving_gap : (forward : Bool) (n : ℕ) (o : IterOptions) (near far : ℕ) (w : WidestSpan) → ((t : Span) → Among t xs → Meets o t) → is_crossed o ≡ false → RunOver forward n xs near far w
      → count_before (span_takes forward (inner_cut o forward (leaving_cut forward (Some (as_span n (clipped o w)))))) xs ≡ far
  leaving_gap true n o near far w reaches closed run = rw closed (high_gap n near far w o.upper (λ t m. (reaches t m).high) run)
  leaving_gap false n o near far w reaches closed run = rw closed (low_gap n far near w o.lower (λ t m. (reaches t m).low) run)

  -- no run goes on at the ends of the list
  end_alone : (n : ℕ) → crosses n xs (length xs) ≡ false
  end_alone n = no_cross true n xs (length xs) (slice_get_past xs (length xs) (omega arith))

  start_alone : (n : ℕ) → crosses n xs 0 ≡ false
  start_alone n = no_cross false n xs 0 refl

  pub outer_alone : (forward : Bool) (n : ℕ) (o : IterOptions) → crosses n xs (count_before (span_takes forward (inner_cut o forward (leaving_cut forward None))) xs) ≡ false
  outer_alone true n o = go (lies_far o true Start)
    where
      go : (b : Bool) → crosses n xs (count_before (span_takes true (if b then End else Start)) xs) ≡ false
      go true = ap (crosses n xs) (count_end true) ∙ end_alone n
      go false = ap (crosses n xs) (count_start true) ∙ start_alone n
  outer_alone false n o = go (lies_far o false End)
    where
      go : (b : Bool) → crosses n xs (count_before (span_takes false (if b then Start else End)) xs) ≡ false
      go true = ap (crosses n xs) (count_start false) ∙ start_alone n
      go false = ap (crosses n xs) (count_end false) ∙ end_alone n

pub same_way : (a b : Bool) → beq a b ≡ true → a ≡ b
same_way true true e = refl
same_way true false e = cc
same_way false true e = cc
same_way false false e = refl

pub other_way : (a b : Bool) → beq a b ≡ false → a ≡ not b
other_way true true e = cc
other_way true false e = refl
other_way false true e = refl
other_way false false e = cc

-- the part of a source's list within the bounds of the options
module _ {S : Type 0} (listing : S → Listing Span) (standing : S → Standing Span) (n : ℕ) (o : IterOptions) (b : Bounding S) (within : IsWithin o b) (ordered : IfSome (listing b.source).held (λ ss. IsTrue (keyed_extents ss))) where
  abbrev Told : (List Span → Type 0) → Type 0
  Told P = IfSome (part listing b).held P

  pub told_both : (P Q R : List Span → Type 0) → Told P → Told Q → ((ss : List Span) → IsTrue (keyed_extents ss) → P (xs o ss) → Q (xs o ss) → R (xs o ss)) → Told R
  told_both P Q R p q f = rw (within.lower, within.upper) (go (listing b.source).held ordered (rw (within.lower, within.upper) at p) (rw (within.lower, within.upper) at q))
    where
      go : (h : Option (List Span)) → IfSome h (λ ss. IsTrue (keyed_extents ss)) → IfSome (option_map (between span_takes o.lower o.upper) h) P → IfSome (option_map (between span_takes o.lower o.upper) h) Q → IfSome (option_map (between span_takes o.lower o.upper) h) R
      go None sorted p q = tt
      go (Some ss) sorted p q = f ss sorted p q

  pub told_from : (P : List Span → Type 0) → ((ss : List Span) → IsTrue (keyed_extents ss) → P (xs o ss)) → Told P
  told_from P f = rw (within.lower, within.upper) (go (listing b.source).held ordered)
    where
      go : (h : Option (List Span)) → IfSome h (λ ss. IsTrue (keyed_extents ss)) → IfSome (option_map (between span_takes o.lower o.upper) h) P
      go None sorted = tt
      go (Some ss) sorted = f ss sorted

  abbrev left_gap : Bool → Option Span → List Span → ℕ
  left_gap forward current xs = count_before (span_takes forward (inner_cut o forward (leaving_cut forward current))) xs

  -- the gap at the end of the run of the span that is lent
  left_is : (forward : Bool) (ss : List Span) (sorted : IsTrue (keyed_extents ss)) (c : Span) (near far : ℕ) (w : WidestSpan) → c ≡ as_span n (clipped o w) → is_crossed o ≡ false → RunOver forward n (xs o ss) near far w → left_gap forward (Some c) (xs o ss) ≡ far
  left_is forward ss sorted c near far w is closed run = rw is (leaving_gap (xs o ss) (part_sorted o ss sorted) forward n o near far w (part_meets o ss sorted) closed run)

  -- where it turns no run goes on
  pub turned_alone : (forward : Bool) (current : Option Span) → IfSome current (Arrives listing standing n o b (not forward)) → Told (λ xs. crosses n xs (left_gap forward current xs) ≡ false)
  turned_alone forward None arrives = told_from _ (λ ss sorted. outer_alone (xs o ss) (part_sorted o ss sorted) forward n o)
  turned_alone forward (Some c) arrives = told_both _ _ (λ xs. crosses n xs (left_gap forward (Some c) xs) ≡ false) arrives.lent arrives.lent (λ ss sorted lent _. go ss sorted (place listing standing b).gap arrives.faces.known lent)
    where
      go : (ss : List Span) → IsTrue (keyed_extents ss) → (p : Option ℕ) → is_some p ≡ true → IfSome p (λ at. IsLent (not forward) n o (xs o ss) at c) → crosses n (xs o ss) (left_gap forward (Some c) (xs o ss)) ≡ false
      go ss sorted None known lent = cc
      go ss sorted (Some at) known lent = ap (crosses n (xs o ss)) (left_is forward ss sorted c at lent.near lent.whole lent.is lent.inside (run_back forward n (xs o ss) at lent.near lent.whole lent.run)) ∙ lent.alone

  -- and where it goes on, the run has ended
  pub left_found : (forward : Bool) (c : Span) (found : Option WidestSpan) (q : Option ℕ) → Arrives listing standing n o b forward c → Goes (part listing b).held (place listing standing b).gap q (λ xs from at. Gathered forward n xs from at found)
      → Told (λ xs. IfSome q (λ at. Found forward n xs (left_gap forward (Some c) xs) at found))
  left_found forward c found q arrives goes = told_both _ _ (λ xs. IfSome q (λ at. Found forward n xs (left_gap forward (Some c) xs) at found)) arrives.lent goes (λ ss sorted lent gathered. go ss sorted (place listing standing b).gap arrives.faces.known q lent gathered)
    where
      go : (ss : List Span) → IsTrue (keyed_extents ss) → (p : Option ℕ) → is_some p ≡ true → (q : Option ℕ) → IfSome p (λ at. IsLent forward n o (xs o ss) at c) → IfSome p (λ from. IfSome q (λ at. Gathered forward n (xs o ss) from at found))
          → IfSome q (λ at. Found forward n (xs o ss) (left_gap forward (Some c) (xs o ss)) at found)
      go ss sorted None known q lent gathered = cc
      go ss sorted (Some g) known None lent gathered = tt
      go ss sorted (Some g) known (Some at) lent gathered =
          subst (λ k. Found forward n (xs o ss) k at found) (sym (left_is forward ss sorted c lent.near g lent.whole lent.is lent.inside lent.run)) (gathered_found forward n (xs o ss) g at found gathered lent.ends)
