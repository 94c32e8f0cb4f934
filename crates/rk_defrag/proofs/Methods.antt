-- Where the widest spans of a source stand after a call.
use Rattle.std.proofs.Common.{◌≡◌, ℕ, ◌+◌, ◌<◌, ◌≤◌, Bool, true, false, not, ◌&&◌, ◌||◌, List, length, Option, Some, None, is_some, option_map, unwrap_or, Ok, refl, sym, ap, ◌∙◌, subst, arith, if◌then◌else◌}
use Rattle.std.specs.Prelude.{IsTrue, IfSome, option_and_then}
use Rattle.std.proofs.lemmas.Bool.{true≢false}
use Rattle.std.proofs.lemmas.Option.{slice_get_past}
use Rattle.rk_model.specs.Lists.{Among}
use Rattle.rk_model.specs.Cuts.{count_before, item_from, gap_on}
use Rattle.rk_model.specs.Items.{span_takes, keyed_extents, sound}
use Rattle.rk_model.specs.Standings.{Listing, Standing, Leads, agree, can_step, step_gap}
use Rattle.rk_model.specs.declared.cut.Cut.{Cut}
use Rattle.rk_model.specs.declared.span.Span.{Span}
use Rattle.rk_model.specs.declared.options.IterOptions.{IterOptions}
use Rattle.rk_model.proofs.Gaps.{cut_within}
use Rattle.rk_model.proofs.Passing.{agree_same}
use Rattle.rk_sources.specs.Bounds.{Bounding, Keeps, between}
use Rattle.rk_span_laws.specs.Joined.{joined}
use Rattle.rk_defrag.specs.Defrags.{Defragging, defragged, defrags, defrag_stands, gap_from, lent, lent_gap, lent_here}
use Rattle.rk_defrag.specs.DefragLaws.{defragged-ordered}
use Rattle.rk_defrag.specs.Moves.{Arrives, FoundAt, IsDefragging, IsFacing, IsLent, IsWithin, leaving_cut, part, place}
use Rattle.rk_defrag.proofs.Parts.{xs}
use Rattle.rk_defrag.proofs.Places.{gap_behind, gap_seen, item_behind, seen_back}
use Rattle.rk_defrag.proofs.Leaving.{count_end, count_start, told_both}
use Rattle.rk_defrag.proofs.Found.{found_is, lent_is}
use Rattle.rk_defrag.proofs.Walks.{keeps_part}

-- no span is seen from the end of a direction
none_seen : (forward : Bool) (ds : List Span) → item_from forward ds (gap_from forward ds None) ≡ None
none_seen true ds = slice_get_past ds (length ds) (omega arith)
none_seen false ds = refl

-- what is seen from the gap of what is lent is that
pub lent_seen : (forward : Bool) (ds : List Span) → IsTrue (keyed_extents ds) → (c : Option Span) → IfSome c (λ s. Among s ds) → item_from forward ds (gap_from forward ds c) ≡ c
lent_seen forward ds sorted None m = none_seen forward ds
lent_seen forward ds sorted (Some c) m = seen_back ds sorted forward c m

-- the widest spans that are told, where the list is
pub sound_told : (P : List Span → Type 0) (ds : List Span) → (IsTrue (keyed_extents ds) → P ds) → IfSome (sound keyed_extents ds) P
sound_told P ds f = go (keyed_extents ds) refl
  where
    go : (b : Bool) → keyed_extents ds ≡ b → IfSome (if b then Some ds else None) P
    go true e = f e
    go false e = tt

-- the gap to which a step goes
pub gap_left : (was forward : Bool) (ds : List Span) → IsTrue (keyed_extents ds) → (c : Option Span) → IfSome c (λ s. Among s ds) → (is_some c || not (agree forward was)) ≡ true
    → count_before (span_takes forward (leaving_cut forward c)) ds ≡ (if agree forward was then gap_on forward (gap_from was ds c) else gap_from was ds c)
gap_left true true ds sorted None m can = cc
gap_left false false ds sorted None m can = cc
gap_left true false ds sorted None m can = count_end ds sorted false
gap_left false true ds sorted None m can = count_start ds sorted true
gap_left true true ds sorted (Some c) m can = gap_behind ds sorted true (gap_on true (gap_from true ds (Some c))) c (item_behind true ds (gap_from true ds (Some c)) c (seen_back ds sorted true c m))
gap_left false false ds sorted (Some c) m can = gap_behind ds sorted false (gap_on false (gap_from false ds (Some c))) c (item_behind false ds (gap_from false ds (Some c)) c (seen_back ds sorted false c m))
gap_left true false ds sorted (Some c) m can = gap_behind ds sorted false (gap_from true ds (Some c)) c (seen_back ds sorted true c m)
gap_left false true ds sorted (Some c) m can = gap_behind ds sorted true (gap_from false ds (Some c)) c (seen_back ds sorted false c m)

pub if_held : {A : Type 0} (h : Option A) (P : A → Type 0) → ((x : A) → P x) → IfSome h P
if_held None P f = tt
if_held (Some x) P f = f x

module _ {S : Type 0} (listing : S → Listing Span) (standing : S → Standing Span) where
  -- a told list of the widest spans is that of a told list
  list_told : (l : Listing Span) (n : ℕ) (o : IterOptions) (P : List Span → Type 0) → IfSome l.held (λ ss. IsTrue (keyed_extents (joined n o ss)) → P (joined n o ss)) → IfSome (defragged n o l).held P
  list_told l n o P f = go l.held f
    where
      go : (h : Option (List Span)) → IfSome h (λ ss. IsTrue (keyed_extents (joined n o ss)) → P (joined n o ss)) → IfSome (option_and_then (λ ss. sound keyed_extents (joined n o ss)) h) P
      go None f = tt
      go (Some ss) f = sound_told P (joined n o ss) f

  pub among_told : (l : Listing Span) (n : ℕ) (o : IterOptions) (c : Span) → IfSome l.held (λ ss. Among c (joined n o ss)) → IfSome (defragged n o l).held (λ ds. IsTrue (keyed_extents ds) × Among c ds)
  among_told l n o c m = list_told l n o (λ ds. IsTrue (keyed_extents ds) × Among c ds) (go l.held m)
    where
      go : (h : Option (List Span)) → IfSome h (λ ss. Among c (joined n o ss)) → IfSome h (λ ss. IsTrue (keyed_extents (joined n o ss)) → IsTrue (keyed_extents (joined n o ss)) × Among c (joined n o ss))
      go None m = tt
      go (Some ss) m = λ sorted. (sorted, m)

  -- what a call found, and where the source stands then
  module _ (n : ℕ) (o : IterOptions) (b b' : Bounding S) (within : IsWithin o b) (ordered : IfSome (listing b.source).held (λ ss. IsTrue (keyed_extents ss))) (kept : Keeps listing b b') (forward : Bool) (faces : IsFacing forward (place listing standing b'))
      (cut : Cut (List ℕ)) (found : Option Span) (there : IfSome (part listing b).held (λ xs. IfSome (place listing standing b').gap (λ at. FoundAt forward n o cut xs at found))) where
    -- of the list that is told
    from_told : (R : List Span → Type 0) → ((ss : List Span) → IsTrue (keyed_extents ss) → (at : ℕ) → FoundAt forward n o cut (xs o ss) at found → R ss) → IfSome (listing b.source).held R
    from_told R f = go (listing b.source).held ordered (rw (within.lower, within.upper) at there)
      where
        inner : (ss : List Span) → IsTrue (keyed_extents ss) → (p : Option ℕ) → is_some p ≡ true → IfSome p (λ at. FoundAt forward n o cut (xs o ss) at found) → R ss
        inner ss sorted None known h = cc
        inner ss sorted (Some at) known h = f ss sorted at h

        go : (h : Option (List Span)) → IfSome h (λ ss. IsTrue (keyed_extents ss)) → IfSome (option_map (between span_takes o.lower o.upper) h) (λ xs. IfSome (place listing standing b').gap (λ at. FoundAt forward n o cut xs at found)) → IfSome h R
        go None sorted h = tt
        go (Some ss) sorted h = inner ss sorted (place listing standing b').gap faces.known h

    pub within_now : IsWithin o b'
    within_now = record { lower = kept.lower ∙ within.lower; upper = kept.upper ∙ within.upper; keys = within.keys }

    pub arrives_now : IfSome found (Arrives listing standing n o b' forward)
    arrives_now = go found refl
      where
        go : (q : Option Span) → found ≡ q → IfSome q (Arrives listing standing n o b' forward)
        go None e = tt
        go (Some c) e = record {
          faces = faces;
          lent = subst (λ l. IfSome l.held (λ xs. IfSome (place listing standing b').gap (λ at. IsLent forward n o xs at c))) (sym (keeps_part listing standing b b' kept))
              (told_both listing standing n o b within ordered (λ xs. IfSome (place listing standing b').gap (λ at. FoundAt forward n o cut xs at found)) (λ xs. IfSome (place listing standing b').gap (λ at. FoundAt forward n o cut xs at found)) (λ xs. IfSome (place listing standing b').gap (λ at. IsLent forward n o xs at c)) there there
              (λ ss sorted h _. one ss sorted (place listing standing b').gap h));
          among = subst (λ l. IfSome l.held (λ ss. Among c (joined n o ss))) (sym kept.same) (from_told (λ ss. Among c (joined n o ss)) (λ ss sorted at h. (lent_is n o ss within.keys sorted forward cut at c (subst (FoundAt forward n o cut (xs o ss) at) e h)).0));
        }
          where
            one : (ss : List Span) → IsTrue (keyed_extents ss) → (p : Option ℕ) → IfSome p (λ at. FoundAt forward n o cut (xs o ss) at found) → IfSome p (λ at. IsLent forward n o (xs o ss) at c)
            one ss sorted None h = tt
            one ss sorted (Some at) h = (lent_is n o ss within.keys sorted forward cut at c (subst (FoundAt forward n o cut (xs o ss) at) e h)).1

    pub found_stands : IsDefragging listing standing (record { source = b'; n = n; options = o; current = found; facing = Some forward })
    found_stands = record { within = within_now; known = go found; arrives = arrives_now }
      where
        go : (q : Option Span) → IfSome q (λ c. true ≡ true)
        go None = tt
        go (Some c) = refl

    pub gap_now : IfSome (defragged n o (listing b.source)).held (λ ds. gap_from forward ds found ≡ count_before (span_takes forward cut) ds)
    gap_now = list_told (listing b.source) n o (λ ds. gap_from forward ds found ≡ count_before (span_takes forward cut) ds) (from_told (λ ss. IsTrue (keyed_extents (joined n o ss)) → gap_from forward (joined n o ss) found ≡ count_before (span_takes forward cut) (joined n o ss))
        (λ ss sorted at h up. gap_seen (joined n o ss) up forward (count_before (span_takes forward cut) (joined n o ss)) (cut_within (span_takes forward cut) (joined n o ss)) found (found_is n o ss within.keys sorted forward cut at found h)))

    -- so the call leads to that gap
    pub leads_now : (current : Option Span) (facing : Option Bool) (to : List Span → Option ℕ) → IfSome (defragged n o (listing b.source)).held (λ ds. Some (count_before (span_takes forward cut) ds) ≡ to ds)
        → Leads {T = Unit {0}} (defrags listing (record { source = b; n = n; options = o; current = current; facing = facing })) (defrags listing (record { source = b'; n = n; options = o; current = found; facing = Some forward }))
        (defrag_stands listing standing (record { source = b'; n = n; options = o; current = found; facing = Some forward })) forward to (Ok tt)
    leads_now current facing to goes = record {
      same = ap (defragged n o) kept.same;
      there = subst (λ l. IfSome (defragged n o (listing b.source)).held (λ ds. Some (lent_gap (defragged n o l).held forward found) ≡ to ds)) (sym kept.same) (go (defragged n o (listing b.source)).held gap_now goes);
      known = refl;
      faces = refl;
      lost = tt;
    }
      where
        go : (h : Option (List Span)) → IfSome h (λ ds. gap_from forward ds found ≡ count_before (span_takes forward cut) ds) → IfSome h (λ ds. Some (count_before (span_takes forward cut) ds) ≡ to ds) → IfSome h (λ ds. Some (lent_gap h forward found) ≡ to ds)
        go None g e = tt
        go (Some ds) g e = ap (λ k. Some k) g ∙ e

  module _ (d : Defragging S) (is : IsDefragging listing standing d) where
    lent_among : (forward : Bool) → d.facing ≡ Some forward → (c : Option Span) → d.current ≡ c → IfSome (defrags listing d).held (λ ds. IfSome c (λ s. IsTrue (keyed_extents ds) × Among s ds))
    lent_among forward e None q = none (defrags listing d).held
      where
        none : (h : Option (List Span)) → IfSome h (λ ds. IfSome None (λ s. IsTrue (keyed_extents ds) × Among s ds))
        none None = tt
        none (Some ds) = tt
    lent_among forward e (Some c) q = among_told (listing d.source.source) d.n d.options c (rw (e, q) at is.arrives).among

    -- what is seen is the span that is lent
    pub here_is : (defrag_stands listing standing d).here ≡ d.current
    here_is = go d.facing refl d.current refl is.known
      where
        told : (forward : Bool) (h : Option (List Span)) (c : Option Span) → IfSome h (λ ds. IfSome c (λ s. IsTrue (keyed_extents ds) × Among s ds)) → lent_here h forward c ≡ c
        told forward None c m = refl
        told forward (Some ds) None m = none_seen forward ds
        told forward (Some ds) (Some c) m = seen_back ds m.0 forward c m.1

        go : (f : Option Bool) → d.facing ≡ f → (c : Option Span) → d.current ≡ c → IfSome d.current (λ c. is_some d.facing ≡ true) → option_and_then (λ forward. lent_here (defrags listing d).held forward c) f ≡ c
        go None e None q known = refl
        go None e (Some c) q known = let h : is_some d.facing ≡ true = (rw q at known) in absurd (true≢false (sym h ∙ ap is_some e))
        go (Some forward) e c q known = told forward (defrags listing d).held c (lent_among forward e c q)

    -- it arrives at that in the direction that is faced
    pub arrives_at : (forward : Bool) → IfSome d.current (Arrives listing standing d.n d.options d.source (unwrap_or d.facing forward))
    arrives_at forward = go d.facing refl d.current refl
      where
        go : (f : Option Bool) → d.facing ≡ f → (c : Option Span) → d.current ≡ c → IfSome c (Arrives listing standing d.n d.options d.source (unwrap_or f forward))
        go f e None q = tt
        go None e (Some c) q = let h : is_some d.facing ≡ true = (rw q at is.known) in absurd (true≢false (sym h ∙ ap is_some e))
        go (Some was) e (Some c) q = rw (e, q) at is.arrives

    -- what a step may do
    pub can : (forward : Bool) → IsTrue (can_step forward (defrag_stands listing standing d)) → (was : Bool) × (d.facing ≡ Some was) × ((is_some d.current || not (agree forward was)) ≡ true)
    can forward able = go d.facing refl here_is able
      where
        go : (f : Option Bool) → d.facing ≡ f → (defrag_stands listing standing d).here ≡ d.current
            → (is_some (option_map (λ forward. lent_gap (defrags listing d).held forward d.current) f) && (is_some (defrag_stands listing standing d).here || not (agree forward (unwrap_or f true)))) ≡ true
            → (was : Bool) × (d.facing ≡ Some was) × ((is_some d.current || not (agree forward was)) ≡ true)
        go None e h able = cc
        go (Some was) e h able = (was, e, rw h at able)

    -- the gap to which a step goes
    pub step_goes : (forward : Bool) → IsTrue (can_step forward (defrag_stands listing standing d))
        → IfSome (defrags listing d).held (λ ds. Some (count_before (span_takes forward (leaving_cut forward d.current)) ds) ≡ option_map (step_gap forward (defrag_stands listing standing d)) (defrag_stands listing standing d).gap)
    step_goes forward able =
        let (was, faces, may) = can forward able in
        rw faces (go was (defrags listing d).held refl (lent_among was faces d.current refl) may (ordered_told (defrags listing d).held refl))
      where
        ordered_told : (h : Option (List Span)) → (defrags listing d).held ≡ h → IfSome h (λ ds. IsTrue (keyed_extents ds))
        ordered_told h e = subst (λ k. IfSome k (λ ds. IsTrue (keyed_extents ds))) e (defragged-ordered d.n d.options (listing d.source.source))

        go : (was : Bool) (h : Option (List Span)) → (defrags listing d).held ≡ h → IfSome h (λ ds. IfSome d.current (λ s. IsTrue (keyed_extents ds) × Among s ds)) → (is_some d.current || not (agree forward was)) ≡ true → IfSome h (λ ds. IsTrue (keyed_extents ds))
            → IfSome h (λ ds. Some (count_before (span_takes forward (leaving_cut forward d.current)) ds) ≡ Some (if agree forward was then gap_on forward (lent_gap h was d.current) else lent_gap h was d.current))
        go was None e m may sorted = tt
        go was (Some ds) e m may sorted = ap (λ k. Some k) (gap_left was forward ds sorted d.current (members d.current m) may)
          where
            members : (c : Option Span) → IfSome c (λ s. IsTrue (keyed_extents ds) × Among s ds) → IfSome c (λ s. Among s ds)
            members None m = tt
            members (Some c) m = m.1

    -- a step in its own direction leaves fewer
    pub step_fewer : (forward : Bool) → IsTrue (can_step forward (defrag_stands listing standing d)) → (o : Option Span) → o ≡ d.current → (was : Bool) → was ≡ unwrap_or d.facing forward → (m k : ℕ) → (was ≡ forward → is_some o ≡ true → m ≤ k) → unwrap_or d.facing true ≡ forward → m < k + lent d.current
    step_fewer forward able o q was w m k left e =
        let (is_was, faces, may) = can forward able in
        let along : is_was ≡ forward = sym (ap (λ f. unwrap_or f true) faces) ∙ e in
        go o q (left (w ∙ ap (λ f. unwrap_or f forward) faces ∙ along)) d.current refl (rw (agree_same forward is_was along) at may)
      where
        go : (o : Option Span) → o ≡ d.current → (is_some o ≡ true → m ≤ k) → (c : Option Span) → d.current ≡ c → (is_some c || false) ≡ true → m < k + lent c
        go o q left None f may = cc
        go o q left (Some c) f may = let h = left (ap is_some (q ∙ f)) in omega (arith, h)
