-- The part of a list of spans within bounds, and the widest spans of the list over it.
use Rattle.std.proofs.Common.{◌≡◌, ◌≢◌, ℕ, ◌+◌, ◌-◌, ◌<◌, ◌≤◌, Bool, true, false, not, List, [], ◌∷◌, take, Option, Some, None, refl, sym, ap, ◌∙◌, ◌⊎◌, inl, inr, arith}
use Rattle.std.specs.Prelude.{IsTrue, IfSome}
use Rattle.std.specs.List.{slice_get}
use Rattle.std.proofs.lemmas.Bool.{and_parts, cases_lt, not-true}
use Rattle.rk_model.specs.Lists.{Among, none_of}
use Rattle.rk_model.specs.Operations.{within}
use Rattle.rk_model.specs.Covers.{upto, cover}
use Rattle.rk_model.specs.Spans.{at_or_above, below, in_bounds}
use Rattle.rk_model.specs.Items.{span_takes, keyed_extents}
use Rattle.rk_model.specs.ItemLaws.{spans-first, spans-part}
use Rattle.rk_model.specs.declared.span.SuffixValue.{SuffixValue}
use Rattle.rk_model.specs.declared.span.Span.{Span}
use Rattle.rk_model.specs.declared.options.IterOptions.{IterOptions}
use Rattle.rk_model.proofs.Gaps.{taken_before, before_taken, behind_untaken}
use Rattle.rk_model.proofs.Clips.{get_drop, get_take, none_beyond}
use Rattle.rk_model.proofs.Members.{map_among}
use Rattle.rk_merge.proofs.Counts.{slice_among}
use Rattle.rk_laws.proofs.Order.{key_total, ge_lt}
use Rattle.rk_laws.proofs.Ends.{lt}
use Rattle.rk_laws.proofs.Widest.{span_has_one_cover}
use Rattle.rk_sources.specs.Bounds.{lower_cut, upper_cut, lows, highs, between}
use Rattle.rk_span_laws.specs.Joined.{entries_of, widest_spans, as_span, joined}
use Rattle.rk_span_laws.proofs.Covers.{within_parts, SpanAt, at, gap, span_at, span_has_its_cover, no_span_no_cover}
use Rattle.rk_span_laws.proofs.Widest.{among_widest, widest_proper}
use Rattle.rk_defrag.specs.Moves.{cover_at, is_bare}
use Rattle.rk_defrag.proofs.Places.{among_place}

-- the keys of a widest span have a cover, and lie within the bounds
pub joined_covered : (n : ℕ) (o : IterOptions) (ss : List Span) (d : Span) → Among d (joined n o ss) → (x : List ℕ) → within d.start d.end x ≡ true → (cover (upto n (entries_of ss)) x ≢ []) × (in_bounds o x ≡ true)
joined_covered n o ss d m x w =
    let es = upto n (entries_of ss) in
    let (v, k) = map_among (as_span n) (widest_spans es o) d m in
    let i = among_widest es o v k.0 in
    let has = span_has_one_cover es o v.start x v i.inside i.span (ap (λ (z : Span). within z.start z.end x) (sym k.1) ∙ w) in
    let some = (widest_proper es o v k.0).1 in
    (λ e. some (sym has.0 ∙ e), has.1)

covered_not_bare : (ps : List SuffixValue) → ps ≢ [] → none_of ps ≡ false
covered_not_bare [] h = absurd (h refl)
covered_not_bare (p ∷ ps) h = refl

-- a span reaches into the bounds
pub record Meets (o : IterOptions) (t : Span) : Type 0 where
  pub low : IfSome o.lower (λ l. lt l t.end ≡ true)
  pub high : IfSome o.upper (λ u. lt t.start u ≡ true)

meets_over : (o : IterOptions) (t : Span) (x : List ℕ) → within t.start t.end x ≡ true → in_bounds o x ≡ true → Meets o t
meets_over o t x w inside = record { low = low o.lower bounds.0; high = high o.upper bounds.1 }
  where
    bounds : (at_or_above o.lower x ≡ true) × (below o.upper x ≡ true)
    bounds = and_parts (at_or_above o.lower x) (below o.upper x) inside

    low : (l : Option (List ℕ)) → at_or_above l x ≡ true → IfSome l (λ l. lt l t.end ≡ true)
    low None h = tt
    low (Some l) h = ge_lt key_total l x t.end (not-true (lt x l) h) (within_parts t.start t.end x w).1

    high : (u : Option (List ℕ)) → below u x ≡ true → IfSome u (λ u. lt t.start u ≡ true)
    high None h = tt
    high (Some u) h = ge_lt key_total t.start x u (within_parts t.start t.end x w).0 h

-- the spans of a list that reach into the bounds
abbrev pub xs : IterOptions → List Span → List Span
xs o ss = between span_takes o.lower o.upper ss

module _ (o : IterOptions) (ss : List Span) (sorted : IsTrue (keyed_extents ss)) where
  abbrev lo : ℕ
  lo = lows span_takes o.lower ss

  abbrev hi : ℕ
  hi = highs span_takes o.upper ss

  pub part_sorted : IsTrue (keyed_extents (xs o ss))
  part_sorted = spans-part lo hi ss sorted

  part_place : (k : ℕ) (t : Span) → slice_get (xs o ss) k ≡ Some t → (slice_get ss (lo + k) ≡ Some t) × (lo + k < hi)
  part_place k t e = go (cases_lt (lo + k) hi)
    where
      go : (lo + k < hi) ⊎ (hi ≤ lo + k) → (slice_get ss (lo + k) ≡ Some t) × (lo + k < hi)
      go (inl l) = (sym (get_take hi (lo + k) ss l) ∙ sym (get_drop lo k (take hi ss)) ∙ e, l)
      go (inr l) = let f : Some t ≡ None = sym e ∙ get_drop lo k (take hi ss) ∙ none_beyond hi (lo + k) ss l in cc

  pub part_among : (t : Span) → Among t (xs o ss) → Among t ss
  part_among t m = let (k, e) = among_place (xs o ss) t m in slice_among ss (lo + k) t (part_place k t e).0

  pub part_meets : (t : Span) → Among t (xs o ss) → Meets o t
  part_meets t m = record { low = low o.lower refl; high = high o.upper refl }
    where
      at_place : (k : ℕ) × (slice_get (xs o ss) k ≡ Some t)
      at_place = among_place (xs o ss) t m

      k : ℕ
      k = at_place.0

      there : (slice_get ss (lo + k) ≡ Some t) × (lo + k < hi)
      there = part_place k t at_place.1

      low : (l : Option (List ℕ)) → o.lower ≡ l → IfSome l (λ l. lt l t.end ≡ true)
      low None e = tt
      low (Some l) e = go (lt l t.end) refl
        where
          go : (b : Bool) → lt l t.end ≡ b → b ≡ true
          go true q = refl
          go false q =
              let h : span_takes true (lower_cut o.lower) t ≡ true = rw (e, q) refl in
              absurd (omega (arith, before_taken (span_takes true (lower_cut o.lower)) ss (lo + k) t (spans-first true (lower_cut o.lower) ss sorted) there.0 h))

      high : (u : Option (List ℕ)) → o.upper ≡ u → IfSome u (λ u. lt t.start u ≡ true)
      high None e = tt
      high (Some u) e = let h : span_takes false (upper_cut o.upper) t ≡ true = taken_before (span_takes false (upper_cut o.upper)) ss (lo + k) t there.0 there.1 in (rw e at h)

  pub part_from : (t : Span) → Among t ss → Meets o t → (k : ℕ) × (slice_get (xs o ss) k ≡ Some t)
  part_from t m r =
      let (i, e) = among_place ss t m in
      let above : lo ≤ i = behind_untaken (span_takes true (lower_cut o.lower)) ss i t e (low o.lower r.low) in
      let under : i < hi = before_taken (span_takes false (upper_cut o.upper)) ss i t (spans-first false (upper_cut o.upper) ss sorted) e (high o.upper r.high) in
      let q : lo + (i - lo) ≡ i = omega (arith, above) in
      (i - lo, get_drop lo (i - lo) (take hi ss) ∙ ap (slice_get (take hi ss)) q ∙ get_take hi i ss under ∙ e)
    where
      low : (l : Option (List ℕ)) → IfSome l (λ l. lt l t.end ≡ true) → span_takes true (lower_cut l) t ≡ false
      low None h = refl
      low (Some l) h = ap not h

      high : (u : Option (List ℕ)) → IfSome u (λ u. lt t.start u ≡ true) → span_takes false (upper_cut u) t ≡ true
      high None h = refl
      high (Some u) h = h

  -- a key of a widest span lies in a span of the part that has a cover
  pub record Over (n : ℕ) (x : List ℕ) : Type 0 where
    pub place : ℕ
    pub span : Span
    pub there : slice_get (xs o ss) place ≡ Some span
    pub over : within span.start span.end x ≡ true
    pub covered : is_bare n span ≡ false
    pub inside : in_bounds o x ≡ true

  pub over_of : (n : ℕ) (d : Span) → Among d (joined n o ss) → (x : List ℕ) → within d.start d.end x ≡ true → Over n x
  over_of n d m x w = go (span_at ss x)
    where
      known : (cover (upto n (entries_of ss)) x ≢ []) × (in_bounds o x ≡ true)
      known = joined_covered n o ss d m x w

      go : SpanAt ss x → Over n x
      go (gap free) = absurd (known.0 (no_span_no_cover n ss x free))
      go (at t mt it) =
          let (k, e) = part_from t mt (meets_over o t x it known.1) in
          record { place = k; span = t; there = e; over = it; covered = covered_not_bare (cover_at n t) (λ f. known.0 (span_has_its_cover n ss sorted t x mt it ∙ f)); inside = known.1 }
