-- When a joined span of spans is a widest one, in the words of the spans.
use Rattle.std.proofs.Common.{◌≡◌, ◌≢◌, ℕ, Bool, true, false, not, List, [], ◌∷◌, filter, Option, Some, None, IfSome, refl, ap, sym, ◌∙◌, ◌⊎◌, inl, inr, subst, if◌then◌else◌}
use Rattle.std.specs.Prelude.{IsTrue, nat_le}
use Rattle.std.proofs.lemmas.Bool.{and_parts, and_from, not-true, false_from_ne_true}
use Rattle.rk_key.specs.Keys.{IsKey}
use Rattle.rk_key.proofs.Equality.{same_key}
use Rattle.rk_model.specs.Lists.{Among}
use Rattle.rk_model.specs.Operations.{within}
use Rattle.rk_model.specs.Covers.{upto, cover, cover_of}
use Rattle.rk_model.specs.Spans.{at_or_above, above, below, in_bounds, op_ends, written_ends, same_cover, WidestSpan, widest_span}
use Rattle.rk_model.specs.Items.{keyed_extents}
use Rattle.rk_model.specs.declared.op.Entry.{Entry}
use Rattle.rk_model.specs.declared.span.RangeKind.{RangeKind}
use Rattle.rk_model.specs.declared.span.RangeKind.TheVariants as kind
use Rattle.rk_model.specs.declared.span.RangeKey.{RangeKey}
use Rattle.rk_model.specs.declared.span.Span.{Span}
use Rattle.rk_model.specs.declared.span.SuffixValue.{SuffixValue}
use Rattle.rk_model.specs.declared.options.IterOptions.{IterOptions}
use Rattle.rk_model.proofs.Members.{among_filter, filter_among, among_flat_map, among_map, map_among}
use Rattle.rk_model.proofs.SortedKeys.{Like}
use Rattle.rk_coalesce.specs.SpanKeys.{op_of, entry_of, span_entries}
use Rattle.rk_laws.specs.SameCells.{KeyBounds}
use Rattle.rk_laws.proofs.Order.{key_total, lt_back, lt_trans, ge_trans, lt_ge, ge_lt, eq_from}
use Rattle.rk_laws.proofs.Ends.{lt, IsEnd, lower, upper, inner, is_end, Greatest, empty, top, greatest}
use Rattle.rk_laws.proofs.Plain.{all_ends}
use Rattle.rk_laws.proofs.Cuts.{above_from, at_or_above_from, below_from, end_at_or_above}
use Rattle.rk_laws.proofs.Agree.{key_of_bound, keyed}
use Rattle.rk_laws.proofs.Widest.{IsStart, IsStop, cover_same, same_cover_from, back, self}
use Rattle.rk_span_laws.specs.Joined.{entries_of, as_span, joined, widest_spans}
use Rattle.rk_span_laws.proofs.Covers.{extent_of, extents_apart, within_parts, within_from, one_span, SpanAt, at, gap, span_at, span_has_its_cover, no_span_no_cover}
use Rattle.rk_span_laws.proofs.Joining.{well_formed}
use Rattle.rk_span_laws.proofs.Widest.{is_widest, widest_among}

-- each key from a up to b has this cover
abbrev pub HasOne : List Entry → List SuffixValue → List ℕ → List ℕ → Type 0
HasOne es c a b = (y : List ℕ) → within a b y ≡ true → cover es y ≡ c

pub one_meets : (es : List Entry) (c : List SuffixValue) (a b d : List ℕ) → HasOne es c a b → HasOne es c b d → HasOne es c a d
one_meets es c a b d first second y w = go (lt y b) refl
  where
    go : (t : Bool) → lt y b ≡ t → cover es y ≡ c
    go true e = first y (within_from a b y (within_parts a d y w).0 e)
    go false e = second y (within_from b d y e (within_parts a d y w).1)

pub one_inside : (es : List Entry) (c : List SuffixValue) (a b start end : List ℕ) → lt start a ≡ false → lt b end ≡ false → HasOne es c a b → HasOne es c start end
one_inside es c a b start end low high one y w =
    let parts = within_parts start end y w in
    one y (within_from a b y (ge_trans key_total y start a parts.0 low) (lt_ge key_total y end b parts.1 high))

-- where a span, and where a widest one, ends in a direction, and the bound there
abbrev pub edge_of : Bool → Span → List ℕ
edge_of forward s = if forward then s.end else s.start

abbrev pub edge : Bool → WidestSpan → List ℕ
edge forward w = if forward then w.end else w.start

abbrev pub bound : Bool → IterOptions → Option (List ℕ)
bound forward o = if forward then o.upper else o.lower

-- in a direction it ends at the bound, or where a span with its cover does and none with its cover goes on
pub data Reaches (n : ℕ) (o : IterOptions) (ss : List Span) (w : WidestSpan) (forward : Bool) : Type 0 where
  at_bound : bound forward o ≡ Some (edge forward w) → Reaches n o ss w forward
  at_span : (s : Span) → Among s ss → edge_of forward s ≡ edge forward w → cover_of (upto n (span_entries s)) ≡ w.cover →
      ((t : Span) → Among t ss → edge_of (not forward) t ≡ edge forward w → cover_of (upto n (span_entries t)) ≢ w.cover) → Reaches n o ss w forward

-- what spans that touch and have one cover are joined to, within the bounds
pub record IsJoined (n : ℕ) (o : IterOptions) (ss : List Span) (w : WidestSpan) : Type 0 where
  pub proper : lt w.start w.end ≡ true
  pub some : w.cover ≢ []
  pub low : at_or_above o.lower w.start ≡ true
  pub high : IfSome o.upper (λ u. lt u w.end ≡ false)
  pub one : HasOne (upto n (entries_of ss)) w.cover w.start w.end
  pub reaches : (forward : Bool) → Reaches n o ss w forward

op_ends_of : (start end : List ℕ) (r : RangeKind) (suffix value : List ℕ) → op_ends (op_of start end r suffix value) ≡ start ∷ end ∷ []
op_ends_of start end kind.Set suffix value = refl
op_ends_of start end kind.Unset suffix value = refl
op_ends_of start end kind.Del suffix value = refl

edge_among : (forward : Bool) (s : Span) → Among (edge_of forward s) (s.start ∷ s.end ∷ [])
edge_among true s = inr (inl refl)
edge_among false s = inl refl

-- a span with a cover has a range key numbered at most n
some_key : (n : ℕ) (s : Span) → cover_of (upto n (span_entries s)) ≢ [] → (k : RangeKey) × Among k s.keys × (nat_le k.seq n ≡ true)
some_key n s h = go (upto n (span_entries s)) refl
  where
    go : (l : List Entry) → upto n (span_entries s) ≡ l → (k : RangeKey) × Among k s.keys × (nat_le k.seq n ≡ true)
    go [] e = absurd (h (ap cover_of e))
    go (f ∷ fs) e =
        let m = filter_among (λ e. nat_le e.seq n) (span_entries s) f (rw e (inl refl)) in
        let (k, i) = map_among (entry_of s) s.keys f m.0 in
        (k, i.0, sym (ap (λ (g : Entry). nat_le g.seq n) i.1) ∙ m.1)

-- so its start and end are written ones
edge_written : (n : ℕ) (ss : List Span) (forward : Bool) (s : Span) → Among s ss → cover_of (upto n (span_entries s)) ≢ [] → Among (edge_of forward s) (all_ends (upto n (entries_of ss)))
edge_written n ss forward s m h =
    let (k, own, low) = some_key n s h in
    among_flat_map (λ e. op_ends e.op) (upto n (entries_of ss)) (entry_of s k) (edge_of forward s)
    (among_filter (λ e. nat_le e.seq n) (entries_of ss) (entry_of s k) (among_flat_map span_entries ss s (entry_of s k) m (among_map (entry_of s) s.keys k own)) low)
    (rw (op_ends_of s.start s.end k.kind k.suffix k.value) (edge_among forward s))

module _ (n : ℕ) (o : IterOptions) (ss : List Span) (bounds : KeyBounds o) (ordered : IsTrue (keyed_extents ss)) (w : WidestSpan) (j : IsJoined n o ss w) where
  abbrev sees : List Entry
  sees = upto n (entries_of ss)

  edge_key : (forward : Bool) → Reaches n o ss w forward → IsKey (edge forward w)
  edge_key true (at_bound e) = key_of_bound o.upper w.end bounds.1 e
  edge_key false (at_bound e) = key_of_bound o.lower w.start bounds.0 e
  edge_key true (at_span s m e has none) = subst IsKey e (extent_of ss ordered s m).end
  edge_key false (at_span s m e has none) = subst IsKey e (extent_of ss ordered s m).start

  start_key : IsKey w.start
  start_key = edge_key false (j.reaches false)

  end_key : IsKey w.end
  end_key = edge_key true (j.reaches true)

  pub joined_inside : (x : List ℕ) → within w.start w.end x ≡ true → in_bounds o x ≡ true
  joined_inside x i = and_from (at_or_above o.lower x) (below o.upper x) (at_or_above_from o.lower w.start x j.low parts.0) (go o.upper j.high)
    where
      parts : (lt x w.start ≡ false) × (lt x w.end ≡ true)
      parts = within_parts w.start w.end x i

      go : (u : Option (List ℕ)) → IfSome u (λ u. lt u w.end ≡ false) → below u x ≡ true
      go None h = refl
      go (Some u) h = lt_ge key_total x w.end u parts.1 h

  over_start : within w.start w.end w.start ≡ true
  over_start = within_from w.start w.end w.start (self w.start) j.proper

  bounds_of : (x : List ℕ) → within w.start w.end x ≡ true → (at_or_above o.lower x ≡ true) × (below o.upper x ≡ true)
  bounds_of x i = and_parts (at_or_above o.lower x) (below o.upper x) (joined_inside x i)

  -- a key that is an end is a written one
  written : (a : List ℕ) → IsKey a → IsEnd sees o a → Among a (written_ends sees o)
  written a k h = go (is_end sees o a h)
    where
      go : Like a (written_ends sees o) → Among a (written_ends sees o)
      go (b, m) = subst (λ z. Among z (written_ends sees o)) (sym (same_key a b k (keyed sees o (well_formed n ss ordered) bounds b m.0) m.1)) m.0

  has_some : (s : Span) → cover_of (upto n (span_entries s)) ≡ w.cover → cover_of (upto n (span_entries s)) ≢ []
  has_some s has e = j.some (sym has ∙ e)

  start_written : Among w.start (written_ends sees o)
  start_written = written w.start start_key (go (j.reaches false))
    where
      go : Reaches n o ss w false → IsEnd sees o w.start
      go (at_bound e) = lower e
      go (at_span s m e has none) = cut o.lower refl bounds.0
        where
          among : Among w.start (all_ends sees)
          among = subst (λ z. Among z (all_ends sees)) e (edge_written n ss false s m (has_some s has))

          at_lower : (l : List ℕ) → o.lower ≡ Some l → IsKey l → (t : Bool) → lt l w.start ≡ t → IsEnd sees o w.start
          at_lower l g k true p = inner (rw g p) (bounds_of w.start over_start).1 among
          at_lower l g k false p =
              let q : at_or_above (Some l) w.start ≡ true = rw g at j.low in
              let r : l ≡ w.start = same_key l w.start k start_key (eq_from key_total l w.start p (not-true (lt w.start l) q)) in
              lower (g ∙ ap Some r)

          cut : (l : Option (List ℕ)) → o.lower ≡ l → IfSome l IsKey → IsEnd sees o w.start
          cut None g k = inner (rw g refl) (bounds_of w.start over_start).1 among
          cut (Some l) g k = at_lower l g k (lt l w.start) refl

  end_written : Among w.end (written_ends sees o)
  end_written = written w.end end_key (go (j.reaches true))
    where
      go : Reaches n o ss w true → IsEnd sees o w.end
      go (at_bound e) = upper e
      go (at_span s m e has none) = cut o.upper refl bounds.1 j.high
        where
          among : Among w.end (all_ends sees)
          among = subst (λ z. Among z (all_ends sees)) e (edge_written n ss true s m (has_some s has))

          past_lower : above o.lower w.end ≡ true
          past_lower = above_from o.lower w.start w.end j.low j.proper

          at_upper : (u : List ℕ) → o.upper ≡ Some u → IsKey u → lt u w.end ≡ false → (t : Bool) → lt w.end u ≡ t → IsEnd sees o w.end
          at_upper u g k h true p = inner past_lower (rw g p) among
          at_upper u g k h false p = upper (g ∙ ap Some (same_key u w.end k end_key (eq_from key_total u w.end h p)))

          cut : (u : Option (List ℕ)) → o.upper ≡ u → IfSome u IsKey → IfSome u (λ u. lt u w.end ≡ false) → IsEnd sees o w.end
          cut None g k h = inner past_lower (rw g refl) among
          cut (Some u) g k h = at_upper u g k h (lt w.end u) refl

  -- A written end next below the start, with the cover: the span that it lies in ends at the start, which none does.
  none_below : (x b : List ℕ) → within w.start w.end x ≡ true → Reaches n o ss w false → Among b (written_ends sees o) → lt b w.start ≡ true →
      ((d : List ℕ) → Among d (written_ends sees o) → lt d w.start ≡ true → lt b d ≡ false) → cover sees b ≡ w.cover → ⊥
  none_below x b i (at_bound e) m l last has =
      let p : not (lt b w.start) ≡ true = rw e at (end_at_or_above sees o x b (joined_inside x i) m) in
      let q : lt b w.start ≡ false = not-true (lt b w.start) p in
      cc
  none_below x b i (at_span s k e own none) m l last has = go (span_at ss b)
    where
      past : lt x w.start ≡ false
      past = (within_parts w.start w.end x i).0

      go : SpanAt ss b → ⊥
      go (gap free) = j.some (sym has ∙ no_span_no_cover n ss b free)
      go (at t mt it) = either (lt t.end w.start) refl (lt w.start t.end) refl
        where
          its : cover_of (upto n (span_entries t)) ≡ w.cover
          its = sym (span_has_its_cover n ss ordered t b mt it) ∙ has

          sides : (lt b t.start ≡ false) × (lt b t.end ≡ true)
          sides = within_parts t.start t.end b it

          either : (p : Bool) → lt t.end w.start ≡ p → (q : Bool) → lt w.start t.end ≡ q → ⊥
          either true p q r =
              let up = lt_back key_total t.end x (lt_ge key_total t.end w.start x p past) in
              let there = written t.end (extent_of ss ordered t mt).end (inner (above_from o.lower b t.end (end_at_or_above sees o x b (joined_inside x i) m) sides.1) (below_from o.upper x t.end (bounds_of x i).1 up) (edge_written n ss true t mt (has_some t its))) in
              let z : lt b t.end ≡ false = last t.end there p in
              let y : lt b t.end ≡ true = sides.1 in
              cc
          either false p true r =
              let low : lt w.start t.start ≡ false = back t.start w.start (ge_lt key_total t.start b w.start sides.0 l) in
              let first : within s.start s.end w.start ≡ true = within_from s.start s.end w.start (rw e (self w.start)) (ap (λ z. lt z s.end) (sym e) ∙ (extent_of ss ordered s k).proper) in
              let one : t ≡ s = one_span ss (extents_apart ss ordered) t s w.start mt k (within_from t.start t.end w.start low r) first in
              let z : lt b w.start ≡ false = ap (lt b) (sym (ap (λ (z : Span). z.start) one ∙ e)) ∙ sides.0 in
              cc
          either false p false r = none t mt (same_key t.end w.start (extent_of ss ordered t mt).end start_key (eq_from key_total t.end w.start p r)) its

  -- at the end the cover is another, unless that is the bound
  end_differs : Reaches n o ss w true → (below o.upper w.end ≡ false) ⊎ (cover sees w.end ≢ w.cover)
  end_differs (at_bound e) = inl (rw e (self w.end))
  end_differs (at_span s k e own none) = inr go
    where
      go : cover sees w.end ≢ w.cover
      go same = found (span_at ss w.end)
        where
          found : SpanAt ss w.end → ⊥
          found (gap free) = j.some (sym same ∙ no_span_no_cover n ss w.end free)
          found (at t mt it) = either (lt t.start w.end) refl
            where
              sides : (lt w.end t.start ≡ false) × (lt w.end t.end ≡ true)
              sides = within_parts t.start t.end w.end it

              proper : lt s.start s.end ≡ true
              proper = (extent_of ss ordered s k).proper

              -- the two aren't one
              other : s ≡ t → ⊥
              other is =
                  let p : lt w.end w.end ≡ true = ap (lt w.end) (sym (sym (ap (λ (z : Span). z.end) is) ∙ e)) ∙ sides.1 in
                  let q : lt w.end w.end ≡ false = self w.end in
                  cc

              share : (y : List ℕ) → within s.start s.end y ≡ true → within t.start t.end y ≡ true → ⊥
              share y v u = other (one_span ss (extents_apart ss ordered) s t y k mt v u)

              overlap : lt t.start w.end ≡ true → (p : Bool) → lt t.start s.start ≡ p → ⊥
              overlap h true p =
                  let high : lt s.start t.end ≡ true = lt_trans key_total s.start w.end t.end (ap (lt s.start) (sym e) ∙ proper) sides.1 in
                  share s.start (within_from s.start s.end s.start (self s.start) proper) (within_from t.start t.end s.start (back t.start s.start p) high)
              overlap h false p =
                  share t.start (within_from s.start s.end t.start p (ap (lt t.start) e ∙ h)) (within_from t.start t.end t.start (self t.start) (extent_of ss ordered t mt).proper)

              either : (p : Bool) → lt t.start w.end ≡ p → ⊥
              either true p = overlap p (lt t.start s.start) refl
              either false p = none t mt (same_key t.start w.end (extent_of ss ordered t mt).start end_key (eq_from key_total t.start w.end p sides.0)) (sym (span_has_its_cover n ss ordered t w.end mt it) ∙ same)

  module _ (x : List ℕ) (i : within w.start w.end x ≡ true) where
    sides : (lt x w.start ≡ false) × (lt x w.end ≡ true)
    sides = within_parts w.start w.end x i

    start_is : IsStart sees o x w.start
    start_is = record {
      among = start_written;
      upto = sides.0;
      one = λ b m k g. j.one b (within_from w.start w.end b g (ge_lt key_total b x w.end k sides.1)) ∙ sym (j.one x i);
      least = least;
    }
      where
        least : (c : List ℕ) → Among c (written_ends sees o) → lt x c ≡ false →
            ((b : List ℕ) → Among b (written_ends sees o) → lt x b ≡ false → lt b c ≡ false → cover sees b ≡ cover sees x) → lt c w.start ≡ false
        least c m k f = false_from_ne_true (lt c w.start) (λ l. go l (greatest (filter (λ a. lt a w.start) (written_ends sees o))))
          where
            go : lt c w.start ≡ true → Greatest (filter (λ a. lt a w.start) (written_ends sees o)) → ⊥
            go l (empty g) = g c (among_filter (λ a. lt a w.start) (written_ends sees o) c m l)
            go l (top b mb g) =
                let here = filter_among (λ a. lt a w.start) (written_ends sees o) b mb in
                let up : lt x b ≡ false = back b x (lt_ge key_total b w.start x here.1 sides.0) in
                let last : (d : List ℕ) → Among d (written_ends sees o) → lt d w.start ≡ true → lt b d ≡ false = λ d md ld. g d (among_filter (λ a. lt a w.start) (written_ends sees o) d md ld) in
                none_below x b i (j.reaches false) here.0 here.1 last (f b here.0 up (last c m l) ∙ j.one x i)

    stop_is : IsStop sees o x w.end
    stop_is = record {
      among = end_written;
      past = sides.1;
      differs = elim (end_differs (j.reaches true)) [ inl d ↦ inl d | inr d ↦ inr (false_from_ne_true (same_cover (cover sees w.end) (cover sees x)) (λ e. d (cover_same (cover sees w.end) (cover sees x) e ∙ j.one x i))) ];
      least = λ c m k d. false_from_ne_true (lt c w.end) (λ l. never c k l d);
    }
      where
        never : (c : List ℕ) → lt x c ≡ true → lt c w.end ≡ true → (below o.upper c ≡ false) ⊎ (same_cover (cover sees c) (cover sees x) ≡ false) → ⊥
        never c k l d = go d
          where
            here : within w.start w.end c ≡ true
            here = within_from w.start w.end c (back w.start c (ge_lt key_total w.start x c sides.0 k)) l

            go : (below o.upper c ≡ false) ⊎ (same_cover (cover sees c) (cover sees x) ≡ false) → ⊥
            go (inl f) = let p : below o.upper c ≡ true = (bounds_of c here).1 in cc
            go (inr f) = let p : same_cover (cover sees c) (cover sees x) ≡ true = same_cover_from (cover sees c) (cover sees x) (j.one c here ∙ sym (j.one x i)) in cc

    -- it is the widest span of each of its keys
    pub joined_is : widest_span sees o x ≡ Some w
    joined_is = is_widest sees o x w (joined_inside x i) (record { start = start_is; stop = stop_is; has = sym (j.one x i); some = λ e. j.some (sym (j.one x i) ∙ e) })

  pub joined_has : Among (as_span n w) (joined n o ss)
  joined_has = among_map (as_span n) (widest_spans sees o) w (widest_among sees o w.start w (joined_inside w.start over_start) (joined_is w.start over_start))
