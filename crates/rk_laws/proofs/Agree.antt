-- Two lists of entries with the same covers within the bounds have the same widest spans there.
use Rattle.std.proofs.Common.{◌≡◌, ◌≢◌, ℕ, Bool, true, false, not, ◌&&◌, List, [], ◌∷◌, Option, Some, None, IfSome, refl, ap, sym, ◌∙◌, ◌⊎◌, inl, inr, subst}
use Rattle.std.specs.declared.cmp.Ordering.TheVariants.{Equal}
use Rattle.std.specs.Ordering.{is_lt, is_eq}
use Rattle.std.specs.Option.{option_map_or}
use Rattle.std.specs.List.{All}
use Rattle.std.proofs.lemmas.Bool.{and_parts, and_from, not-true}
use Rattle.std.proofs.lemmas.Cmp.{alike_right, tied_back}
use Rattle.std.proofs.lemmas.List.Elements.{recursion_from_All}
use Rattle.rk_key.specs.Keys.{IsKey, key_cmp}
use Rattle.rk_key.proofs.Equality.{same_key}
use Rattle.rk_model.specs.Covers.{cover}
use Rattle.rk_model.specs.Spans.{at_or_above, below, in_bounds, op_ends, written_ends, sorted_keys, same_cover, WidestSpan, widest_span}
use Rattle.rk_model.specs.Positions.{begins_span}
use Rattle.rk_model.specs.declared.op.Op.{Op}
use Rattle.rk_model.specs.declared.op.Op.TheVariants.{Put, Del, RangeSet, RangeUnset, RangeDel}
use Rattle.rk_model.specs.declared.op.Entry.{Entry}
use Rattle.rk_model.specs.declared.span.SuffixValue.{SuffixValue}
use Rattle.rk_model.specs.declared.options.IterOptions.{IterOptions}
use Rattle.rk_laws.specs.SameCells.{op_keys, WellFormed, KeyBounds, SameCovers, GiveSameCovers, SpansOfCovers, SpanStartsOfCovers}
use Rattle.rk_model.specs.Lists.{Among}
use Rattle.rk_model.proofs.Members.{among_all, among_filter, filter_among, flat_map_among, same_ascending}
use Rattle.rk_laws.proofs.Order.{key_total, lt_trans, ge_trans, eq_is, eq_from}
use Rattle.rk_model.proofs.SortedKeys.{Like, sorted_among, among_sorted}
use Rattle.rk_laws.proofs.Ends.{lt, IsEnd, lower, upper, inner, is_end, end_is, Floor, none, some, floor, sorted_ascends}
use Rattle.rk_laws.proofs.Plain.{cover_alike}
use Rattle.rk_laws.proofs.Cuts.{cover_at_floor, cover_below_ends, at_or_above_from}
use Rattle.rk_laws.proofs.Widest.{span_parts, IsStart, IsStop, span_is, span_there, one_up_to, same_cover_from, back, self}
use Rattle.rk_laws.proofs.Places.{span_ends}

-- the written ends are keys
abbrev pub Keyed : List Entry → IterOptions → Type 0
Keyed es o = (w : List ℕ) → Among w (written_ends es o) → IsKey w

pub key_of_op : (es : List Entry) (e : Entry) (k : List ℕ) → WellFormed es → Among e es → Among k (op_keys e.op) → IsKey k
key_of_op es e k h m n =
    let P : Entry → Type 0 = λ f. All IsKey (op_keys f.op) in
    let all : P e = among_all P es e (recursion_from_All P es h) m in
    among_all IsKey (op_keys e.op) k (recursion_from_All IsKey (op_keys e.op) all) n

pub key_of_bound : (b : Option (List ℕ)) (w : List ℕ) → IfSome b IsKey → b ≡ Some w → IsKey w
key_of_bound None w h e = cc
key_of_bound (Some l) w h e = let f : l ≡ w = cc in subst IsKey f h

pub keyed : (es : List Entry) (o : IterOptions) → WellFormed es → KeyBounds o → Keyed es o
keyed es o h b w m = go (end_is es o w m)
  where
    end_of : (op : Op) → Among w (op_ends op) → Among w (op_keys op)
    end_of (Put key value) m = absurd m
    end_of (Del key) m = absurd m
    end_of (RangeSet start end s v) m = m
    end_of (RangeUnset start end s) m = m
    end_of (RangeDel start end) m = m

    go : IsEnd es o w → IsKey w
    go (lower e) = key_of_bound o.lower w b.0 e
    go (upper e) = key_of_bound o.upper w b.1 e
    go (inner i j n) = let (e, k) = flat_map_among (λ e. op_ends e.op) es w n in key_of_op es e w h k.0 (end_of e.op k.1)

module _ (es fs : List Entry) (o : IterOptions) (ke : Keyed es o) (kf : Keyed fs o) (same : SameCovers es fs o) (x : List ℕ) (kx : IsKey x) (inside : in_bounds o x ≡ true) (some_cover : cover es x ≢ []) where
  -- the span of the second list doesn't begin before that of the first
  starts_meet : (a a' : List ℕ) → IsStart es o x a → IsStart fs o x a' → lt a' a ≡ false
  starts_meet a a' s s' = go (floor a' (written_ends es o))
    where
      there : (cover fs a' ≡ cover fs x) × (in_bounds o a' ≡ true)
      there = one_up_to fs o x a' a' inside s' (self a') s'.upto

      alike : cover es a' ≡ cover es x
      alike = same a' (kf a' s'.among) there.1 ∙ there.0 ∙ sym (same x kx inside)

      go : Floor a' (written_ends es o) → lt a' a ≡ false
      go (none f) = absurd (some_cover (sym alike ∙ cover_below_ends es o a' there.1 f))
      go (some c m k f) = ge_trans key_total a' c a k (s.least c m (ge_trans key_total x a' c s'.upto k) one)
        where
          one : (b : List ℕ) → Among b (written_ends es o) → lt x b ≡ false → lt b c ≡ false → cover es b ≡ cover es x
          one b n g d = either (lt a' b) refl
            where
              either : (t : Bool) → lt a' b ≡ t → cover es b ≡ cover es x
              either false e = cover_alike b c es (eq_from key_total b c d (f b n e)) ∙ cover_at_floor es o a' c there.1 m k f ∙ alike
              either true e = let r = one_up_to fs o x a' b inside s' (back a' b e) g in same b (ke b n) r.1 ∙ r.0 ∙ sym (same x kx inside)

  -- the span of the second list doesn't end before that of the first
  stops_meet : (a a' : List ℕ) → IsStop es o x a → IsStop fs o x a' → lt a' a ≡ false
  stops_meet a a' s s' = go s'.differs (below o.upper a') refl
    where
      bounds : (at_or_above o.lower x ≡ true) × (below o.upper x ≡ true)
      bounds = and_parts (at_or_above o.lower x) (below o.upper x) inside

      near : o.upper ≡ Some a' → (w : List ℕ) → Among w (written_ends es o) → key_cmp a' w ≡ Equal → lt a' a ≡ false
      near e w m n =
          let p : lt x w ≡ true = sym (ap is_lt (alike_right key_total a' w x n)) ∙ s'.past in
          let q : lt w a' ≡ false = rw (tied_back key_total a' w n) refl in
          let r : below o.upper w ≡ false = rw e q in
          ap is_lt (key_total.congr a' w a n) ∙ s.least w m p (inl r)

      at_upper : o.upper ≡ Some a' → Like a' (written_ends es o) → lt a' a ≡ false
      at_upper e (w, n) = near e w n.0 n.1

      at_bound : below o.upper a' ≡ false → IsEnd fs o a' → lt a' a ≡ false
      at_bound d (lower e) =
          let p : not (lt x a') ≡ true = rw e at bounds.0 in
          let q : lt x a' ≡ false = not-true (lt x a') p in
          let r : lt x a' ≡ true = s'.past in
          cc
      at_bound d (inner h k m) = cc
      at_bound d (upper e) = at_upper e (is_end es o a' (upper e))

      at_change : in_bounds o a' ≡ true → same_cover (cover es a') (cover es x) ≡ false → Floor a' (written_ends es o) → lt a' a ≡ false
      at_change i d (none f) = absurd (some_cover (cover_below_ends es o x inside (λ w m. lt_trans key_total x a' w s'.past (f w m))))
      at_change i d (some c m k f) = either (lt x c) refl
        where
          here : cover es c ≡ cover es a'
          here = cover_at_floor es o a' c i m k f

          either : (t : Bool) → lt x c ≡ t → lt a' a ≡ false
          either true e = let p : same_cover (cover es c) (cover es x) ≡ false = rw here d in ge_trans key_total a' c a k (s.least c m e (inr p))
          either false e =
              let p : cover es c ≡ cover es x = cover_at_floor es o x c inside m e (λ w n g. f w n (ge_trans key_total a' x w (back x a' s'.past) g)) in
              let q : same_cover (cover es a') (cover es x) ≡ true = same_cover_from (cover es a') (cover es x) (sym here ∙ p) in
              cc

      go : (below o.upper a' ≡ false) ⊎ (same_cover (cover fs a') (cover fs x) ≡ false) → (t : Bool) → below o.upper a' ≡ t → lt a' a ≡ false
      go (inl d) t e = at_bound d (end_is fs o a' s'.among)
      go (inr d) false e = at_bound e (end_is fs o a' s'.among)
      go (inr d) true e =
          let i : in_bounds o a' ≡ true = and_from (at_or_above o.lower a') (below o.upper a') (at_or_above_from o.lower x a' bounds.0 (back x a' s'.past)) e in
          let d' : same_cover (cover es a') (cover es x) ≡ false = rw (same a' (kf a' s'.among) i, same x kx inside) d in
          at_change i d' (floor a' (written_ends es o))

spans_meet : (es fs : List Entry) (o : IterOptions) → Keyed es o → Keyed fs o → SameCovers es fs o → (x : List ℕ) → IsKey x → in_bounds o x ≡ true → widest_span es o x ≡ widest_span fs o x
spans_meet es fs o ke kf same x kx inside = go (cover es x) refl
  where
    absent : (gs : List Entry) → cover gs x ≡ [] → widest_span gs o x ≡ None
    absent gs e = rw e refl

    same' : SameCovers fs es o
    same' y k i = sym (same y k i)

    go : (c : List SuffixValue) → cover es x ≡ c → widest_span es o x ≡ widest_span fs o x
    go [] e = absent es e ∙ sym (absent fs (sym (same x kx inside) ∙ e))
    go (p ∷ ps) e =
        let n : cover es x ≢ [] = λ z. (let q : p ∷ ps ≡ [] = sym e ∙ z in cc) in
        let n' : cover fs x ≢ [] = λ z. n (same x kx inside ∙ z) in
        let (s, hs) = span_there es o x inside n in
        let (t, ht) = span_there fs o x inside n' in
        let i = span_is es o x s hs in
        let j = span_is fs o x t ht in
        let starts : s.start ≡ t.start = same_key s.start t.start (ke s.start i.start.among) (kf t.start j.start.among) (eq_from key_total s.start t.start (starts_meet fs es o kf ke same' x kx inside n' t.start s.start j.start i.start) (starts_meet es fs o ke kf same x kx inside n s.start t.start i.start j.start)) in
        let ends : s.end ≡ t.end = same_key s.end t.end (ke s.end i.stop.among) (kf t.end j.stop.among) (eq_from key_total s.end t.end (stops_meet fs es o kf ke same' x kx inside n' t.end s.end j.stop i.stop) (stops_meet es fs o ke kf same x kx inside n s.end t.end i.stop j.stop)) in
        hs ∙ ap Some (span_parts s t starts ends (i.has ∙ same x kx inside ∙ sym j.has)) ∙ sym ht

pub spans_of_covers : SpansOfCovers
spans_of_covers es fs o g x kx inside = spans_meet es fs o (keyed es o g.first g.bounds) (keyed fs o g.second g.bounds) g.covers x kx inside

-- sorted lists of the same keys are one
across : (us vs : List (List ℕ)) → ((a : List ℕ) → Among a us → IsKey a) → ((a : List ℕ) → Among a us → Among a vs) → ((a : List ℕ) → Among a vs → Among a us) → (a : List ℕ) → Among a (sorted_keys us) → Among a (sorted_keys vs)
across us vs keys to from a m = go (sorted_among us a m) (among_sorted vs a (to a (sorted_among us a m)))
  where
    go : Among a us → Like a (sorted_keys vs) → Among a (sorted_keys vs)
    go n (b, l) = subst (λ z. Among z (sorted_keys vs)) (sym (same_key a b (keys a n) (keys b (from b (sorted_among vs b l.0))) l.1)) l.0

pub sorted_same : (xs ys : List (List ℕ)) → ((a : List ℕ) → Among a xs → IsKey a) → ((a : List ℕ) → Among a xs → Among a ys) → ((a : List ℕ) → Among a ys → Among a xs) → sorted_keys xs ≡ sorted_keys ys
sorted_same xs ys keys to from = same_ascending lt back self (sorted_keys xs) (sorted_keys ys) (sorted_ascends xs) (sorted_ascends ys) (across xs ys keys to from) (across ys xs (λ a m. keys a (from a m)) from to)

-- a written end at which a span begins is one in either list
starts_shared : (es fs : List Entry) (o : IterOptions) → Keyed es o → Keyed fs o → SameCovers es fs o → (a : List ℕ) → Among a (span_ends es o) → Among a (span_ends fs o)
starts_shared es fs o ke kf same a m = go (filter_among (λ x. in_bounds o x && begins_span es o x) (written_ends es o) a m)
  where
    go : Among a (written_ends es o) × ((in_bounds o a && begins_span es o a) ≡ true) → Among a (span_ends fs o)
    go n = found (and_parts (in_bounds o a) (begins_span es o a) n.1) (widest_span fs o a) refl
      where
        found : (in_bounds o a ≡ true) × (begins_span es o a ≡ true) → (t : Option WidestSpan) → widest_span fs o a ≡ t → Among a (span_ends fs o)
        found b t e = begun (sym (ap (λ (u : Option WidestSpan). option_map_or (λ s. is_eq (key_cmp s.start a)) u false) (spans_meet es fs o ke kf same a (ke a n.0) b.0)) ∙ b.1) t e
          where
            begun : begins_span fs o a ≡ true → (t : Option WidestSpan) → widest_span fs o a ≡ t → Among a (span_ends fs o)
            begun h None e = let p : begins_span fs o a ≡ false = rw e refl in cc
            begun h (Some s) e =
                let i = span_is fs o a s e in
                let p : is_eq (key_cmp s.start a) ≡ true = sym (ap (λ (u : Option WidestSpan). option_map_or (λ s. is_eq (key_cmp s.start a)) u false) e) ∙ h in
                let q : s.start ≡ a = same_key s.start a (kf s.start i.start.among) (ke a n.0) (eq_is key_total s.start a p) in
                among_filter (λ x. in_bounds o x && begins_span fs o x) (written_ends fs o) a (subst (λ z. Among z (written_ends fs o)) q i.start.among) (and_from (in_bounds o a) (begins_span fs o a) b.0 h)

pub span_ends_shared : (es fs : List Entry) (o : IterOptions) → GiveSameCovers es fs o → (a : List ℕ) → Among a (span_ends es o) → Among a (span_ends fs o)
span_ends_shared es fs o g = starts_shared es fs o (keyed es o g.first g.bounds) (keyed fs o g.second g.bounds) g.covers

pub span_end_keyed : (es : List Entry) (o : IterOptions) → WellFormed es → KeyBounds o → (a : List ℕ) → Among a (span_ends es o) → IsKey a
span_end_keyed es o h b a m = keyed es o h b a (filter_among (λ x. in_bounds o x && begins_span es o x) (written_ends es o) a m).0

pub turned : (es fs : List Entry) (o : IterOptions) → GiveSameCovers es fs o → GiveSameCovers fs es o
turned es fs o g = record { first = g.second; second = g.first; bounds = g.bounds; covers = λ x k i. sym (g.covers x k i) }

pub span_starts_of_covers : SpanStartsOfCovers
span_starts_of_covers es fs o g = sorted_same (span_ends es o) (span_ends fs o) (span_end_keyed es o g.first g.bounds) (span_ends_shared es fs o g) (span_ends_shared fs es o (turned es fs o g))
