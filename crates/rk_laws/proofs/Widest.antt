-- What the start and the end of a widest span are.
use Rattle.std.proofs.Common.{◌≡◌, ◌≢◌, ℕ, Bool, true, false, not, ◌&&◌, ◌||◌, List, [], ◌∷◌, filter, Option, Some, None, refl, ap, sym, ◌∙◌, ◌⊎◌, inl, inr, subst, option_map, option_and_then, if◌then◌else◌}
use Rattle.std.specs.Ordering.{is_lt}
use Rattle.std.specs.List.{list_all}
use Rattle.std.proofs.lemmas.Bool.{and_parts, and_from, not-true, or_cases, false_from_ne_true}
use Rattle.std.proofs.lemmas.Cmp.{alike_right, tied_itself, tied_back, nat_list_cmp_total}
use Rattle.std.proofs.lemmas.Map.Lookups.{exact_bytes}
use Rattle.std.proofs.lemmas.Option.{same_Some}
use Rattle.rk_model.specs.Covers.{cover}
use Rattle.rk_model.specs.Lists.{none_of, Among}
use Rattle.rk_model.specs.Spans.{at_or_above, below, in_bounds, written_ends, same_bytes, same_cover, span_start, span_end, WidestSpan, widest_span}
use Rattle.rk_model.specs.declared.op.Entry.{Entry}
use Rattle.rk_model.specs.declared.span.SuffixValue.{SuffixValue}
use Rattle.rk_model.specs.declared.options.IterOptions.{IterOptions}
use Rattle.rk_laws.specs.Neighbours.{SpanOfEachCover, SpanHasOneCover, SpanOfItsKeys, SpanEndDiffers, BeforeSpanDiffers, is_between}
use Rattle.rk_model.proofs.Members.{Ascending, among_all, ascending_filter, among_filter, filter_among, first_among, first_is, first_least, every_gives, every_from, any_false}
use Rattle.rk_laws.proofs.Order.{key_total, lt_itself, lt_back, ge_trans, lt_ge, ge_lt, eq_is, eq_from}
use Rattle.rk_model.proofs.SortedKeys.{Like}
use Rattle.rk_laws.proofs.Ends.{lt, IsEnd, lower, upper, inner, is_end, end_is, Floor, none, some, floor, ends_ascend, Greatest, empty, top, greatest}
use Rattle.rk_laws.proofs.Plain.{cover_alike}
use Rattle.rk_laws.proofs.Cuts.{cover_at_floor, cover_below_ends, end_at_or_above, end_at_or_below, cover_above_ends, below_from, at_or_above_from}

pair_same : (s t v w : List ℕ) → s ≡ t → v ≡ w → ◌≡◌ {A = SuffixValue} (record { suffix = s; value = v }) (record { suffix = t; value = w })
pair_same s t v w e f = rw (e, f) refl

bytes_same : (xs ys : List ℕ) → same_bytes xs ys ≡ true → xs ≡ ys
bytes_same xs ys h = exact_bytes xs ys (eq_is nat_list_cmp_total xs ys h)

pub cover_same : (ps qs : List SuffixValue) → same_cover ps qs ≡ true → ps ≡ qs
cover_same [] [] h = refl
cover_same [] (q ∷ qs) h = cc
cover_same (p ∷ ps) [] h = cc
cover_same (p ∷ ps) (q ∷ qs) h =
    let k = and_parts (same_bytes p.suffix q.suffix && same_bytes p.value q.value) (same_cover ps qs) h in
    let g = and_parts (same_bytes p.suffix q.suffix) (same_bytes p.value q.value) k.0 in
    let e : p ≡ q = pair_same p.suffix q.suffix p.value q.value (bytes_same p.suffix q.suffix g.0) (bytes_same p.value q.value g.1) in
    rw (e, cover_same ps qs k.1) refl

pub same_cover_itself : (ps : List SuffixValue) → same_cover ps ps ≡ true
same_cover_itself [] = refl
same_cover_itself (p ∷ ps) = rw (tied_itself nat_list_cmp_total p.suffix, tied_itself nat_list_cmp_total p.value) (same_cover_itself ps)

pub same_cover_from : (ps qs : List SuffixValue) → ps ≡ qs → same_cover ps qs ≡ true
same_cover_from ps qs e = rw e (same_cover_itself qs)

pub differ : (ps qs : List SuffixValue) → same_cover ps qs ≡ false → ps ≢ qs
differ ps qs h e = let p = same_cover_from ps qs e in cc

pub record IsStart (es : List Entry) (o : IterOptions) (x a : List ℕ) : Type 0 where
  pub among : Among a (written_ends es o)
  pub upto : lt x a ≡ false
  pub one : (b : List ℕ) → Among b (written_ends es o) → lt x b ≡ false → lt b a ≡ false → cover es b ≡ cover es x
  pub least : (c : List ℕ) → Among c (written_ends es o) → lt x c ≡ false →
      ((b : List ℕ) → Among b (written_ends es o) → lt x b ≡ false → lt b c ≡ false → cover es b ≡ cover es x) → lt c a ≡ false

pub record IsStop (es : List Entry) (o : IterOptions) (x a : List ℕ) : Type 0 where
  pub among : Among a (written_ends es o)
  pub past : lt x a ≡ true
  pub differs : (below o.upper a ≡ false) ⊎ (same_cover (cover es a) (cover es x) ≡ false)
  pub least : (c : List ℕ) → Among c (written_ends es o) → lt x c ≡ true → (below o.upper c ≡ false) ⊎ (same_cover (cover es c) (cover es x) ≡ false) → lt c a ≡ false

-- the written ends up to a key
abbrev ends_upto : List Entry → IterOptions → List ℕ → List (List ℕ)
ends_upto es o x = filter (λ a. not (lt x a)) (written_ends es o)

abbrev may_start : List Entry → IterOptions → List ℕ → List ℕ → Bool
may_start es o x a = list_all (λ b. lt b a || same_cover (cover es b) (cover es x)) (ends_upto es o x)

may_start_gives : (es : List Entry) (o : IterOptions) (x a : List ℕ) → may_start es o x a ≡ true → (b : List ℕ) → Among b (written_ends es o) → lt x b ≡ false → lt b a ≡ false → cover es b ≡ cover es x
may_start_gives es o x a h b m k g =
    go (or_cases (lt b a) (same_cover (cover es b) (cover es x)) (every_gives (λ b. lt b a || same_cover (cover es b) (cover es x)) (ends_upto es o x) b h (among_filter (λ a. not (lt x a)) (written_ends es o) b m (rw k refl))))
  where
    go : (lt b a ≡ true) ⊎ (same_cover (cover es b) (cover es x) ≡ true) → cover es b ≡ cover es x
    go (inl e) = cc
    go (inr e) = cover_same (cover es b) (cover es x) e

may_start_from : (es : List Entry) (o : IterOptions) (x a : List ℕ) → ((b : List ℕ) → Among b (written_ends es o) → lt x b ≡ false → lt b a ≡ false → cover es b ≡ cover es x) → may_start es o x a ≡ true
may_start_from es o x a h = every_from (λ b. lt b a || same_cover (cover es b) (cover es x)) (ends_upto es o x) each
  where
    each : (b : List ℕ) → Among b (ends_upto es o x) → (lt b a || same_cover (cover es b) (cover es x)) ≡ true
    each b m = go (lt b a) refl (filter_among (λ a. not (lt x a)) (written_ends es o) b m)
      where
        go : (s : Bool) → lt b a ≡ s → Among b (written_ends es o) × (not (lt x b) ≡ true) → (s || same_cover (cover es b) (cover es x)) ≡ true
        go true e n = refl
        go false e n = same_cover_from (cover es b) (cover es x) (h b n.0 (not-true (lt x b) n.1) e)

abbrev pub back : (x y : List ℕ) → lt x y ≡ true → lt y x ≡ false
back x y h = lt_back key_total x y h

abbrev pub self : (x : List ℕ) → lt x x ≡ false
self x = lt_itself key_total x

pub start_is : (es : List Entry) (o : IterOptions) (x a : List ℕ) → span_start es o x ≡ Some a → IsStart es o x a
start_is es o x a h =
    let m = filter_among (may_start es o x) (ends_upto es o x) a (first_among (filter (may_start es o x) (ends_upto es o x)) a h) in
    let n = filter_among (λ a. not (lt x a)) (written_ends es o) a m.0 in
    record {
      among = n.0;
      upto = not-true (lt x a) n.1;
      one = may_start_gives es o x a m.1;
      least = λ c k g f. first_least lt back self (filter (may_start es o x) (ends_upto es o x)) a c
          (ascending_filter lt (may_start es o x) (ends_upto es o x) (ascending_filter lt (λ a. not (lt x a)) (written_ends es o) (ends_ascend es o)))
          h
          (among_filter (may_start es o x) (ends_upto es o x) c (among_filter (λ a. not (lt x a)) (written_ends es o) c k (rw g refl)) (may_start_from es o x c f));
    }

pub start_there : (es : List Entry) (o : IterOptions) (x : List ℕ) → in_bounds o x ≡ true → cover es x ≢ [] → (a : List ℕ) × (span_start es o x ≡ Some a)
start_there es o x inside some_cover = go (floor x (written_ends es o))
  where
    go : Floor x (written_ends es o) → (a : List ℕ) × (span_start es o x ≡ Some a)
    go (none f) = absurd (some_cover (cover_below_ends es o x inside f))
    go (some b m h f) = first_is (filter (may_start es o x) (ends_upto es o x)) b (among_filter (may_start es o x) (ends_upto es o x) b (among_filter (λ a. not (lt x a)) (written_ends es o) b m (rw h refl)) (may_start_from es o x b alone))
      where
        alone : (w : List ℕ) → Among w (written_ends es o) → lt x w ≡ false → lt w b ≡ false → cover es w ≡ cover es x
        alone w n k g = cover_alike w b es (eq_from key_total w b g (f w n k)) ∙ cover_at_floor es o x b inside m h f

abbrev may_stop : List Entry → IterOptions → List ℕ → List ℕ → Bool
may_stop es o x a = lt x a && (not (below o.upper a) || not (same_cover (cover es a) (cover es x)))

may_stop_from : (es : List Entry) (o : IterOptions) (x a : List ℕ) → lt x a ≡ true → (below o.upper a ≡ false) ⊎ (same_cover (cover es a) (cover es x) ≡ false) → may_stop es o x a ≡ true
may_stop_from es o x a h (inl e) = rw (h, e) refl
may_stop_from es o x a h (inr e) = rw (h, e) (go (below o.upper a))
  where
    go : (b : Bool) → (not b || true) ≡ true
    go true = refl
    go false = refl

pub stop_is : (es : List Entry) (o : IterOptions) (x a : List ℕ) → span_end es o x ≡ Some a → IsStop es o x a
stop_is es o x a h =
    let n = filter_among (may_stop es o x) (written_ends es o) a (first_among (filter (may_stop es o x) (written_ends es o)) a h) in
    let k = and_parts (lt x a) (not (below o.upper a) || not (same_cover (cover es a) (cover es x))) n.1 in
    record {
      among = n.0;
      past = k.0;
      differs = elim (or_cases (not (below o.upper a)) (not (same_cover (cover es a) (cover es x))) k.1) [ inl e ↦ inl (not-true (below o.upper a) e) | inr e ↦ inr (not-true (same_cover (cover es a) (cover es x)) e) ];
      least = λ c m g f. first_least lt back self (filter (may_stop es o x) (written_ends es o)) a c (ascending_filter lt (may_stop es o x) (written_ends es o) (ends_ascend es o)) h (among_filter (may_stop es o x) (written_ends es o) c m (may_stop_from es o x c g f));
    }

pub stop_there : (es : List Entry) (o : IterOptions) (x : List ℕ) → in_bounds o x ≡ true → cover es x ≢ [] → (a : List ℕ) × (span_end es o x ≡ Some a)
stop_there es o x inside some_cover = go o.upper refl
  where
    bounds : (at_or_above o.lower x ≡ true) × (below o.upper x ≡ true)
    bounds = and_parts (at_or_above o.lower x) (below o.upper x) inside

    found : (w : List ℕ) → Among w (written_ends es o) → lt x w ≡ true → (below o.upper w ≡ false) ⊎ (same_cover (cover es w) (cover es x) ≡ false) → (a : List ℕ) × (span_end es o x ≡ Some a)
    found w m h f = first_is (filter (may_stop es o x) (written_ends es o)) w (among_filter (may_stop es o x) (written_ends es o) w m (may_stop_from es o x w h f))

    at_bound : (u : List ℕ) → o.upper ≡ Some u → Like u (written_ends es o) → (a : List ℕ) × (span_end es o x ≡ Some a)
    at_bound u e (w, n) =
        let p : lt x u ≡ true = rw e at bounds.1 in
        let q : lt x w ≡ true = sym (ap is_lt (alike_right key_total u w x n.1)) ∙ p in
        let r : lt w u ≡ false = rw (tied_back key_total u w n.1) refl in
        let t : below o.upper w ≡ false = rw e r in
        found w n.0 q (inl t)

    at_top : o.upper ≡ None → (m : List ℕ) → Among m (written_ends es o) → ((w : List ℕ) → Among w (written_ends es o) → lt m w ≡ false) → (s : Bool) → lt x m ≡ s → (a : List ℕ) × (span_end es o x ≡ Some a)
    at_top e m n f true h = found m n h (inr (false_from_ne_true (same_cover (cover es m) (cover es x)) (λ k. some_cover (sym (cover_same (cover es m) (cover es x) k) ∙ cover_above_ends es o m (end_at_or_above es o x m inside n) e f))))
    at_top e m n f false h = absurd (some_cover (sym (cover_at_floor es o x m inside n h (λ w k g. f w k)) ∙ cover_above_ends es o m (end_at_or_above es o x m inside n) e f))

    go : (b : Option (List ℕ)) → o.upper ≡ b → (a : List ℕ) × (span_end es o x ≡ Some a)
    go (Some u) e = at_bound u e (is_end es o u (upper e))
    go None e = top_of (greatest (written_ends es o))
      where
        top_of : Greatest (written_ends es o) → (a : List ℕ) × (span_end es o x ≡ Some a)
        top_of (empty f) = absurd (some_cover (cover_below_ends es o x inside (λ w m. absurd (f w m))))
        top_of (top m n f) = at_top e m n f (lt x m) refl

-- what a widest span is
pub record IsSpan (es : List Entry) (o : IterOptions) (x : List ℕ) (s : WidestSpan) : Type 0 where
  pub start : IsStart es o x s.start
  pub stop : IsStop es o x s.end
  pub has : s.cover ≡ cover es x
  pub some : cover es x ≢ []

pub span_is : (es : List Entry) (o : IterOptions) (x : List ℕ) (s : WidestSpan) → widest_span es o x ≡ Some s → IsSpan es o x s
span_is es o x s h = go (cover es x) refl (span_start es o x) refl (span_end es o x) refl h
  where
    go : (c : List SuffixValue) → cover es x ≡ c → (a : Option (List ℕ)) → span_start es o x ≡ a → (b : Option (List ℕ)) → span_end es o x ≡ b →
        (if none_of c then None else option_and_then (λ s. option_map (λ e. record { start = s; end = e; cover = c }) b) a) ≡ Some s → IsSpan es o x s
    go [] e a f b g h = cc
    go (p ∷ ps) e None f b g h = cc
    go (p ∷ ps) e (Some a) f None g h = cc
    go (p ∷ ps) e (Some a) f (Some b) g h =
        let t : WidestSpan = record { start = a; end = b; cover = p ∷ ps } in
        let k : t ≡ s = same_Some t s h in
        record {
          start = subst (λ (t : WidestSpan). IsStart es o x t.start) k (start_is es o x a f);
          stop = subst (λ (t : WidestSpan). IsStop es o x t.end) k (stop_is es o x b g);
          has = sym (ap (λ (t : WidestSpan). t.cover) k) ∙ sym e;
          some = λ n. (let q : p ∷ ps ≡ [] = sym e ∙ n in cc);
        }

pub span_there : (es : List Entry) (o : IterOptions) (x : List ℕ) → in_bounds o x ≡ true → cover es x ≢ [] → (s : WidestSpan) × (widest_span es o x ≡ Some s)
span_there es o x inside n =
    let (a, f) = start_there es o x inside n in
    let (b, g) = stop_there es o x inside n in
    go (cover es x) refl a f b g
  where
    go : (c : List SuffixValue) → cover es x ≡ c → (a : List ℕ) → span_start es o x ≡ Some a → (b : List ℕ) → span_end es o x ≡ Some b →
        (s : WidestSpan) × ((if none_of c then None else option_and_then (λ s. option_map (λ e. record { start = s; end = e; cover = c }) (span_end es o x)) (span_start es o x)) ≡ Some s)
    go [] e a f b g = absurd (n e)
    go (p ∷ ps) e a f b g = (record { start = a; end = b; cover = p ∷ ps }, rw (f, g) refl)

-- every key from the start up to x has the cover of x
pub one_up_to : (es : List Entry) (o : IterOptions) (x a y : List ℕ) → in_bounds o x ≡ true → IsStart es o x a → lt y a ≡ false → lt x y ≡ false → (cover es y ≡ cover es x) × (in_bounds o y ≡ true)
one_up_to es o x a y inside s low high = go (floor y (written_ends es o))
  where
    bounds : (at_or_above o.lower x ≡ true) × (below o.upper x ≡ true)
    bounds = and_parts (at_or_above o.lower x) (below o.upper x) inside

    within_it : in_bounds o y ≡ true
    within_it = and_from (at_or_above o.lower y) (below o.upper y) (at_or_above_from o.lower a y (end_at_or_above es o x a inside s.among) low) (below_from o.upper x y bounds.1 high)

    go : Floor y (written_ends es o) → (cover es y ≡ cover es x) × (in_bounds o y ≡ true)
    go (none f) = let p : lt y a ≡ true = f a s.among in cc
    go (some b m h f) =
        (sym (cover_at_floor es o y b within_it m h f) ∙ s.one b m (ge_trans key_total x y b high h) (f a s.among low), within_it)

-- every key from x up to the end has the cover of x
pub one_from : (es : List Entry) (o : IterOptions) (x e y : List ℕ) → in_bounds o x ≡ true → IsStop es o x e → lt y x ≡ false → lt y e ≡ true → (cover es y ≡ cover es x) × (in_bounds o y ≡ true)
one_from es o x e y inside s low high = (go (floor y (written_ends es o)), within_it)
  where
    bounds : (at_or_above o.lower x ≡ true) × (below o.upper x ≡ true)
    bounds = and_parts (at_or_above o.lower x) (below o.upper x) inside

    within_it : in_bounds o y ≡ true
    within_it = and_from (at_or_above o.lower y) (below o.upper y) (at_or_above_from o.lower x y bounds.0 low) (end_at_or_below es o x e y inside s.among s.past high)

    go : Floor y (written_ends es o) → cover es y ≡ cover es x
    go (none f) = let p : cover es y ≡ [] = cover_below_ends es o y within_it f in (let q : cover es x ≡ [] = cover_below_ends es o x inside (λ w m. ge_lt key_total x y w low (f w m)) in p ∙ sym q)
    go (some b m h f) = either (lt x b) refl (same_cover (cover es b) (cover es x)) refl
      where
        at_b : cover es b ≡ cover es y
        at_b = cover_at_floor es o y b within_it m h f

        either : (t : Bool) → lt x b ≡ t → (u : Bool) → same_cover (cover es b) (cover es x) ≡ u → cover es y ≡ cover es x
        either t p true q = sym at_b ∙ cover_same (cover es b) (cover es x) q
        either true p false q =
            let r : lt b e ≡ false = s.least b m p (inr q) in
            let v : lt b e ≡ true = ge_lt key_total b y e h high in
            cc
        either false p false q = sym at_b ∙ cover_at_floor es o x b inside m p (λ w n g. f w n (ge_trans key_total y x w low g))

pub span_of_each_cover : SpanOfEachCover
span_of_each_cover es o x inside n =
    let (s, h) = span_there es o x inside n in
    let i = span_is es o x s h in
    (s, (h, and_from (not (lt x s.start)) (lt x s.end) (rw i.start.upto refl) i.stop.past, i.has))

pub span_has_one_cover : SpanHasOneCover
span_has_one_cover es o x y s inside h over_y = go (lt x y) refl (and_parts (not (lt y s.start)) (lt y s.end) over_y)
  where
    i : IsSpan es o x s
    i = span_is es o x s h

    go : (t : Bool) → lt x y ≡ t → (not (lt y s.start) ≡ true) × (lt y s.end ≡ true) → (cover es y ≡ s.cover) × (in_bounds o y ≡ true)
    go true e k = let r = one_from es o x s.end y inside i.stop (lt_back key_total x y e) k.1 in (r.0 ∙ sym i.has, r.1)
    go false e k = let r = one_up_to es o x s.start y inside i.start (not-true (lt y s.start) k.0) e in (r.0 ∙ sym i.has, r.1)

pub span_end_differs : SpanEndDiffers
span_end_differs es o x s inside h = go i.stop.differs (end_is es o s.end i.stop.among)
  where
    i : IsSpan es o x s
    i = span_is es o x s h

    bounds : (at_or_above o.lower x ≡ true) × (below o.upper x ≡ true)
    bounds = and_parts (at_or_above o.lower x) (below o.upper x) inside

    go : (below o.upper s.end ≡ false) ⊎ (same_cover (cover es s.end) (cover es x) ≡ false) → IsEnd es o s.end → (o.upper ≡ Some s.end) ⊎ (cover es s.end ≢ s.cover)
    go (inr d) w = inr (λ e. differ (cover es s.end) (cover es x) d (e ∙ i.has))
    go (inl d) (upper e) = inl e
    go (inl d) (inner a b m) = cc
    go (inl d) (lower e) =
        let p : not (lt x s.end) ≡ true = rw e at bounds.0 in
        let q : lt x s.end ≡ false = not-true (lt x s.end) p in
        let r : lt x s.end ≡ true = i.stop.past in
        cc

pub before_span_differs : BeforeSpanDiffers
before_span_differs es o x y s inside h y_inside before nothing same = go (floor y (written_ends es o))
  where
    i : IsSpan es o x s
    i = span_is es o x s h

    alike : cover es y ≡ cover es x
    alike = same ∙ i.has

    up : lt x y ≡ false
    up = lt_back key_total y x (lt_ge key_total y s.start x before i.start.upto)

    go : Floor y (written_ends es o) → ⊥
    go (none f) = i.some (sym alike ∙ cover_below_ends es o y y_inside f)
    go (some c m k f) =
        let p : lt c s.start ≡ false = i.start.least c m (ge_trans key_total x y c up k) one in
        let q : lt c s.start ≡ true = ge_lt key_total c y s.start k before in
        cc
      where
        one : (b : List ℕ) → Among b (written_ends es o) → lt x b ≡ false → lt b c ≡ false → cover es b ≡ cover es x
        one b n g d = either (lt y b) refl
          where
            either : (t : Bool) → lt y b ≡ t → cover es b ≡ cover es x
            either false e = cover_alike b c es (eq_from key_total b c d (f b n e)) ∙ cover_at_floor es o y c y_inside m k f ∙ alike
            either true e = i.start.one b n g (third (lt b s.start) refl)
              where
                third : (v : Bool) → lt b s.start ≡ v → v ≡ false
                third false r = refl
                third true r = let z : (lt y b && lt b s.start) ≡ false = any_false (is_between y s.start) (written_ends es o) b nothing n in (let zz : (lt y b && lt b s.start) ≡ true = and_from (lt y b) (lt b s.start) e r in cc)

pub span_parts : (s t : WidestSpan) → s.start ≡ t.start → s.end ≡ t.end → s.cover ≡ t.cover → s ≡ t
span_parts s t e f g = parts s.start t.start s.end t.end s.cover t.cover e f g
  where
    parts : (a b c d : List ℕ) (p q : List SuffixValue) → a ≡ b → c ≡ d → p ≡ q → ◌≡◌ {A = WidestSpan} (record { start = a; end = c; cover = p }) (record { start = b; end = d; cover = q })
    parts a b c d p q e f g = rw (e, f, g) refl

-- of written ends that are ordered alike there is one
pub one_end : (es : List Entry) (o : IterOptions) (a b : List ℕ) → Among a (written_ends es o) → Among b (written_ends es o) → lt a b ≡ false → lt b a ≡ false → a ≡ b
one_end es o a b m n h k = go (written_ends es o) (ends_ascend es o) m n
  where
    go : (l : List (List ℕ)) → Ascending lt l → Among a l → Among b l → a ≡ b
    go [] up m n = absurd m
    go (x ∷ xs) up (inl e) (inl f) = e ∙ sym f
    go (x ∷ xs) up (inl e) (inr n) = let p : lt x b ≡ true = among_all (λ z. lt x z ≡ true) xs b up.0 n in (let q : lt x b ≡ false = sym (ap (λ z. lt z b) e) ∙ h in cc)
    go (x ∷ xs) up (inr m) (inl f) = let p : lt x a ≡ true = among_all (λ z. lt x z ≡ true) xs a up.0 m in (let q : lt x a ≡ false = sym (ap (λ z. lt z a) f) ∙ k in cc)
    go (x ∷ xs) up (inr m) (inr n) = go xs up.1 m n

pub span_unique : (es : List Entry) (o : IterOptions) (x : List ℕ) (s t : WidestSpan) → IsStart es o x s.start → IsStop es o x s.end → s.cover ≡ cover es x → IsSpan es o x t → t ≡ s
span_unique es o x s t a b c i = span_parts t s (one_end es o t.start s.start i.start.among a.among (a.least t.start i.start.among i.start.upto i.start.one) (i.start.least s.start a.among a.upto a.one)) (one_end es o t.end s.end i.stop.among b.among (b.least t.end i.stop.among i.stop.past i.stop.differs) (i.stop.least s.end b.among b.past b.differs)) (i.has ∙ sym c)

pub span_of_its_keys : SpanOfItsKeys
span_of_its_keys es o x y s inside h over_y =
    let (t, g) = span_there es o y here.1 some_cover in
    g ∙ ap Some (span_unique es o y s t start stop (sym here.0) (span_is es o y t g))
  where
    i : IsSpan es o x s
    i = span_is es o x s h

    here : (cover es y ≡ s.cover) × (in_bounds o y ≡ true)
    here = span_has_one_cover es o x y s inside h over_y

    ends : (not (lt y s.start) ≡ true) × (lt y s.end ≡ true)
    ends = and_parts (not (lt y s.start)) (lt y s.end) over_y

    low : lt y s.start ≡ false
    low = not-true (lt y s.start) ends.0

    alike : cover es y ≡ cover es x
    alike = here.0 ∙ i.has

    some_cover : cover es y ≢ []
    some_cover e = i.some (sym alike ∙ e)

    inner_key : (b : List ℕ) → lt b s.start ≡ false → lt b s.end ≡ true → (cover es b ≡ s.cover) × (in_bounds o b ≡ true)
    inner_key b l u = span_has_one_cover es o x b s inside h (and_from (not (lt b s.start)) (lt b s.end) (rw l refl) u)

    start : IsStart es o y s.start
    start = record {
      among = i.start.among;
      upto = low;
      one = λ b m k g. (inner_key b g (ge_lt key_total b y s.end k ends.1)).0 ∙ sym here.0;
      least = least;
    }
      where
        least : (c : List ℕ) → Among c (written_ends es o) → lt y c ≡ false → ((b : List ℕ) → Among b (written_ends es o) → lt y b ≡ false → lt b c ≡ false → cover es b ≡ cover es y) → lt c s.start ≡ false
        least c m k f = go (lt c s.start) refl
          where
            one : lt c s.start ≡ true → (b : List ℕ) → Among b (written_ends es o) → lt x b ≡ false → lt b c ≡ false → cover es b ≡ cover es x
            one e b n l g = either (lt y b) refl
              where
                either : (t : Bool) → lt y b ≡ t → cover es b ≡ cover es x
                either false r = f b n r g ∙ alike
                either true r = i.start.one b n l (ge_trans key_total b y s.start (lt_back key_total y b r) low)

            go : (t : Bool) → lt c s.start ≡ t → t ≡ false
            go false e = refl
            go true e =
                let u : lt x c ≡ false = lt_back key_total c x (lt_ge key_total c s.start x e i.start.upto) in
                let p : lt c s.start ≡ false = i.start.least c m u (one e) in
                cc

    stop : IsStop es o y s.end
    stop = record {
      among = i.stop.among;
      past = ends.1;
      differs = elim i.stop.differs [ inl d ↦ inl d | inr d ↦ inr (rw alike d) ];
      least = least;
    }
      where
        least : (c : List ℕ) → Among c (written_ends es o) → lt y c ≡ true → (below o.upper c ≡ false) ⊎ (same_cover (cover es c) (cover es y) ≡ false) → lt c s.end ≡ false
        least c m k d = go (lt c s.end) refl d
          where
            go : (t : Bool) → lt c s.end ≡ t → (below o.upper c ≡ false) ⊎ (same_cover (cover es c) (cover es y) ≡ false) → t ≡ false
            go false e d = refl
            go true e (inl d) =
                let p = inner_key c (ge_trans key_total c y s.start (lt_back key_total y c k) low) e in
                let q : below o.upper c ≡ true = (and_parts (at_or_above o.lower c) (below o.upper c) p.1).1 in
                cc
            go true e (inr d) =
                let p = inner_key c (ge_trans key_total c y s.start (lt_back key_total y c k) low) e in
                let q : same_cover (cover es c) (cover es y) ≡ true = same_cover_from (cover es c) (cover es y) (p.0 ∙ sym here.0) in
                cc
