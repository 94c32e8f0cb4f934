-- The nearest position of what is seen is the first place on from the cut, with the span over it and the value there.
use Rattle.std.proofs.Common.{◌≡◌, ℕ, ◌<◌, ◌≤◌, Bool, true, false, not, ◌&&◌, List, [], filter, Option, Some, None, refl, sym, ap, ◌∙◌, subst, ◌⊎◌, inl, inr, arith, if◌then◌else◌, option_and_then}
use Rattle.std.specs.Prelude.{IsTrue, MatchOption}
use Rattle.std.specs.List.{slice_get}
use Rattle.std.specs.Option.{option_map_or}
use Rattle.std.specs.Ordering.{is_lt, is_eq, ordering_reverse}
use Rattle.std.specs.declared.cmp.Ordering.TheVariants.{Equal}
use Rattle.std.proofs.lemmas.Bool.{cases_lt, and_parts, true≢false}
use Rattle.std.proofs.lemmas.Option.{same_Some}
use Rattle.std.proofs.lemmas.Cmp.{tied_itself}
use Rattle.rk_key.specs.Keys.{IsKey, key_cmp, suffix}
use Rattle.rk_key.specs.KeyTests.{is_key}
use Rattle.rk_key.proofs.KeyTests.{key_by_test}
use Rattle.rk_key.proofs.Equality.{same_key_from_eq}
use Rattle.rk_laws.proofs.Order.{key_total, lt_itself, lt_back, ge_trans, lt_ge, eq_from, eq_is}
use Rattle.rk_model.specs.Cuts.{is_passed}
use Rattle.rk_model.specs.Covers.{put_value, upto}
use Rattle.rk_model.specs.Items.{span_takes, keyed_points, keyed_extents}
use Rattle.rk_model.specs.Lists.{Among, first_of, none_of}
use Rattle.rk_model.specs.Operations.{within}
use Rattle.rk_model.specs.Positions.{masks, begins_span}
use Rattle.rk_model.specs.Sources.{op_key}
use Rattle.rk_model.specs.Spans.{at_or_above, below, in_bounds, WidestSpan, widest_span, written_ends}
use Rattle.rk_model.specs.declared.op.Entry.{Entry}
use Rattle.rk_model.specs.declared.span.Span.{Span}
use Rattle.rk_model.specs.declared.options.IterOptions.{IterOptions}
use Rattle.rk_model.specs.declared.cut.Cut.{Cut}
use Rattle.rk_model.proofs.Members.{every_gives, among_filter, filter_among, first_is, first_among, map_among, filter_map_among}
use Rattle.rk_merge.proofs.Counts.{slice_among}
use Rattle.rk_span_laws.specs.Joined.{entries_of, joined, widest_spans, as_span}
use Rattle.rk_span_laws.specs.Given.IsPlace.{of_point, of_span}
use Rattle.rk_span_laws.specs.Given.{AreShown, IsPlace, is_hidden, is_hidden_in, is_sooner, span_over}
use Rattle.rk_interleave.specs.Settling.{IsBehind, seen_over, seen_value, nearest}
use Rattle.rk_interleave.specs.Standing.{lies_on, beside}
use Rattle.rk_interleave.proofs.Cutting.{not_is}
use Rattle.rk_interleave.proofs.Orders.{Rises, Farther, below_key, apart, puts_rise, among_get}
use Rattle.rk_interleave.proofs.Parts.{IsPart}
use Rattle.rk_interleave.proofs.Near.{Nears, IsSeen, InOrder, in_order, over_is, over_none}

-- the value of the put on a key
abbrev pub value_on : List Entry → List ℕ → Option (List ℕ)
value_on ps y = option_and_then (λ e. put_value e.op) (first_of (filter (λ e. is_eq (key_cmp (op_key e.op) y)) ps))

-- what is known of a key that is found
pub record IsFound (forward : Bool) (cut : Cut (List ℕ)) (o : IterOptions) (ps xs : List Entry) (ss : List Span) (here : Option Entry) (span : Option Span) (g h : ℕ) (y : List ℕ) : Type 0 where
  pub key : IsKey y
  pub inside : in_bounds o y ≡ true
  pub over : seen_over span y ≡ span_over ss y
  pub value : seen_value o here (seen_over span y) y ≡ (if is_hidden o ss y then None else value_on ps y)
  pub place : IsPlace o ps ss y
  pub on : lies_on forward cut y ≡ true
  pub soon : (z : List ℕ) → IsPlace o ps ss z → lies_on forward cut z ≡ true → is_sooner forward z y ≡ false
  pub points : (i : ℕ) (e : Entry) → slice_get xs i ≡ Some e → IsBehind forward g i → is_sooner forward y (op_key e.op) ≡ false
  pub spans : (i : ℕ) (s : Span) → slice_get ss i ≡ Some s → IsBehind forward h i → is_passed forward (span_takes forward (beside forward y) s) ≡ true

pub sooner_trans : (f : Bool) (x y z : List ℕ) → is_sooner f x y ≡ false → is_sooner f y z ≡ false → is_sooner f x z ≡ false
sooner_trans true x y z a b = ge_trans key_total x y z a b
sooner_trans false x y z a b = ge_trans key_total z y x b a

sooner_itself : (f : Bool) (x : List ℕ) → is_sooner f x x ≡ false
sooner_itself true x = lt_itself key_total x
sooner_itself false x = lt_itself key_total x

sooner_back : (f : Bool) (x y : List ℕ) → is_sooner f x y ≡ true → is_sooner f y x ≡ false
sooner_back true x y a = lt_back key_total x y a
sooner_back false x y a = lt_back key_total y x a

tied : (f : Bool) (x y : List ℕ) → is_sooner f x y ≡ false → is_sooner f y x ≡ false → is_eq (key_cmp x y) ≡ true
tied true x y a b = ap is_eq (eq_from key_total x y a b)
tied false x y a b = ap is_eq (eq_from key_total x y b a)

-- under no range key nothing is hidden
pub hidden_none : (o : IterOptions) (x : List ℕ) → is_hidden_in o None x ≡ false
hidden_none o x = go o.mask
  where
    none : (a b : Bool) → ((a && b) && false) ≡ false
    none true true = refl
    none true false = refl
    none false b = refl

    go : (m : Option (List ℕ)) → option_map_or (λ m. masks [] m x) m false ≡ false
    go None = refl
    go (Some m) = none (not (none_of m)) (not (none_of (suffix x)))

-- a point is the only one of its key
pub only_key : (ps : List Entry) → Rises below_key ps → (e d : Entry) → Among e ps → Among d ps → is_eq (key_cmp (op_key e.op) (op_key d.op)) ≡ true → e ≡ d
only_key ps rise e d m n tie = let (i, is) = among_get ps e m in let (j, at) = among_get ps d n in go i j is at (cases_lt i j) (cases_lt j i)
  where
    equal : key_cmp (op_key e.op) (op_key d.op) ≡ Equal
    equal = eq_is key_total (op_key e.op) (op_key d.op) tie

    less : is_lt (key_cmp (op_key e.op) (op_key d.op)) ≡ false
    less = ap is_lt equal

    more : is_lt (key_cmp (op_key d.op) (op_key e.op)) ≡ false
    more = ap is_lt (key_total.antisymm (op_key d.op) (op_key e.op) ∙ ap ordering_reverse equal)

    go : (i j : ℕ) → slice_get ps i ≡ Some e → slice_get ps j ≡ Some d → (i < j) ⊎ (j ≤ i) → (j < i) ⊎ (i ≤ j) → e ≡ d
    go i j is at (inl lt) r = absurd (true≢false (sym (rise i j e d lt is at) ∙ less))
    go i j is at (inr ge) (inl lt) = absurd (true≢false (sym (rise j i d e lt at is) ∙ more))
    go i j is at (inr ge) (inr le) = let e' : i ≡ j = omega (arith, ge, le) in same_Some _ _ (sym is ∙ ap (slice_get ps) e' ∙ at)

pub value_of_point : (ps : List Entry) → Rises below_key ps → (d : Entry) → Among d ps → value_on ps (op_key d.op) ≡ put_value d.op
value_of_point ps rise d m =
    let t = λ (e : Entry). is_eq (key_cmp (op_key e.op) (op_key d.op)) in
    let in' = among_filter t ps d m (ap is_eq (tied_itself key_total (op_key d.op))) in
    let (e, is) = first_is (filter t ps) d in' in
    let found = filter_among t ps e (first_among (filter t ps) e is) in
    ap (option_and_then (λ e. put_value e.op)) (is ∙ ap Some (only_key ps rise e d found.0 m found.1))

-- where a key has no point, it has no value
pub no_value : (ps : List Entry) (y : List ℕ) → ((e : Entry) → Among e ps → is_eq (key_cmp (op_key e.op) y) ≡ true → ⊥) → value_on ps y ≡ None
no_value ps y none = go (first_of (filter (λ e. is_eq (key_cmp (op_key e.op) y)) ps)) refl
  where
    go : (p : Option Entry) → first_of (filter (λ e. is_eq (key_cmp (op_key e.op) y)) ps) ≡ p → option_and_then (λ e. put_value e.op) p ≡ None
    go None is = refl
    go (Some e) is = let found = filter_among (λ e. is_eq (key_cmp (op_key e.op) y)) ps e (first_among (filter (λ e. is_eq (key_cmp (op_key e.op) y)) ps) e is) in absurd (none e found.0 found.1)

-- the widest spans begin within the bounds
pub start_inside : (n : ℕ) (o : IterOptions) (ss : List Span) → joined n o ss ≡ ss → (s : Span) → Among s ss → in_bounds o s.start ≡ true
start_inside n o ss wide s m =
    let es = upto n (entries_of ss) in
    let (w, at) = map_among (as_span n) (widest_spans es o) s (rw wide m) in
    let (a, is) = filter_map_among (λ a. if in_bounds o a && begins_span es o a then widest_span es o a else None) (written_ends es o) w at.0 in
    ap (λ z. in_bounds o z.start) at.1 ∙ go es a w is.1
  where
    tie : (x a : List ℕ) → is_eq (key_cmp x a) ≡ true → in_bounds o a ≡ true → in_bounds o x ≡ true
    tie x a e inn = same o.lower o.upper inn
      where
        same : (lower upper : Option (List ℕ)) → (at_or_above lower a && below upper a) ≡ true → (at_or_above lower x && below upper x) ≡ true
        same None None h = refl
        same None (Some u) h = rw (key_total.congr x a u (eq_is key_total x a e)) h
        same (Some l) None h = rw (key_total.congr x a l (eq_is key_total x a e)) h
        same (Some l) (Some u) h = rw (key_total.congr x a l (eq_is key_total x a e), key_total.congr x a u (eq_is key_total x a e)) h

    go : (es : List Entry) (a : List ℕ) (w : WidestSpan) → (if in_bounds o a && begins_span es o a then widest_span es o a else None) ≡ Some w → in_bounds o w.start ≡ true
    go es a w is = step (in_bounds o a && begins_span es o a) refl is
      where
        step : (b : Bool) → (in_bounds o a && begins_span es o a) ≡ b → (if b then widest_span es o a else None) ≡ Some w → in_bounds o w.start ≡ true
        step true e at = let parts = and_parts (in_bounds o a) _ e in tie w.start a (ap (λ p. option_map_or (λ z. is_eq (key_cmp z.start a)) p false) (sym at) ∙ parts.1) parts.0
        step false e at = cc

-- a point on a key, and the start of a span, are keys
pub key_of_point : (ps : List Entry) → IsTrue (keyed_points ps) → (e : Entry) → Among e ps → IsKey (op_key e.op)
key_of_point ps keyed e m = key_by_test (op_key e.op) (every_gives (λ e. is_key (op_key e.op)) ps e (and_parts _ _ keyed).1 m)

pub key_of_start : (ss : List Span) → IsTrue (keyed_extents ss) → (s : Span) → Among s ss → IsKey s.start
key_of_start ss ordered s m = key_by_test s.start (and_parts (is_key s.start) _ (every_gives (λ s. is_key s.start && is_key s.end) ss s (and_parts _ _ ordered).1 m)).0

module _ (n : ℕ) (o : IterOptions) (ps : List Entry) (ss : List Span) (sh : AreShown n o ps ss) (keyed : IsTrue (keyed_points ps)) (xs : List Entry) (part : IsPart o ps xs)
    (forward : Bool) (cut : Cut (List ℕ)) (begun : Bool) (here : Option Entry) (span : Option Span) (g h : ℕ) (near : Nears forward cut o xs ss begun here span g h) where
  order : InOrder ss
  order = in_order ss sh.ordered

  rise : Rises below_key ps
  rise = puts_rise ps sh.single

  here_among : (d : Entry) → here ≡ Some d → Among d ps × (in_bounds o (op_key d.op) ≡ true)
  here_among d is = let (i, at) = near.here_in d is in let (j, of) = part.of i d at in (slice_among ps j d of.0, of.1)

  -- each place that is a point's is no sooner than the point that is seen, and that of a span than the span that is
  point_soon : (e : Entry) → Among e ps → in_bounds o (op_key e.op) ≡ true → is_hidden o ss (op_key e.op) ≡ false → lies_on forward cut (op_key e.op) ≡ true → (d : Entry) × ((here ≡ Some d) × (is_sooner forward (op_key e.op) (op_key d.op) ≡ false))
  point_soon e m inn shown on = let (i, at) = part.all e m inn in near.points i e at on shown

  -- a farther span begins no sooner
  far_start : (u s : Span) → Among u ss → Among s ss → Farther forward apart u s → is_sooner forward s.start u.start ≡ false
  far_start u s mu ms far = go forward far
    where
      go : (f : Bool) → Farther f apart u s → is_sooner f s.start u.start ≡ false
      go true away = lt_back key_total u.start s.start (lt_ge key_total u.start u.end s.start (order.proper u mu) (not_is _ true away))
      go false away = lt_back key_total s.start u.start (lt_ge key_total s.start s.end u.start (order.proper s ms) (not_is _ true away))

  span_soon : begun ≡ false → (s : Span) → Among s ss → lies_on forward cut s.start ≡ true → (u : Span) × ((span ≡ Some u) × (is_sooner forward s.start u.start ≡ false))
  span_soon b s m on = go (near.starts s m on)
    where
      go : IsSeen forward span s → (u : Span) × ((span ≡ Some u) × (is_sooner forward s.start u.start ≡ false))
      go (u, (at, inl same)) = (u, (at, rw same (sooner_itself forward u.start)))
      go (u, (at, inr far)) = (u, (at, far_start u s (near.span_in u at) m far))

  -- a key that is no later than the span that is seen, and not in it, is in no farther one
  not_farther : (u s : Span) (y : List ℕ) → Among u ss → Among s ss → Farther forward apart u s → is_sooner forward u.start y ≡ false → within s.start s.end y ≡ true → ⊥
  not_farther u s y mu ms far upto over = go forward far upto
    where
      low : is_lt (key_cmp y s.start) ≡ false
      low = not_is _ true (and_parts (not (is_lt (key_cmp y s.start))) _ over).0

      high : is_lt (key_cmp y s.end) ≡ true
      high = (and_parts (not (is_lt (key_cmp y s.start))) _ over).1

      go : (f : Bool) → Farther f apart u s → is_sooner f u.start y ≡ false → ⊥
      go true away le = let a = ge_trans key_total y s.start u.end low (not_is _ true away) in let b = ge_trans key_total u.start y u.end le a in true≢false (sym (order.proper u mu) ∙ b)
      go false away le = let a = ge_trans key_total y u.start s.end le (not_is _ true away) in true≢false (sym high ∙ a)

  over_at : (d : Entry) → here ≡ Some d → (begun ≡ true) ⊎ ((u : Span) → span ≡ Some u → is_sooner forward u.start (op_key d.op) ≡ false) → (p : Option Span) → span ≡ p → seen_over p (op_key d.op) ≡ span_over ss (op_key d.op)
  over_at d is near_it None at = sym (over_none ss (op_key d.op) (λ s m over. none (near.over d is s m over)))
    where
      none : {s : Span} → IsSeen forward span s → ⊥
      none (u, (there, far)) = let e = sym at ∙ there in cc
  over_at d is near_it (Some u) at = go (within u.start u.end (op_key d.op)) refl
    where
      y : List ℕ
      y = op_key d.op

      go : (b : Bool) → within u.start u.end y ≡ b → (if b then Some u else None) ≡ span_over ss y
      go true over = sym (over_is ss order.rise u y (near.span_in u at) over)
      go false out = sym (over_none ss y (λ s m over. none s m over (near.over d is s m over)))
        where
          in_begun : begun ≡ true → ⊥
          in_begun b = let (f, rest) = near.inside b in let (d', more) = rest in let (u', them) = more in
              let ed : d ≡ d' = same_Some _ _ (sym is ∙ them.0) in let eu : u ≡ u' = same_Some _ _ (sym at ∙ them.1) in
              let over : within u.start u.end y ≡ true = rw (eu, ed) them.2 in true≢false (sym over ∙ out)

          far_away : (s : Span) → Among s ss → within s.start s.end y ≡ true → Farther forward apart u s → (begun ≡ true) ⊎ ((u : Span) → span ≡ Some u → is_sooner forward u.start y ≡ false) → ⊥
          far_away s m over far (inl b) = in_begun b
          far_away s m over far (inr upto) = not_farther u s y (near.span_in u at) m far (upto u at) over

          none : (s : Span) → Among s ss → within s.start s.end y ≡ true → IsSeen forward span s → ⊥
          none s m over (u', (there, inl same)) = let e : u' ≡ u = same_Some _ _ (sym there ∙ at) in let w : within s.start s.end y ≡ false = ap (λ z. within z.start z.end y) (same ∙ e) ∙ out in true≢false (sym over ∙ w)
          none s m over (u', (there, inr far)) = let e : u' ≡ u = same_Some _ _ (sym there ∙ at) in far_away s m over (subst (λ z. Farther forward apart z s) e far) near_it

  -- a point that is seen and no later than the span that is seen
  abbrev IsNear : Entry → Type 0
  IsNear d = (begun ≡ true) ⊎ ((u : Span) → span ≡ Some u → is_sooner forward u.start (op_key d.op) ≡ false)

  place_at : (d : Entry) → here ≡ Some d → IsNear d → IsPlace o ps ss (op_key d.op)
  place_at d is near_it = go (is_hidden o ss (op_key d.op)) refl span refl
    where
      y : List ℕ
      y = op_key d.op

      among : Among d ps × (in_bounds o y ≡ true)
      among = here_among d is

      -- hidden in the span that is seen, it is where that begins
      begins : (u : Span) → span ≡ Some u → within u.start u.end y ≡ true → is_hidden_in o (Some u) y ≡ true → IsNear d → IsPlace o ps ss y
      begins u at over hid (inl b) = absurd (true≢false (sym hid ∙ near.shown d u is at (inl b) over))
      begins u at over hid (inr upto) = way forward refl (upto u at)
        where
          way : (f : Bool) → forward ≡ f → is_sooner forward u.start y ≡ false → IsPlace o ps ss y
          way false back le = absurd (true≢false (sym hid ∙ near.shown d u is at (inr back) over))
          way true on le =
              let above : is_lt (key_cmp u.start y) ≡ false = subst (λ f. is_sooner f u.start y ≡ false) on le in
              let upon : is_lt (key_cmp y u.start) ≡ false = not_is _ true (and_parts (not (is_lt (key_cmp y u.start))) _ over).0 in
              of_span u (near.span_in u at) (same_key_from_eq u.start y (key_of_start ss sh.ordered u (near.span_in u at)) (key_of_point ps keyed d among.0) (ap is_eq (eq_from key_total u.start y above upon)))

      go : (b : Bool) → is_hidden o ss y ≡ b → (p : Option Span) → span ≡ p → IsPlace o ps ss y
      go false shown p at = of_point d among.0 refl among.1 shown
      go true hid None at = let o' = sym (ap (λ q. is_hidden_in o q y) (over_at d is near_it None at)) in absurd (true≢false (sym hid ∙ o' ∙ hidden_none o y))
      go true hid (Some u) at = inside (within u.start u.end y) refl
        where
          same : is_hidden_in o (seen_over (Some u) y) y ≡ true
          same = ap (λ q. is_hidden_in o q y) (over_at d is near_it (Some u) at) ∙ hid

          inside : (b : Bool) → within u.start u.end y ≡ b → IsPlace o ps ss y
          inside true over = begins u at over (subst (λ b. is_hidden_in o (if b then Some u else None) y ≡ true) over same) near_it
          inside false out = absurd (true≢false (sym (subst (λ b. is_hidden_in o (if b then Some u else None) y ≡ true) out same) ∙ hidden_none o y))

  value_at : (d : Entry) → here ≡ Some d → seen_over span (op_key d.op) ≡ span_over ss (op_key d.op) → seen_value o here (seen_over span (op_key d.op)) (op_key d.op) ≡ (if is_hidden o ss (op_key d.op) then None else value_on ps (op_key d.op))
  value_at d is over = rw (is, over, ap is_eq (tied_itself key_total (op_key d.op)), value_of_point ps rise d (here_among d is).0) (go (is_hidden o ss (op_key d.op)))
    where
      go : (b : Bool) → (if not b then put_value d.op else None) ≡ (if b then None else put_value d.op)
      go true = refl
      go false = refl

  at_point : (d : Entry) → here ≡ Some d → IsNear d → IsFound forward cut o ps xs ss here span g h (op_key d.op)
  at_point d is near_it = record {
    key = key_of_point ps keyed d (here_among d is).0;
    inside = (here_among d is).1;
    over = over_at d is near_it span refl;
    value = value_at d is (over_at d is near_it span refl);
    place = place_at d is near_it;
    on = near.here_on d is;
    soon = λ z place on. soon z place on;
    points = λ i e at behind. near.points_here i e at behind d is;
    spans = λ i s at behind. near.spans_here i s at behind d is;
  }
    where
      y : List ℕ
      y = op_key d.op

      in_begun : (s : Span) → Among s ss → lies_on forward cut s.start ≡ true → begun ≡ true → is_sooner forward s.start y ≡ false
      in_begun s m on b =
          let (f, rest) = near.inside b in let (d', more) = rest in let (u, them) = more in
          let ed : d' ≡ d = same_Some _ _ (sym them.0 ∙ is) in
          let high : is_lt (key_cmp y u.end) ≡ true = ap (λ e. is_lt (key_cmp (op_key e.op) u.end)) (sym ed) ∙ (and_parts (not (is_lt (key_cmp (op_key d'.op) u.start))) _ them.2).1 in
          far f u them.1 high (near.starts s m on)
        where
          far : forward ≡ true → (u : Span) → span ≡ Some u → is_lt (key_cmp y u.end) ≡ true → IsSeen forward span s → is_sooner forward s.start y ≡ false
          far f u at high (u', (there, inl same)) =
              let off : lies_on forward cut s.start ≡ false = ap (λ w. lies_on forward cut w.start) same ∙ near.span_off u' there b in absurd (true≢false (sym on ∙ off))
          far f u at high (u', (there, inr away)) =
              let e : u' ≡ u = same_Some _ _ (sym there ∙ at) in
              let apart_is : apart u s ≡ true = subst (λ g. Farther g apart u s) f (subst (λ w. Farther forward apart w s) e away) in
              rw f (lt_back key_total y s.start (lt_ge key_total y u.end s.start high (not_is _ true apart_is)))

      soon : (z : List ℕ) → IsPlace o ps ss z → lies_on forward cut z ≡ true → is_sooner forward z y ≡ false
      soon z (of_point e m same inn shown) on =
          let (d', far) = point_soon e m (rw same inn) (rw same shown) (rw same on) in
          let ed : d' ≡ d = same_Some _ _ (sym far.0 ∙ is) in
          subst (λ w. is_sooner forward w y ≡ false) same (subst (λ c. is_sooner forward (op_key e.op) (op_key c.op) ≡ false) ed far.1)
      soon z (of_span s m same) on = go near_it
        where
          go : IsNear d → is_sooner forward z y ≡ false
          go (inl b) = subst (λ w. is_sooner forward w y ≡ false) same (in_begun s m (rw same on) b)
          go (inr upto) = case_begun begun refl
            where
              case_begun : (b : Bool) → begun ≡ b → is_sooner forward z y ≡ false
              case_begun true b = subst (λ w. is_sooner forward w y ≡ false) same (in_begun s m (rw same on) b)
              case_begun false b = let (u, far) = span_soon b s m (rw same on) in subst (λ w. is_sooner forward w y ≡ false) same (sooner_trans forward s.start u.start y far.1 (upto u far.0))

  at_start : (u : Span) → span ≡ Some u → begun ≡ false → ((d : Entry) → here ≡ Some d → is_sooner forward (op_key d.op) u.start ≡ false) → IsFound forward cut o ps xs ss here span g h u.start
  at_start u is fresh upto = record {
    key = key;
    inside = inside;
    over = over;
    value = rw over (value here refl (is_hidden o ss u.start) refl);
    place = of_span u among refl;
    on = near.span_on u is fresh;
    soon = soon;
    points = λ i e at behind. near.points_span i e at behind u is fresh;
    spans = λ i s at behind. near.spans_span i s at behind u is fresh;
  }
    where
      y : List ℕ
      y = u.start

      among : Among u ss
      among = near.span_in u is

      key : IsKey y
      key = key_of_start ss sh.ordered u among

      inside : in_bounds o y ≡ true
      inside = start_inside n o ss sh.widest u among

      in_itself : within u.start u.end y ≡ true
      in_itself = rw (lt_itself key_total u.start, order.proper u among) refl

      over : seen_over span y ≡ span_over ss y
      over = rw (is, in_itself) (sym (over_is ss order.rise u y among in_itself))

      -- a point on the key that is not hidden is the one that is seen
      point_there : (e : Entry) → Among e ps → is_eq (key_cmp (op_key e.op) y) ≡ true → is_hidden o ss y ≡ false → (d : Entry) × ((here ≡ Some d) × (is_eq (key_cmp (op_key d.op) y) ≡ true))
      point_there e m tie shown =
          let same = same_key_from_eq (op_key e.op) y (key_of_point ps keyed e m) key tie in
          let (d, far) = point_soon e m (rw same inside) (rw same shown) (rw same (near.span_on u is fresh)) in
          (d, (far.0, tied forward (op_key d.op) y (upto d far.0) (subst (λ w. is_sooner forward w (op_key d.op) ≡ false) same far.1)))

      none_then : is_hidden o ss y ≡ false → ((d : Entry) → here ≡ Some d → is_eq (key_cmp (op_key d.op) y) ≡ true → ⊥) → value_on ps y ≡ None
      none_then shown out = no_value ps y (λ e m tie. let (d, at) = point_there e m tie shown in out d at.0 at.1)

      value : (p : Option Entry) → here ≡ p → (hid : Bool) → is_hidden o ss y ≡ hid → seen_value o p (span_over ss y) y ≡ (if is_hidden o ss y then None else value_on ps y)
      value None at true e = rw e refl
      value None at false e = rw e (sym (none_then e (λ d there tie. absurd (none_some d (sym at ∙ there)))))
        where
          none_some : (d : Entry) → None ≡ Some d → ⊥
          none_some d q = cc
      value (Some d) at hid e = go (is_eq (key_cmp (op_key d.op) y)) refl hid e
        where
          go : (b : Bool) → is_eq (key_cmp (op_key d.op) y) ≡ b → (hid : Bool) → is_hidden o ss y ≡ hid → seen_value o (Some d) (span_over ss y) y ≡ (if is_hidden o ss y then None else value_on ps y)
          go true tie true e = rw (tie, e) refl
          go true tie false e =
              let same = same_key_from_eq (op_key d.op) y (key_of_point ps keyed d (here_among d at).0) key tie in
              rw (tie, e) (sym (subst (λ w. value_on ps w ≡ put_value d.op) same (value_of_point ps rise d (here_among d at).0)))
          go false apart_it true e = rw (apart_it, e) refl
          go false apart_it false e = rw (apart_it, e) (sym (none_then e (λ d' there tie. let ed : d' ≡ d = same_Some _ _ (sym there ∙ at) in true≢false (sym tie ∙ ap (λ c. is_eq (key_cmp (op_key c.op) y)) ed ∙ apart_it))))

      soon : (z : List ℕ) → IsPlace o ps ss z → lies_on forward cut z ≡ true → is_sooner forward z y ≡ false
      soon z (of_point e m same inn shown) on =
          let (d, far) = point_soon e m (rw same inn) (rw same shown) (rw same on) in
          subst (λ w. is_sooner forward w y ≡ false) same (sooner_trans forward (op_key e.op) (op_key d.op) y far.1 (upto d far.0))
      soon z (of_span s m same) on =
          let (u', far) = span_soon fresh s m (rw same on) in
          let eu : u' ≡ u = same_Some _ _ (sym far.0 ∙ is) in
          subst (λ w. is_sooner forward w y ≡ false) same (subst (λ w. is_sooner forward s.start w.start ≡ false) eu far.1)

  -- the nearest position, or none where no place lies on
  pub found : (p : Option (List ℕ)) → nearest forward begun here span ≡ p → MatchOption p ((z : List ℕ) → IsPlace o ps ss z → lies_on forward cut z ≡ true → ⊥) (λ y. IsFound forward cut o ps xs ss here span g h y)
  found p is = subst (λ q. MatchOption q ((z : List ℕ) → IsPlace o ps ss z → lies_on forward cut z ≡ true → ⊥) (λ y. IsFound forward cut o ps xs ss here span g h y)) is (go begun refl here refl span refl)
    where
      Goal : Option (List ℕ) → Type 0
      Goal q = MatchOption q ((z : List ℕ) → IsPlace o ps ss z → lies_on forward cut z ≡ true → ⊥) (λ y. IsFound forward cut o ps xs ss here span g h y)

      none_there : {A : Type 0} (a : A) (q : Option A) → q ≡ None → q ≡ Some a → ⊥
      none_there a q e f = let x = sym e ∙ f in cc

      either : (d : Entry) (u : Span) → here ≡ Some d → span ≡ Some u → begun ≡ false → (b : Bool) → is_sooner forward u.start (op_key d.op) ≡ b → Goal (Some (if b then u.start else op_key d.op))
      either d u is at fresh true less = at_start u at fresh (λ d' is'. let e : d ≡ d' = same_Some _ _ (sym is ∙ is') in subst (λ c. is_sooner forward (op_key c.op) u.start ≡ false) e (sooner_back forward u.start (op_key d.op) less))
      either d u is at fresh false more = at_point d is (inr (λ u' at'. let e : u ≡ u' = same_Some _ _ (sym at ∙ at') in subst (λ w. is_sooner forward w.start (op_key d.op) ≡ false) e more))

      go : (b : Bool) → begun ≡ b → (q : Option Entry) → here ≡ q → (r : Option Span) → span ≡ r → Goal (nearest forward b q r)
      go true was None is r at = let (f, rest) = near.inside was in let (d, more) = rest in let (u, them) = more in absurd (none_there d here is them.0)
      go true was (Some d) is r at = at_point d is (inl was)
      go false was None is None at = λ z place on. none z place on
        where
          none : (z : List ℕ) → IsPlace o ps ss z → lies_on forward cut z ≡ true → ⊥
          none z (of_point e m same inn shown) on = let (d, far) = point_soon e m (rw same inn) (rw same shown) (rw same on) in none_there d here is far.0
          none z (of_span s m same) on = let (u, far) = near.starts s m (rw same on) in none_there u span at far.0
      go false was None is (Some u) at = at_start u at was (λ d there. absurd (none_there d here is there))
      go false was (Some d) is None at = at_point d is (inr (λ u there. absurd (none_there u span at there)))
      go false was (Some d) is (Some u) at = either d u is at was (is_sooner forward u.start (op_key d.op)) refl
