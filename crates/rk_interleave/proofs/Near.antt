-- What is seen where the sources have settled, by the lists alone.
use Rattle.std.proofs.Common.{◌≡◌, ℕ, ◌+◌, ◌<◌, ◌≤◌, Bool, true, false, not, ◌&&◌, ◌||◌, List, filter, length, Option, Some, None, refl, sym, ap, ◌∙◌, subst, ◌⊎◌, inl, inr, arith, if◌then◌else◌}
use Rattle.std.specs.Prelude.{IsTrue, IfSome}
use Rattle.std.specs.List.{slice_get}
use Rattle.std.specs.Ordering.{is_lt}
use Rattle.std.proofs.lemmas.Bool.{cases_lt, and_parts, or_cases}
use Rattle.std.proofs.lemmas.Option.{same_Some, slice_get_within}
use Rattle.rk_key.specs.Keys.{key_cmp}
use Rattle.rk_laws.proofs.Order.{key_total, lt_itself, lt_back, ge_trans, lt_ge}
use Rattle.rk_merge.proofs.Counts.{slice_among}
use Rattle.rk_model.specs.Cuts.{item_from, is_passed, gap_on}
use Rattle.rk_model.specs.Items.{point_takes, span_takes, keyed_extents}
use Rattle.rk_model.specs.Lists.{Among}
use Rattle.rk_model.specs.Operations.{within}
use Rattle.rk_model.specs.Sources.{op_key, is_extent}
use Rattle.rk_model.specs.declared.op.Entry.{Entry}
use Rattle.rk_model.specs.declared.span.Span.{Span}
use Rattle.rk_model.specs.declared.options.IterOptions.{IterOptions}
use Rattle.rk_model.specs.declared.cut.Cut.{Cut}
use Rattle.rk_model.proofs.Members.{every_gives, among_filter, filter_among, first_is, first_among}
use Rattle.rk_span_laws.specs.Given.{is_hidden, is_hidden_in, is_sooner, span_over}
use Rattle.rk_interleave.specs.Settling.{IsAhead, IsBehind, is_hidden_by, is_stepped_over, open_span, has_begun, is_in, is_left}
use Rattle.rk_interleave.specs.Standing.{lies_on, beside}
use Rattle.rk_interleave.proofs.Cutting.{point_passed, span_gone, point_gone, before_on, starts_back, behind_end, not_is, Fits, over_cut}
use Rattle.rk_interleave.proofs.Orders.{Rises, Farther, below_key, apart, spans_rise, among_get, side, reach, seen_get}

-- Where the points stand behind their steps, and the spans at the cut.
pub record Settled (forward : Bool) (cut : Cut (List ℕ)) (o : IterOptions) (xs : List Entry) (ss : List Span) (g h : ℕ) : Type 0 where
  pub in_points : g ≤ length xs
  pub in_spans : h ≤ length ss
  pub behind : (i : ℕ) (e : Entry) → slice_get xs i ≡ Some e → IsBehind forward g i → is_stepped_over forward cut o (open_span forward cut (item_from forward ss h)) e ≡ true
  pub seen : IfSome (item_from forward xs g) (λ e. is_stepped_over forward cut o (open_span forward cut (item_from forward ss h)) e ≡ false)
  pub gone : (i : ℕ) (s : Span) → slice_get ss i ≡ Some s → IsBehind forward h i → is_passed forward (span_takes forward cut s) ≡ true
  pub on : (i : ℕ) (s : Span) → slice_get ss i ≡ Some s → IsAhead forward h i → is_passed forward (span_takes forward cut s) ≡ false

-- the span that is seen, or a farther one
abbrev pub IsSeen : Bool → Option Span → Span → Type 0
IsSeen forward span s = (u : Span) × ((span ≡ Some u) × ((s ≡ u) ⊎ Farther forward apart u s))

-- What is seen, and how it stands to all that is listed.
pub record Nears (forward : Bool) (cut : Cut (List ℕ)) (o : IterOptions) (xs : List Entry) (ss : List Span) (begun : Bool) (here : Option Entry) (span : Option Span) (g h : ℕ) : Type 0 where
  pub here_on : (d : Entry) → here ≡ Some d → lies_on forward cut (op_key d.op) ≡ true
  pub here_in : (d : Entry) → here ≡ Some d → (i : ℕ) × (slice_get xs i ≡ Some d)
  pub span_in : (u : Span) → span ≡ Some u → Among u ss
  pub points : (i : ℕ) (e : Entry) → slice_get xs i ≡ Some e → lies_on forward cut (op_key e.op) ≡ true → is_hidden o ss (op_key e.op) ≡ false → (d : Entry) × ((here ≡ Some d) × (is_sooner forward (op_key e.op) (op_key d.op) ≡ false))
  pub starts : (s : Span) → Among s ss → lies_on forward cut s.start ≡ true → IsSeen forward span s
  pub over : (d : Entry) → here ≡ Some d → (s : Span) → Among s ss → within s.start s.end (op_key d.op) ≡ true → IsSeen forward span s
  pub span_on : (u : Span) → span ≡ Some u → begun ≡ false → lies_on forward cut u.start ≡ true
  pub span_off : (u : Span) → span ≡ Some u → begun ≡ true → lies_on forward cut u.start ≡ false
  pub inside : begun ≡ true → (forward ≡ true) × ((d : Entry) × ((u : Span) × ((here ≡ Some d) × (span ≡ Some u) × (within u.start u.end (op_key d.op) ≡ true))))
  pub shown : (d : Entry) (u : Span) → here ≡ Some d → span ≡ Some u → (begun ≡ true) ⊎ (forward ≡ false) → within u.start u.end (op_key d.op) ≡ true → is_hidden_in o (Some u) (op_key d.op) ≡ false
  pub points_here : (i : ℕ) (e : Entry) → slice_get xs i ≡ Some e → IsBehind forward g i → (d : Entry) → here ≡ Some d → is_sooner forward (op_key d.op) (op_key e.op) ≡ false
  pub points_span : (i : ℕ) (e : Entry) → slice_get xs i ≡ Some e → IsBehind forward g i → (u : Span) → span ≡ Some u → begun ≡ false → is_sooner forward u.start (op_key e.op) ≡ false
  pub spans_here : (i : ℕ) (s : Span) → slice_get ss i ≡ Some s → IsBehind forward h i → (d : Entry) → here ≡ Some d → is_passed forward (span_takes forward (beside forward (op_key d.op)) s) ≡ true
  pub spans_span : (i : ℕ) (s : Span) → slice_get ss i ≡ Some s → IsBehind forward h i → (u : Span) → span ≡ Some u → begun ≡ false → is_passed forward (span_takes forward (beside forward u.start) s) ≡ true

-- Of spans in order at most one is over a key, and it is the one that is found.
pub record InOrder (ss : List Span) : Type 0 where
  pub rise : Rises apart ss
  pub proper : (s : Span) → Among s ss → is_lt (key_cmp s.start s.end) ≡ true

pub in_order : (ss : List Span) → IsTrue (keyed_extents ss) → InOrder ss
in_order ss ordered = record { rise = spans_rise ss ordered; proper = λ s m. (and_parts (is_lt (key_cmp s.start s.end)) _ (every_gives is_extent ss s (and_parts _ _ (and_parts _ _ ordered).0).0 m)).0 }

-- two spans that are apart are over no key together
pub apart_keys : (s t : Span) (x : List ℕ) → apart s t ≡ true → within s.start s.end x ≡ true → within t.start t.end x ≡ true → ⊥
apart_keys s t x far one two =
    let a = (and_parts (not (is_lt (key_cmp x s.start))) _ one).1 in
    let b : is_lt (key_cmp x t.start) ≡ false = not_is _ true (and_parts (not (is_lt (key_cmp x t.start))) _ two).0 in
    let f : is_lt (key_cmp t.start s.end) ≡ false = not_is _ true far in
    let c = ge_trans key_total x t.start s.end b f in
    cc

-- a span over a key is the only one
pub only_over : (ss : List Span) → Rises apart ss → (s t : Span) (x : List ℕ) → Among s ss → Among t ss → within s.start s.end x ≡ true → within t.start t.end x ≡ true → s ≡ t
only_over ss rise s t x m n one two = let (i, is) = among_get ss s m in let (j, at) = among_get ss t n in go i j is at (cases_lt i j) (cases_lt j i)
  where
    go : (i j : ℕ) → slice_get ss i ≡ Some s → slice_get ss j ≡ Some t → (i < j) ⊎ (j ≤ i) → (j < i) ⊎ (i ≤ j) → s ≡ t
    go i j is at (inl lt) r = absurd (apart_keys s t x (rise i j s t lt is at) one two)
    go i j is at (inr ge) (inl lt) = absurd (apart_keys t s x (rise j i t s lt at is) two one)
    go i j is at (inr ge) (inr le) = let e : i ≡ j = omega (arith, ge, le) in same_Some _ _ (sym is ∙ ap (slice_get ss) e ∙ at)

pub over_is : (ss : List Span) → Rises apart ss → (s : Span) (x : List ℕ) → Among s ss → within s.start s.end x ≡ true → span_over ss x ≡ Some s
over_is ss rise s x m at =
    let in' = among_filter (λ t. within t.start t.end x) ss s m at in
    let (t, is) = first_is (filter (λ t. within t.start t.end x) ss) s in' in
    let found = filter_among (λ t. within t.start t.end x) ss t (first_among (filter (λ t. within t.start t.end x) ss) t is) in
    is ∙ ap Some (only_over ss rise t s x found.0 m found.1 at)

pub over_none : (ss : List Span) (x : List ℕ) → ((s : Span) → Among s ss → within s.start s.end x ≡ true → ⊥) → span_over ss x ≡ None
over_none ss x none = go (span_over ss x) refl
  where
    go : (p : Option Span) → span_over ss x ≡ p → p ≡ None
    go None is = refl
    go (Some t) is = let found = filter_among (λ t. within t.start t.end x) ss t (first_among (filter (λ t. within t.start t.end x) ss) t is) in absurd (none t found.0 found.1)

or_false : (a b : Bool) → (a || b) ≡ false → (a ≡ false) × (b ≡ false)
or_false true b e = cc
or_false false b e = (refl, e)

-- what is hidden in a span of the list is hidden
hidden_is : (o : IterOptions) (ss : List Span) → Rises apart ss → (p : Option Span) (x : List ℕ) → ((s : Span) → p ≡ Some s → Among s ss) → is_hidden_by o p x ≡ true → is_hidden o ss x ≡ true
hidden_is o ss rise None x in' hidden = cc
hidden_is o ss rise (Some s) x in' hidden =
    let parts = and_parts (within s.start s.end x) _ hidden in
    ap (λ p. is_hidden_in o p x) (over_is ss rise s x (in' s refl) parts.0) ∙ parts.1

open_in : (forward : Bool) (cut : Cut (List ℕ)) (p : Option Span) (s : Span) → open_span forward cut p ≡ Some s → p ≡ Some s
open_in forward cut p s = go (not forward || has_begun forward cut p)
  where
    go : (b : Bool) → (if b then p else None) ≡ Some s → p ≡ Some s
    go true e = e
    go false e = cc

of_list : {A : Type 0} (forward : Bool) (xs : List A) (g : ℕ) (d : A) → item_from forward xs g ≡ Some d → Among d xs
of_list forward xs g d is = let (i, at) = seen_get forward xs g d is in slice_among xs i d at.0

module _ (forward : Bool) (cut : Cut (List ℕ)) (o : IterOptions) (xs : List Entry) (ss : List Span) (g h : ℕ) (rise : Rises below_key xs) (order : InOrder ss) (fit : Fits forward cut) (st : Settled forward cut o xs ss g h) where
  abbrev first : Option Span
  first = item_from forward ss h

  abbrev here : Option Entry
  here = item_from forward xs g

  seen_parts : (d : Entry) → here ≡ Some d → (lies_on forward cut (op_key d.op) ≡ true) × (is_hidden_by o (open_span forward cut first) (op_key d.op) ≡ false)
  seen_parts d is =
      let seen : is_stepped_over forward cut o (open_span forward cut first) d ≡ false = subst (λ p. IfSome p (λ e. is_stepped_over forward cut o (open_span forward cut first) e ≡ false)) is st.seen in
      let parts = or_false (is_passed forward (point_takes cut d)) _ seen in
      (not_is _ false (sym (point_passed forward cut d) ∙ parts.0), parts.1)

  not_sooner : (e d : Entry) → (e ≡ d) ⊎ Farther forward below_key d e → is_sooner forward (op_key e.op) (op_key d.op) ≡ false
  not_sooner e d far = go forward far
    where
      go : (f : Bool) → (e ≡ d) ⊎ Farther f below_key d e → is_sooner f (op_key e.op) (op_key d.op) ≡ false
      go true (inl same) = rw same (lt_itself key_total (op_key d.op))
      go false (inl same) = rw same (lt_itself key_total (op_key d.op))
      go true (inr more) = lt_back key_total (op_key d.op) (op_key e.op) more
      go false (inr less) = lt_back key_total (op_key e.op) (op_key d.op) less

  all_points : (i : ℕ) (e : Entry) → slice_get xs i ≡ Some e → lies_on forward cut (op_key e.op) ≡ true → is_hidden o ss (op_key e.op) ≡ false → (d : Entry) × ((here ≡ Some d) × (is_sooner forward (op_key e.op) (op_key d.op) ≡ false))
  all_points i e is on shown = go (side forward g i)
    where
      stepped : (is_passed forward (point_takes cut e) ≡ true) ⊎ (is_hidden_by o (open_span forward cut first) (op_key e.op) ≡ true) → ⊥
      stepped (inl passed) = let a = sym (point_passed forward cut e) ∙ passed in let b : lies_on forward cut (op_key e.op) ≡ false = not_is _ true a in cc
      stepped (inr hidden) = let a = hidden_is o ss order.rise (open_span forward cut first) (op_key e.op) (λ s at. of_list forward ss h s (open_in forward cut first s at)) hidden in cc

      go : IsBehind forward g i ⊎ IsAhead forward g i → (d : Entry) × ((here ≡ Some d) × (is_sooner forward (op_key e.op) (op_key d.op) ≡ false))
      go (inl behind) = absurd (stepped (or_cases _ _ (st.behind i e is behind)))
      go (inr ahead) = let (d, far) = reach forward below_key xs rise g st.in_points i e is ahead in (d, (far.0, not_sooner e d far.1))

  -- each span that is not passed at the cut is the first of those, or farther
  pub first_of_all : (s : Span) → Among s ss → is_passed forward (span_takes forward cut s) ≡ false → IsSeen forward first s
  first_of_all s m on = let (i, is) = among_get ss s m in go i is (side forward h i)
    where
      go : (i : ℕ) → slice_get ss i ≡ Some s → IsBehind forward h i ⊎ IsAhead forward h i → IsSeen forward first s
      go i is (inl behind) = let gone = st.gone i s is behind in cc
      go i is (inr ahead) = let (u, far) = reach forward apart ss order.rise h st.in_spans i s is ahead in (u, (far.0, far.1))

  starts_within : (s : Span) → Among s ss → within s.start s.end s.start ≡ true
  starts_within s m = rw (lt_itself key_total s.start, order.proper s m) refl

  starts_seen : (s : Span) → Among s ss → lies_on forward cut s.start ≡ true → is_passed forward (span_takes forward cut s) ≡ false
  starts_seen s m on = over_cut forward cut fit s s.start on (starts_within s m)

  here_behind : (i : ℕ) (e : Entry) → slice_get xs i ≡ Some e → IsBehind forward g i → (d : Entry) → here ≡ Some d → is_sooner forward (op_key d.op) (op_key e.op) ≡ false
  here_behind i e is behind d at = let (j, there) = seen_get forward xs g d at in go forward behind j there.0 there.1
    where
      go : (f : Bool) → IsBehind f g i → (j : ℕ) → slice_get xs j ≡ Some d → IsAhead f g j → is_sooner f (op_key d.op) (op_key e.op) ≡ false
      go true low j there high = lt_back key_total (op_key e.op) (op_key d.op) (rise i j e d (omega (arith, low, high)) is there)
      go false high j there low = lt_back key_total (op_key d.op) (op_key e.op) (rise j i d e (omega (arith, low, high)) there is)

  -- where no span has begun before the cut, the first that is not passed is seen
  nears_first : has_begun forward cut first ≡ false → Nears forward cut o xs ss false here first g h
  nears_first fresh = record {
    here_on = λ d is. (seen_parts d is).0;
    here_in = λ d is. let (i, at) = seen_get forward xs g d is in (i, at.0);
    span_in = λ u is. of_list forward ss h u is;
    points = all_points;
    starts = λ s m on. first_of_all s m (starts_seen s m on);
    over = λ d is s m over. first_of_all s m (over_cut forward cut fit s (op_key d.op) (seen_parts d is).0 over);
    span_on = λ u is e. span_on u is;
    span_off = λ u is e. cc;
    inside = λ e. cc;
    shown = λ d u is at case over. shown d u is at case over;
    points_here = here_behind;
    points_span = λ i e is behind u at b. stepped e u at (or_cases _ _ (st.behind i e is behind));
    spans_here = λ i s is behind d at. span_gone forward cut s (op_key d.op) (seen_parts d at).0 (st.gone i s is behind);
    spans_span = λ i s is behind u at b. span_gone forward cut s u.start (span_on u at) (st.gone i s is behind);
  }
    where
      span_on : (u : Span) → first ≡ Some u → lies_on forward cut u.start ≡ true
      span_on u is = let (i, at) = seen_get forward ss h u is in go forward (rw is at fresh) (st.on i u at.0 at.1)
        where
          go : (f : Bool) → has_begun f cut (Some u) ≡ false → is_passed f (span_takes f cut u) ≡ false → lies_on f cut u.start ≡ true
          go true off on = before_on cut u.start ∙ ap not off
          go false off on = starts_back cut u on

      opened : (p : Option Span) → has_begun forward cut p ≡ false → forward ≡ false → open_span forward cut p ≡ p
      opened p off back = rw back refl

      shown : (d : Entry) (u : Span) → here ≡ Some d → first ≡ Some u → (false ≡ true) ⊎ (forward ≡ false) → within u.start u.end (op_key d.op) ≡ true → is_hidden_in o (Some u) (op_key d.op) ≡ false
      shown d u is at (inl e) over = cc
      shown d u is at (inr back) over =
          let hid : is_hidden_by o (Some u) (op_key d.op) ≡ false = ap (λ p. is_hidden_by o p (op_key d.op)) (sym (opened first fresh back ∙ at)) ∙ (seen_parts d is).1 in
          ap (λ b. b && is_hidden_in o (Some u) (op_key d.op)) (sym over) ∙ hid

      stepped : (e : Entry) (u : Span) → first ≡ Some u → (is_passed forward (point_takes cut e) ≡ true) ⊎ (is_hidden_by o (open_span forward cut first) (op_key e.op) ≡ true) → is_sooner forward u.start (op_key e.op) ≡ false
      stepped e u at (inl passed) = let a = sym (point_passed forward cut e) ∙ passed in point_gone forward cut (op_key e.op) u.start (span_on u at) (not_is _ true a)
      stepped e u at (inr hidden) = go forward (rw at at fresh) (rw at at hidden)
        where
          go : (f : Bool) → has_begun f cut (Some u) ≡ false → is_hidden_by o (open_span f cut (Some u)) (op_key e.op) ≡ true → is_sooner f u.start (op_key e.op) ≡ false
          go true off hid = let none : is_hidden_by o None (op_key e.op) ≡ true = subst (λ b. is_hidden_by o (if b then Some u else None) (op_key e.op) ≡ true) off hid in cc
          go false off hid = not_is _ true (and_parts (not (is_lt (key_cmp (op_key e.op) u.start))) _ (and_parts (within u.start u.end (op_key e.op)) _ hid).0).0

module _ (cut : Cut (List ℕ)) (o : IterOptions) (xs : List Entry) (ss : List Span) (g h : ℕ) (rise : Rises below_key xs) (order : InOrder ss) (st : Settled true cut o xs ss g h) (t : Span) (is_t : slice_get ss h ≡ Some t) (begun : has_begun true cut (Some t) ≡ true) where
  t_in : Among t ss
  t_in = slice_among ss h t is_t

  t_off : lies_on true cut t.start ≡ false
  t_off = before_on cut t.start ∙ ap not begun

  t_on : is_passed true (span_takes true cut t) ≡ false
  t_on = st.on h t is_t (omega arith)

  opened : open_span true cut (item_from true ss h) ≡ Some t
  opened = rw (is_t, begun) refl

  parts_of : (d : Entry) → item_from true xs g ≡ Some d → (lies_on true cut (op_key d.op) ≡ true) × (is_hidden_by o (Some t) (op_key d.op) ≡ false)
  parts_of d is = let parts = seen_parts true cut o xs ss g h rise order tt st d is in (parts.0, ap (λ p. is_hidden_by o p (op_key d.op)) (sym opened) ∙ parts.1)

  -- a point on from the cut is not below the span
  from_t : (x : List ℕ) → lies_on true cut x ≡ true → is_lt (key_cmp x t.start) ≡ false
  from_t x on = point_gone true cut t.start x on t_off

  -- a span on from the cut is not this one, and so it is farther
  farther : (s : Span) → Among s ss → lies_on true cut s.start ≡ true → apart t s ≡ true
  farther s m on = go (first_of_all true cut o xs ss g h rise order tt st s m (starts_seen true cut o xs ss g h rise order tt st s m on))
    where
      go : IsSeen true (item_from true ss h) s → apart t s ≡ true
      go (u, (at, inl same)) = let e : t ≡ u = same_Some _ _ (sym is_t ∙ at) in let f : lies_on true cut s.start ≡ false = ap (λ w. lies_on true cut w.start) (same ∙ sym e) ∙ t_off in cc
      go (u, (at, inr far)) = let e : u ≡ t = same_Some _ _ (sym at ∙ is_t) in ap (λ w. apart w s) (sym e) ∙ far

  -- where the next point is in the span, it is the nearest
  nears_in : (d0 : Entry) → item_from true xs g ≡ Some d0 → within t.start t.end (op_key d0.op) ≡ true → Nears true cut o xs ss true (item_from true xs g) (item_from true ss h) g h
  nears_in d0 at0 over0 = record {
    here_on = λ d is. (parts_of d is).0;
    here_in = λ d is. (g, is);
    span_in = λ u is. slice_among ss h u is;
    points = all_points true cut o xs ss g h rise order tt st;
    starts = λ s m on. first_of_all true cut o xs ss g h rise order tt st s m (starts_seen true cut o xs ss g h rise order tt st s m on);
    over = λ d is s m over. first_of_all true cut o xs ss g h rise order tt st s m (over_cut true cut tt s (op_key d.op) (parts_of d is).0 over);
    span_on = λ u is e. cc;
    span_off = λ u is e. ap (λ w. lies_on true cut w.start) (same_Some _ _ (sym is ∙ is_t)) ∙ t_off;
    inside = λ e. (refl, (d0, (t, (at0, is_t, over0))));
    shown = λ d u is at case over. let e : t ≡ u = same_Some _ _ (sym is_t ∙ at) in ap (λ b. b && is_hidden_in o (Some u) (op_key d.op)) (sym over) ∙ (ap (λ w. is_hidden_by o (Some w) (op_key d.op)) (sym e) ∙ (parts_of d is).1);
    points_here = here_behind true cut o xs ss g h rise order tt st;
    points_span = λ i e is behind u at b. cc;
    spans_here = λ i s is behind d at. span_gone true cut s (op_key d.op) (parts_of d at).0 (st.gone i s is behind);
    spans_span = λ i s is behind u at b. cc;
  }

  -- where it is not, the span is left
  nears_left : ((d : Entry) → item_from true xs g ≡ Some d → within t.start t.end (op_key d.op) ≡ false) → Nears true cut o xs ss false (item_from true xs g) (item_from true ss (h + 1)) g (h + 1)
  nears_left out = record {
    here_on = λ d is. (parts_of d is).0;
    here_in = λ d is. (g, is);
    span_in = λ u is. slice_among ss (h + 1) u is;
    points = all_points true cut o xs ss g h rise order tt st;
    starts = starts;
    over = over;
    span_on = λ u is e. behind_end cut t u.start t_on (beyond u is);
    span_off = λ u is e. cc;
    inside = λ e. cc;
    shown = λ d u is at case over. none case;
    points_here = here_behind true cut o xs ss g h rise order tt st;
    points_span = λ i e is behind u at b. stepped e u at (or_cases _ _ (st.behind i e is behind));
    spans_here = λ i s is behind d at. left i s is behind (op_key d.op) (parts_of d at).0 (past d at);
    spans_span = λ i s is behind u at b. left i s is behind u.start (behind_end cut t u.start t_on (beyond u at)) (beyond u at);
  }
    where
      none : {Q : Type 0} → (false ≡ true) ⊎ (true ≡ false) → Q
      none (inl e) = cc
      none (inr e) = cc

      within_h : h + 1 ≤ length ss
      within_h = omega (arith, slice_get_within ss h t is_t)

      beyond : (u : Span) → slice_get ss (h + 1) ≡ Some u → is_lt (key_cmp u.start t.end) ≡ false
      beyond u at = not_is _ true (order.rise h (h + 1) t u (omega arith) is_t at)

      -- the point that is seen is behind the span
      past : (d : Entry) → item_from true xs g ≡ Some d → is_lt (key_cmp (op_key d.op) t.end) ≡ false
      past d at = go (is_lt (key_cmp (op_key d.op) t.end)) refl
        where
          go : (b : Bool) → is_lt (key_cmp (op_key d.op) t.end) ≡ b → b ≡ false
          go true e = let f : within t.start t.end (op_key d.op) ≡ true = rw (from_t (op_key d.op) (parts_of d at).0, e) refl in sym f ∙ out d at
          go false e = refl

      next : (s : Span) → Among s ss → is_passed true (span_takes true cut s) ≡ false → (s ≡ t → ⊥) → IsSeen true (item_from true ss (h + 1)) s
      next s m on other = let (i, is) = among_get ss s m in go i is (cases_lt i h) (cases_lt h i)
        where
          go : (i : ℕ) → slice_get ss i ≡ Some s → (i < h) ⊎ (h ≤ i) → (h < i) ⊎ (i ≤ h) → IsSeen true (item_from true ss (h + 1)) s
          go i is (inl low) c = let f = st.gone i s is low in cc
          go i is (inr ge) (inl more) = let (u, far) = reach true apart ss order.rise (h + 1) within_h i s is (omega (arith, more)) in (u, (far.0, far.1))
          go i is (inr ge) (inr le) = let e : i ≡ h = omega (arith, ge, le) in absurd (other (same_Some _ _ (sym is ∙ ap (slice_get ss) e ∙ is_t)))

      starts : (s : Span) → Among s ss → lies_on true cut s.start ≡ true → IsSeen true (item_from true ss (h + 1)) s
      starts s m on = next s m (starts_seen true cut o xs ss g h rise order tt st s m on) (λ e. other e)
        where
          other : s ≡ t → ⊥
          other e = let f : lies_on true cut s.start ≡ false = ap (λ w. lies_on true cut w.start) e ∙ t_off in cc

      over : (d : Entry) → item_from true xs g ≡ Some d → (s : Span) → Among s ss → within s.start s.end (op_key d.op) ≡ true → IsSeen true (item_from true ss (h + 1)) s
      over d is s m at = next s m (over_cut true cut tt s (op_key d.op) (parts_of d is).0 at) (λ e. other e)
        where
          other : s ≡ t → ⊥
          other e = let f = sym at ∙ ap (λ w. within w.start w.end (op_key d.op)) e ∙ out d is in cc

      stepped : (e : Entry) (u : Span) → slice_get ss (h + 1) ≡ Some u → (is_passed true (point_takes cut e) ≡ true) ⊎ (is_hidden_by o (open_span true cut (item_from true ss h)) (op_key e.op) ≡ true) → is_sooner true u.start (op_key e.op) ≡ false
      stepped e u at (inl passed) = let a = sym (point_passed true cut e) ∙ passed in point_gone true cut (op_key e.op) u.start (behind_end cut t u.start t_on (beyond u at)) (not_is _ true a)
      stepped e u at (inr hidden) =
          let hid : is_hidden_by o (Some t) (op_key e.op) ≡ true = ap (λ p. is_hidden_by o p (op_key e.op)) (sym opened) ∙ hidden in
          let inn = (and_parts (not (is_lt (key_cmp (op_key e.op) t.start))) _ (and_parts (within t.start t.end (op_key e.op)) _ hid).0).1 in
          lt_back key_total (op_key e.op) u.start (lt_ge key_total (op_key e.op) t.end u.start inn (beyond u at))

      left : (i : ℕ) (s : Span) → slice_get ss i ≡ Some s → i < h + 1 → (y : List ℕ) → lies_on true cut y ≡ true → is_lt (key_cmp y t.end) ≡ false → not (is_lt (key_cmp y s.end)) ≡ true
      left i s is low y on beyond = go (cases_lt i h)
        where
          go : (i < h) ⊎ (h ≤ i) → not (is_lt (key_cmp y s.end)) ≡ true
          go (inl less) = span_gone true cut s y on (st.gone i s is less)
          go (inr ge) = let e : i ≡ h = omega (arith, ge, low) in let same : s ≡ t = same_Some _ _ (sym is ∙ ap (slice_get ss) e ∙ is_t) in ap (λ w. not (is_lt (key_cmp y w.end))) same ∙ ap not beyond

-- What is seen where the sources have settled, and the span that has begun is left where the next point is not in it.
abbrev pub NearsAt : Bool → Cut (List ℕ) → IterOptions → List Entry → List Span → (g h : ℕ) → Bool → Bool → Type 0
NearsAt forward cut o xs ss g h begun left = Nears forward cut o xs ss (begun && not left) (item_from forward xs g) (item_from forward ss (if left then gap_on true h else h)) g (if left then gap_on true h else h)

pub nears : (forward : Bool) (cut : Cut (List ℕ)) (o : IterOptions) (xs : List Entry) (ss : List Span) (g h : ℕ) → Rises below_key xs → InOrder ss → Fits forward cut → Settled forward cut o xs ss g h
    → NearsAt forward cut o xs ss g h (has_begun forward cut (item_from forward ss h)) (is_left forward cut (item_from forward ss h) (item_from forward xs g))
nears false cut o xs ss g h rise order fit st = nears_first false cut o xs ss g h rise order fit st refl
nears true cut o xs ss g h rise order fit st = go (slice_get ss h) refl
  where
    go : (p : Option Span) → slice_get ss h ≡ p → NearsAt true cut o xs ss g h (has_begun true cut (slice_get ss h)) (is_left true cut (slice_get ss h) (slice_get xs g))
    go None is = let fresh : has_begun true cut (slice_get ss h) ≡ false = rw is refl in rw fresh (nears_first true cut o xs ss g h rise order fit st fresh)
    go (Some t) is = step (has_begun true cut (Some t)) refl
      where
        in_it : (p : Option Entry) → slice_get xs g ≡ p → has_begun true cut (Some t) ≡ true → NearsAt true cut o xs ss g h true (not (is_in (Some t) (slice_get xs g)))
        in_it None at begun = rw at (rw at at (nears_left cut o xs ss g h rise order st t is begun (λ d there. out d there)))
          where
            out : (d : Entry) → slice_get xs g ≡ Some d → within t.start t.end (op_key d.op) ≡ false
            out d there = let e = sym at ∙ there in cc
        in_it (Some d) at begun = inside (within t.start t.end (op_key d.op)) refl
          where
            inside : (b : Bool) → within t.start t.end (op_key d.op) ≡ b → NearsAt true cut o xs ss g h true (not (is_in (Some t) (slice_get xs g)))
            inside true over = let held : is_in (Some t) (slice_get xs g) ≡ true = rw at over in rw held (nears_in cut o xs ss g h rise order st t is begun d at over)
            inside false out = let held : is_in (Some t) (slice_get xs g) ≡ false = rw at out in rw held (nears_left cut o xs ss g h rise order st t is begun (λ d' there. let e : d ≡ d' = same_Some _ _ (sym at ∙ there) in ap (λ c. within t.start t.end (op_key c.op)) (sym e) ∙ out))

        step : (b : Bool) → has_begun true cut (Some t) ≡ b → NearsAt true cut o xs ss g h (has_begun true cut (slice_get ss h)) (is_left true cut (slice_get ss h) (slice_get xs g))
        step false off = let fresh : has_begun true cut (slice_get ss h) ≡ false = rw is off in rw fresh (nears_first true cut o xs ss g h rise order fit st fresh)
        step true on =
            let begun : has_begun true cut (slice_get ss h) ≡ true = rw is on in
            let same : is_in (slice_get ss h) (slice_get xs g) ≡ is_in (Some t) (slice_get xs g) = ap (λ p. is_in p (slice_get xs g)) is in
            rw (begun, same) (in_it (slice_get xs g) refl on)
