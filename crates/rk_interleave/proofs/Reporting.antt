-- What is lent at the nearest position is what is reported there.
use Rattle.std.proofs.Common.{◌≡◌, ℕ, Bool, true, false, not, List, filter, Option, Some, None, refl, sym, ap, ◌∙◌, subst, if◌then◌else◌, option_map, option_and_then}
use Rattle.std.specs.Prelude.{IsTrue, MatchOption, is_some}
use Rattle.std.specs.Ordering.{is_eq}
use Rattle.std.proofs.lemmas.Bool.{true≢false}
use Rattle.std.proofs.lemmas.Cmp.{tied_itself, nat_list_cmp_total}
use Rattle.std.proofs.lemmas.Map.Lookups.{exact_bytes}
use Rattle.rk_key.specs.Keys.{IsKey, key_cmp}
use Rattle.rk_key.proofs.Equality.{same_key_from_eq}
use Rattle.rk_laws.specs.SameCells.{AtKeyWithin}
use Rattle.rk_laws.proofs.Order.{key_total, lt_itself, eq_is}
use Rattle.rk_laws.proofs.Widest.{same_cover_itself}
use Rattle.rk_model.specs.Items.{keyed_extents}
use Rattle.rk_model.specs.Lists.{Among}
use Rattle.rk_model.specs.Moves.{key_at, span_of, same_span, span_changed}
use Rattle.rk_model.specs.Operations.{within}
use Rattle.rk_model.specs.Positions.{shown}
use Rattle.rk_model.specs.Spans.{in_bounds, same_bytes, WidestSpan, widest_span}
use Rattle.rk_model.specs.declared.op.Entry.{Entry}
use Rattle.rk_model.specs.declared.span.Span.{Span}
use Rattle.rk_model.specs.declared.options.IterOptions.{IterOptions}
use Rattle.rk_model.specs.declared.cursor.Cursor.{Cursor}
use Rattle.rk_model.specs.declared.cursor.Cursor.TheVariants.{Fresh, Start as AtStart, At, End as AtEnd}
use Rattle.rk_model.specs.declared.cut.Cut.{Cut}
use Rattle.rk_model.proofs.Members.{filter_among, first_among}
use Rattle.rk_span_laws.specs.Given.{given, AreShown, IsPlace, IsSoonest, is_hidden, span_over, as_widest}
use Rattle.rk_interleave.specs.Settling.{seen_over, seen_value}
use Rattle.rk_interleave.specs.Showing.{Showing, is_kept, kept_or, shown_at, shown_off}
use Rattle.rk_interleave.specs.Standing.{lies_on, arrived, shown_next}
use Rattle.rk_interleave.proofs.Near.{InOrder, in_order, only_over}
use Rattle.rk_interleave.proofs.Found.{IsFound, value_on, key_of_start}
use Rattle.rk_span_laws.proofs.Giving.{span_is_the_one_over, point_is_the_one_there, masked_is_hidden}
use Rattle.rk_span_laws.proofs.Places.{soonest_place_is_the_position}

-- what is lent is what is reported at the cursor
pub record Shows (es : List Entry) (o : IterOptions) (m : Showing) : Type 0 where
  pub value : m.value ≡ option_and_then (shown es o) (key_at m.cursor)
  pub span : m.span ≡ span_of es o m.cursor

-- a span that is found over a key is of the list
over_among : (ss : List Span) (x : List ℕ) (s : Span) → span_over ss x ≡ Some s → Among s ss
over_among ss x s is = (filter_among (λ s. within s.start s.end x) ss s (first_among (filter (λ s. within s.start s.end x) ss) s is)).0

bytes_differ : (x y : List ℕ) → is_eq (key_cmp x y) ≡ false → same_bytes x y ≡ false
bytes_differ x y differ = go (same_bytes x y) refl
  where
    go : (b : Bool) → same_bytes x y ≡ b → b ≡ false
    go true e = let same : x ≡ y = exact_bytes x y (eq_is nat_list_cmp_total x y e) in absurd (true≢false (sym (ap is_eq (tied_itself key_total x)) ∙ ap (λ w. is_eq (key_cmp x w)) same ∙ differ))
    go false e = refl

span_same : (w : WidestSpan) → same_span (Some w) (Some w) ≡ true
span_same w = rw (tied_itself nat_list_cmp_total w.start, tied_itself nat_list_cmp_total w.end, same_cover_itself w.cover) refl

-- A span of the list that begins where another does is that one.
pub kept_is : (ss : List Span) → IsTrue (keyed_extents ss) → (q r : Option Span) → ((s : Span) → q ≡ Some s → Among s ss) → ((s : Span) → r ≡ Some s → Among s ss)
    → (kept_or (option_map as_widest q) r ≡ option_map as_widest r) × (is_kept (option_map as_widest q) r ≡ same_span (option_map as_widest q) (option_map as_widest r))
kept_is ss ordered None None qs rs = (refl, refl)
kept_is ss ordered None (Some t) qs rs = (refl, refl)
kept_is ss ordered (Some s) None qs rs = (refl, refl)
kept_is ss ordered (Some s) (Some t) qs rs = go (is_eq (key_cmp s.start t.start)) refl
  where
    order : InOrder ss
    order = in_order ss ordered

    Goal : Type 0
    Goal = (kept_or (Some (as_widest s)) (Some t) ≡ Some (as_widest t)) × (is_kept (Some (as_widest s)) (Some t) ≡ same_span (Some (as_widest s)) (Some (as_widest t)))

    go : (b : Bool) → is_eq (key_cmp s.start t.start) ≡ b → Goal
    go true tie =
        let start : s.start ≡ t.start = same_key_from_eq s.start t.start (key_of_start ss ordered s (qs s refl)) (key_of_start ss ordered t (rs t refl)) tie in
        let over : within s.start s.end s.start ≡ true = rw (lt_itself key_total s.start, order.proper s (qs s refl)) refl in
        let over' : within t.start t.end t.start ≡ true = rw (lt_itself key_total t.start, order.proper t (rs t refl)) refl in
        let same : s ≡ t = only_over ss order.rise s t t.start (qs s refl) (rs t refl) (subst (λ x. within s.start s.end x ≡ true) start over) over' in
        (rw tie (ap (λ w. Some (as_widest w)) same), tie ∙ sym (subst (λ w. same_span (Some (as_widest s)) (Some (as_widest w)) ≡ true) same (span_same (as_widest s))))
    go false differ = (rw differ refl, differ ∙ sym (rw (bytes_differ s.start t.start differ) refl))

module _ (n : ℕ) (o : IterOptions) (ps : List Entry) (ss : List Span) (sh : AreShown n o ps ss) where
  -- the span of a cursor is one of the list, or none
  span_at : (c : Cursor) → AtKeyWithin o c → (q : Option Span) × ((span_of (given ps ss) o c ≡ option_map as_widest q) × ((s : Span) → q ≡ Some s → Among s ss))
  span_at Fresh inside = (None, (refl, λ s e. none s e))
    where
      none : (s : Span) → None ≡ Some s → Among s ss
      none s e = cc
  span_at AtStart inside = (None, (refl, λ s e. none s e))
    where
      none : (s : Span) → None ≡ Some s → Among s ss
      none s e = cc
  span_at (At x) inside = (span_over ss x, (span_is_the_one_over n o ps ss sh x inside.0 inside.1, λ s e. over_among ss x s e))
  span_at AtEnd inside = (None, (refl, λ s e. none s e))
    where
      none : (s : Span) → None ≡ Some s → Among s ss
      none s e = cc

  pub record Reported (m m' : Showing) (c : Cursor) : Type 0 where
    pub cursor : m'.cursor ≡ c
    pub changed : m'.changed ≡ span_changed (given ps ss) o m.cursor c
    pub shows : Shows (given ps ss) o m'
    pub inside : AtKeyWithin o m'.cursor

  -- at a key within the bounds, with the span over it and the value there
  pub reported_at : (m : Showing) (y : List ℕ) (value : Option (List ℕ)) (over : Option Span) → Shows (given ps ss) o m → AtKeyWithin o m.cursor → IsKey y → in_bounds o y ≡ true → over ≡ span_over ss y
      → value ≡ (if is_hidden o ss y then None else value_on ps y) → Reported m (shown_at m y value over) (At y)
  reported_at m y value over shows inside key within_o is there =
      let (q, old) = span_at m.cursor inside in
      let widest = span_is_the_one_over n o ps ss sh y key within_o in
      let kept = kept_is ss sh.ordered q over old.1 (λ s e. over_among ss y s (sym is ∙ e)) in
      let was : m.span ≡ option_map as_widest q = shows.span ∙ old.0 in
      let now : widest_span (given ps ss) o y ≡ option_map as_widest over = widest ∙ ap (option_map as_widest) (sym is) in
      record {
        cursor = refl;
        changed = rw (was, old.0, now, kept.1) refl;
        shows = record {
          value = there ∙ sym (rw (masked_is_hidden n o ps ss sh y key within_o, point_is_the_one_there n o ps ss sh y key) refl);
          span = rw (was, now) kept.0;
        };
        inside = (key, within_o);
      }

  -- at no key
  pub reported_off : (m : Showing) (c : Cursor) → key_at c ≡ None → Shows (given ps ss) o m → Reported m (shown_off m c) c
  reported_off m c off shows = record {
    cursor = refl;
    changed = rw (shows.span, off) (go (span_of (given ps ss) o m.cursor));
    shows = record { value = rw off refl; span = rw off refl };
    inside = rw off tt;
  }
    where
      go : (w : Option WidestSpan) → is_some w ≡ not (same_span w None)
      go None = refl
      go (Some w) = refl

  -- at the nearest position
  pub reported_next : (forward : Bool) (cut : Cut (List ℕ)) (xs : List Entry) (here : Option Entry) (span : Option Span) (g h : ℕ) (m : Showing) (p : Option (List ℕ)) → Shows (given ps ss) o m → AtKeyWithin o m.cursor
      → MatchOption p ((z : List ℕ) → IsPlace o ps ss z → lies_on forward cut z ≡ true → ⊥) (λ y. IsFound forward cut o ps xs ss here span g h y)
      → Reported m (shown_next o forward p here span m) (arrived forward cut (given ps ss) o)
  reported_next forward cut xs here span g h m None shows inside none =
      let soonest : IsSoonest forward (lies_on forward cut) (IsPlace o ps ss) None = record { there = tt; first = none } in
      rw (soonest_place_is_the_position n o ps ss sh forward (lies_on forward cut) None soonest) (reported_off m (if forward then AtEnd else AtStart) (off forward) shows)
    where
      off : (f : Bool) → key_at (if f then AtEnd else AtStart) ≡ None
      off true = refl
      off false = refl
  reported_next forward cut xs here span g h m (Some y) shows inside found =
      let soonest : IsSoonest forward (lies_on forward cut) (IsPlace o ps ss) (Some y) = record { there = (found.place, found.on); first = found.soon } in
      rw (soonest_place_is_the_position n o ps ss sh forward (lies_on forward cut) (Some y) soonest)
      (reported_at m y (seen_value o here (seen_over span y) y) (seen_over span y) shows inside found.key found.inside found.over found.value)
