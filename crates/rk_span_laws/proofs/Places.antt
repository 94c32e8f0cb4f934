-- The positions are the places: the keys of points that no mask hides, and where spans begin.
use Rattle.std.proofs.Common.{◌≡◌, ℕ, Bool, true, false, ◌&&◌, List, [], ◌∷◌, ◌++◌, filter, flat_map, Option, Some, None, is_some, refl, ap, sym, ◌∙◌, ◌⊎◌, inl, inr, subst, option_map, option_and_then, if◌then◌else◌}
use Rattle.std.specs.Option.{option_map_or}
use Rattle.std.specs.Ordering.{is_eq}
use Rattle.std.specs.declared.cmp.Ordering.TheVariants.{Equal}
use Rattle.std.proofs.lemmas.Bool.{and_parts, and_from}
use Rattle.std.proofs.lemmas.Cmp.{tied_itself}
use Rattle.rk_key.specs.Keys.{IsKey, key_cmp}
use Rattle.rk_key.proofs.Equality.{same_key}
use Rattle.rk_model.specs.Lists.{Among, first_of, last_of}
use Rattle.rk_model.specs.Operations.{within}
use Rattle.rk_model.specs.Covers.{is_point, put_value, point}
use Rattle.rk_model.specs.Spans.{in_bounds, written_ends, WidestSpan}
use Rattle.rk_model.specs.Positions.{is_masked, shown, put_key, begins_span, positions}
use Rattle.rk_model.specs.Sources.{op_key}
use Rattle.rk_model.specs.declared.op.Op.{Op}
use Rattle.rk_model.specs.declared.op.Op.TheVariants.{Put, Del, RangeSet, RangeUnset, RangeDel}
use Rattle.rk_model.specs.declared.op.Entry.{Entry}
use Rattle.rk_model.specs.declared.span.Span.{Span}
use Rattle.rk_model.specs.declared.options.IterOptions.{IterOptions}
use Rattle.rk_model.proofs.Members.{Ascending, among_all, ascending_filter, among_filter, filter_among, among_append, among_left, among_right, among_flat_map, flat_map_among, first_among, first_is, first_least}
use Rattle.rk_model.proofs.SortedKeys.{sorted_among, among_sorted}
use Rattle.rk_laws.proofs.Order.{key_total, eq_from, eq_is}
use Rattle.rk_laws.proofs.Ends.{lt, sorted_ascends}
use Rattle.rk_laws.proofs.Widest.{back, self}
use Rattle.rk_laws.proofs.Agree.{span_ends_shared, span_end_keyed, turned}
use Rattle.rk_laws.proofs.Places.{shown_puts, span_ends, last_among}
use Rattle.rk_laws.proofs.Moved.{position_keyed}
use Rattle.rk_span_laws.specs.Joined.{entries_of}
use Rattle.rk_span_laws.specs.Given.{given, is_put, AreShown, span_over, as_widest, IsPlace, of_point, of_span, is_sooner, IsSoonest, near_of}
use Rattle.rk_span_laws.specs.GivenLaws.{SoonestPlaceIsThePosition}
use Rattle.rk_span_laws.proofs.Covers.{extent_of}
use Rattle.rk_span_laws.proofs.Widest.{IsWidest, among_widest}
use Rattle.rk_span_laws.proofs.Giving.{no_point, single_put, on_key, same_covers, widest_of, over_is, point_is_the_one_there, masked_is_hidden}

-- the first or the last of some keys
abbrev nearest : Bool → List (List ℕ) → Option (List ℕ)
nearest forward keys = if forward then first_of keys else last_of keys

nearest_among : (forward : Bool) (keys : List (List ℕ)) (x : List ℕ) → nearest forward keys ≡ Some x → Among x keys
nearest_among true keys x h = first_among keys x h
nearest_among false keys x h = last_among keys x h

last_is : (keys : List (List ℕ)) (x : List ℕ) → Among x keys → (y : List ℕ) × (last_of keys ≡ Some y)
last_is [] x m = absurd m
last_is (k ∷ []) x m = (k, refl)
last_is (k ∷ l ∷ ls) x m = last_is (l ∷ ls) l (inl refl)

nearest_is : (forward : Bool) (keys : List (List ℕ)) (x : List ℕ) → Among x keys → (y : List ℕ) × (nearest forward keys ≡ Some y)
nearest_is true keys x m = first_is keys x m
nearest_is false keys x m = last_is keys x m

-- of keys that ascend, none is above the last
last_greatest : (keys : List (List ℕ)) (x y : List ℕ) → Ascending lt keys → last_of keys ≡ Some x → Among y keys → lt x y ≡ false
last_greatest [] x y up h m = absurd m
last_greatest (k ∷ []) x y up h (inl e) = let is : k ≡ x = cc in rw (e ∙ is) (self x)
last_greatest (k ∷ []) x y up h (inr m) = absurd m
last_greatest (k ∷ l ∷ ls) x y up h (inl e) = rw e (back k x (among_all (λ z. lt k z ≡ true) (l ∷ ls) x up.0 (last_among (l ∷ ls) x h)))
last_greatest (k ∷ l ∷ ls) x y up h (inr m) = last_greatest (l ∷ ls) x y up.1 h m

none_sooner : (forward : Bool) (keys : List (List ℕ)) (x y : List ℕ) → Ascending lt keys → nearest forward keys ≡ Some x → Among y keys → is_sooner forward y x ≡ false
none_sooner true keys x y up h m = first_least lt back self keys x y up h m
none_sooner false keys x y up h m = last_greatest keys x y up h m

neither_sooner : (forward : Bool) (x y : List ℕ) → is_sooner forward x y ≡ false → is_sooner forward y x ≡ false → key_cmp x y ≡ Equal
neither_sooner true x y p q = eq_from key_total x y p q
neither_sooner false x y p q = eq_from key_total x y q p

-- the first place that passes a test is the first of the places in order that does
soonest_is : (forward : Bool) (test : List ℕ → Bool) (places : List ℕ → Type 0) (found : Option (List ℕ)) (keys : List (List ℕ)) → Ascending lt keys → ((x : List ℕ) → Among x keys → IsKey x)
    → ((x : List ℕ) → Among x keys → places x) → ((x : List ℕ) → places x → Among x keys) → IsSoonest forward test places found → near_of forward test keys ≡ found
soonest_is forward test places None keys up are to from s = go (near_of forward test keys) refl
  where
    go : (n : Option (List ℕ)) → near_of forward test keys ≡ n → n ≡ None
    go None e = refl
    go (Some x) e = let m = filter_among test keys x (nearest_among forward (filter test keys) x e) in absurd (s.first x (to x m.0) m.1)
soonest_is forward test places (Some y) keys up are to from s =
    let mine = among_filter test keys y (from y s.there.0) s.there.1 in
    let (x, e) = nearest_is forward (filter test keys) y mine in
    let m = filter_among test keys x (nearest_among forward (filter test keys) x e) in
    let tied : key_cmp x y ≡ Equal = neither_sooner forward x y (s.first x (to x m.0) m.1) (none_sooner forward (filter test keys) x y (ascending_filter lt test keys up) e mine) in
    e ∙ ap Some (same_key x y (are x m.0) (are y (from y s.there.0)) tied)

put_key_is : (op : Op) (y : List ℕ) → Among y (put_key op) → (op_key op ≡ y) × (is_point op ≡ true)
put_key_is (Put key value) y (inl e) = (sym e, refl)
put_key_is (Put key value) y (inr m) = absurd m
put_key_is (Del key) y m = absurd m
put_key_is (RangeSet start end suffix value) y m = absurd m
put_key_is (RangeUnset start end suffix) y m = absurd m
put_key_is (RangeDel start end) y m = absurd m

put_key_has : (op : Op) (y : List ℕ) → is_put op ≡ true → op_key op ≡ y → Among y (put_key op)
put_key_has (Put key value) y h e = inl (sym e)
put_key_has (Del key) y h e = cc
put_key_has (RangeSet start end suffix value) y h e = cc
put_key_has (RangeUnset start end suffix) y h e = cc
put_key_has (RangeDel start end) y h e = cc

put_has_value : (op : Op) → is_put op ≡ true → is_some (put_value op) ≡ true
put_has_value (Put key value) h = refl
put_has_value (Del key) h = cc
put_has_value (RangeSet start end suffix value) h = cc
put_has_value (RangeUnset start end suffix) h = cc
put_has_value (RangeDel start end) h = cc

shown_unmasked : (es : List Entry) (o : IterOptions) (x : List ℕ) → is_some (shown es o x) ≡ true → is_masked es o x ≡ false
shown_unmasked es o x h = go (is_masked es o x) h
  where
    go : (b : Bool) → is_some (if b then None else point es x) ≡ true → b ≡ false
    go true h = cc
    go false h = refl

-- a widest span begins at its start
start_begins : (es : List Entry) (o : IterOptions) (w : WidestSpan) → IsWidest es o w → Among w.start (span_ends es o)
start_begins es o w i =
    let begins : begins_span es o w.start ≡ true = ap (λ (t : Option WidestSpan). option_map_or (λ s. is_eq (key_cmp s.start w.start)) t false) i.span ∙ ap is_eq (tied_itself key_total w.start) in
    among_filter (λ x. in_bounds o x && begins_span es o x) (written_ends es o) w.start i.begins (and_from (in_bounds o w.start) (begins_span es o w.start) i.inside begins)

module _ (n : ℕ) (o : IterOptions) (ps : List Entry) (ss : List Span) (h : AreShown n o ps ss) where
  abbrev all : List Entry
  all = given ps ss

  position_is_key : (y : List ℕ) → Among y (positions all o) → IsKey y
  position_is_key y m = position_keyed all o (same_covers n o ps ss h).first h.bounds y m

  put_place : (y : List ℕ) → Among y (shown_puts all o) → IsPlace o ps ss y
  put_place y m =
      let i = filter_among (λ x. in_bounds o x && is_some (shown all o x)) (flat_map (λ e. put_key e.op) all) y m in
      let b = and_parts (in_bounds o y) (is_some (shown all o y)) i.1 in
      let (e, k) = flat_map_among (λ e. put_key e.op) all y i.0 in
      let p = put_key_is e.op y k.1 in
      go e p (among_append ps (entries_of ss) e k.0) b
    where
      go : (e : Entry) → (op_key e.op ≡ y) × (is_point e.op ≡ true) → Among e ps ⊎ Among e (entries_of ss) → (in_bounds o y ≡ true) × (is_some (shown all o y) ≡ true) → IsPlace o ps ss y
      go e p (inl m) b =
          let k : IsKey y = subst IsKey p.0 (single_put ps h.single e m).1 in
          of_point e m p.0 b.0 (sym (masked_is_hidden n o ps ss h y k b.0) ∙ shown_unmasked all o y b.1)
      go e p (inr m) b = let q : is_point e.op ≡ false = no_point ss e m in (let r : is_point e.op ≡ true = p.1 in cc)

  span_place : (y : List ℕ) → Among y (span_ends all o) → IsPlace o ps ss y
  span_place y m = go (span_over ss y) refl (sym (ap (λ (t : Option WidestSpan). option_map_or (λ s. is_eq (key_cmp s.start y)) t false) (over_is n o ps ss h y k inside.0)) ∙ inside.1)
    where
      k : IsKey y
      k = span_end_keyed all o (same_covers n o ps ss h).first h.bounds y m

      inside : (in_bounds o y ≡ true) × (begins_span all o y ≡ true)
      inside = and_parts (in_bounds o y) (begins_span all o y) (filter_among (λ x. in_bounds o x && begins_span all o x) (written_ends all o) y m).1

      go : (f : Option Span) → span_over ss y ≡ f → option_map_or (λ s. is_eq (key_cmp s.start y)) (option_map as_widest f) false ≡ true → IsPlace o ps ss y
      go None e g = cc
      go (Some s) e g =
          let i = (filter_among (λ s. within s.start s.end y) ss s (first_among (filter (λ s. within s.start s.end y) ss) s e)).0 in
          of_span s i (same_key s.start y (extent_of ss h.ordered s i).start k (eq_is key_total s.start y g))

  position_place : (y : List ℕ) → Among y (positions all o) → IsPlace o ps ss y
  position_place y m = elim (among_append (shown_puts all o) (span_ends all o) y (sorted_among (shown_puts all o ++ span_ends all o) y m)) [ inl i ↦ put_place y i | inr i ↦ span_place y i ]

  place_there : (y : List ℕ) → IsKey y → Among y (shown_puts all o ++ span_ends all o) → Among y (positions all o)
  place_there y k m =
      let (z, i) = among_sorted (shown_puts all o ++ span_ends all o) y m in
      subst (λ x. Among x (positions all o)) (sym (same_key y z k (position_is_key z i.0) i.1)) i.0

  point_has_value : (y : List ℕ) (e : Entry) → Among e ps → op_key e.op ≡ y → is_some (point all y) ≡ true
  point_has_value y e m is =
      let on : is_eq (key_cmp (op_key e.op) y) ≡ true = ap (λ x. is_eq (key_cmp x y)) is ∙ ap is_eq (tied_itself key_total y) in
      let (f, g) = first_is (on_key y ps) e (among_filter (λ e. is_eq (key_cmp (op_key e.op) y)) ps e m on) in
      let there = (filter_among (λ e. is_eq (key_cmp (op_key e.op) y)) ps f (first_among (on_key y ps) f g)).0 in
      let k : IsKey y = subst IsKey is (single_put ps h.single e m).1 in
      ap is_some (point_is_the_one_there n o ps ss h y k ∙ ap (λ (d : Option Entry). option_and_then (λ e. put_value e.op) d) g) ∙ put_has_value f.op (single_put ps h.single f there).0

  place_position : (y : List ℕ) → IsPlace o ps ss y → Among y (positions all o)
  place_position y (of_point e m is inside visible) =
      let p = single_put ps h.single e m in
      let k : IsKey y = subst IsKey is p.1 in
      let value : is_some (shown all o y) ≡ true = ap (λ b. is_some (if b then None else point all y)) (masked_is_hidden n o ps ss h y k inside ∙ visible) ∙ point_has_value y e m is in
      place_there y k (among_left (shown_puts all o) (span_ends all o) y (
      among_filter (λ x. in_bounds o x && is_some (shown all o x)) (flat_map (λ e. put_key e.op) all) y
      (among_flat_map (λ e. put_key e.op) all e y (among_left ps (entries_of ss) e m) (put_key_has e.op y p.0 is))
      (and_from (in_bounds o y) (is_some (shown all o y)) inside value)))
  place_position y (of_span s m is) =
      let (w, i) = widest_of n o ps ss h s m in
      let at : w.start ≡ y = sym (ap (λ (t : Span). t.start) i.1) ∙ is in
      let begun = span_ends_shared (entries_of ss) all o (turned all (entries_of ss) o (same_covers n o ps ss h)) w.start (start_begins (entries_of ss) o w (among_widest (entries_of ss) o w i.0)) in
      place_there y (subst IsKey is (extent_of ss h.ordered s m).start) (among_right (shown_puts all o) (span_ends all o) y (subst (λ z. Among z (span_ends all o)) at begun))

pub soonest_place_is_the_position : SoonestPlaceIsThePosition
soonest_place_is_the_position n o ps ss h forward test found s =
    soonest_is forward test (IsPlace o ps ss) found (positions (given ps ss) o) (sorted_ascends (shown_puts (given ps ss) o ++ span_ends (given ps ss) o))
    (position_is_key n o ps ss h) (position_place n o ps ss h) (place_position n o ps ss h) s
