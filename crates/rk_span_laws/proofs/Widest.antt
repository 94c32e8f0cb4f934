-- The widest spans of a list of entries: which they are, and their order.
use Rattle.std.proofs.Common.{◌≡◌, ◌≢◌, ℕ, Bool, true, false, not, ◌&&◌, List, [], ◌∷◌, Option, Some, None, refl, ap, sym, ◌∙◌, inl, inr, subst, if◌then◌else◌}
use Rattle.std.specs.Ordering.{is_eq}
use Rattle.std.specs.Option.{option_map_or}
use Rattle.std.proofs.lemmas.Bool.{and_from, not-true}
use Rattle.std.proofs.lemmas.Cmp.{tied_itself}
use Rattle.std.proofs.lemmas.Option.{same_Some}
use Rattle.rk_key.specs.Keys.{key_cmp}
use Rattle.rk_model.specs.Lists.{Among}
use Rattle.rk_model.specs.Operations.{within}
use Rattle.rk_model.specs.Spans.{in_bounds, written_ends, WidestSpan, widest_span}
use Rattle.rk_model.specs.Positions.{begins_span}
use Rattle.rk_model.specs.Sources.{ascends}
use Rattle.rk_model.specs.declared.op.Entry.{Entry}
use Rattle.rk_model.specs.declared.options.IterOptions.{IterOptions}
use Rattle.rk_model.proofs.Members.{Ascending, among_all, all_among, among_filter_map, filter_map_among, same_ascending}
use Rattle.rk_laws.proofs.Order.{key_total, lt_ge, ge_lt, eq_is}
use Rattle.rk_laws.proofs.Ends.{lt, ends_ascend}
use Rattle.rk_laws.proofs.Widest.{IsSpan, span_is, span_there, span_unique, span_of_its_keys, one_up_to, one_end, back, self}
use Rattle.rk_laws.specs.SameCells.{GiveSameCovers}
use Rattle.rk_laws.proofs.Agree.{keyed, spans_of_covers, turned}
use Rattle.rk_span_laws.specs.Joined.{widest_spans}
use Rattle.rk_span_laws.proofs.Ascents.{ascends_of, filter_map_ascends}

-- what is a span over a key is its widest span
pub is_widest : (es : List Entry) (o : IterOptions) (x : List ℕ) (s : WidestSpan) → in_bounds o x ≡ true → IsSpan es o x s → widest_span es o x ≡ Some s
is_widest es o x s inside i =
    let (t, h) = span_there es o x inside i.some in
    h ∙ ap Some (span_unique es o x s t i.start i.stop i.has (span_is es o x t h))

-- a widest span by its start
pub record IsWidest (es : List Entry) (o : IterOptions) (w : WidestSpan) : Type 0 where
  pub begins : Among w.start (written_ends es o)
  pub inside : in_bounds o w.start ≡ true
  pub span : widest_span es o w.start ≡ Some w

-- the widest span that begins at a key, if one does
abbrev begun : List Entry → IterOptions → List ℕ → Option WidestSpan
begun es o a = if in_bounds o a && begins_span es o a then widest_span es o a else None

abbrev starts_at : List ℕ → Option WidestSpan → Bool
starts_at a found = option_map_or (λ s. is_eq (key_cmp s.start a)) found false

begun_parts : (b c : Bool) (found : Option WidestSpan) (w : WidestSpan) → (if b && c then found else None) ≡ Some w → (b ≡ true) × (c ≡ true) × (found ≡ Some w)
begun_parts true true found w h = (refl, refl, h)
begun_parts true false found w h = cc
begun_parts false c found w h = cc

begun_is : (es : List Entry) (o : IterOptions) (a : List ℕ) (w : WidestSpan) → Among a (written_ends es o) → begun es o a ≡ Some w → (a ≡ w.start) × (in_bounds o a ≡ true) × (widest_span es o a ≡ Some w)
begun_is es o a w m h =
    let parts = begun_parts (in_bounds o a) (begins_span es o a) (widest_span es o a) w h in
    let i = span_is es o a w parts.2 in
    let alike = eq_is key_total w.start a (sym (ap (starts_at a) parts.2) ∙ parts.1) in
    (one_end es o a w.start m i.start.among i.start.upto (rw alike refl), parts.0, parts.2)

pub among_widest : (es : List Entry) (o : IterOptions) (w : WidestSpan) → Among w (widest_spans es o) → IsWidest es o w
among_widest es o w m =
    let (a, k) = filter_map_among (begun es o) (written_ends es o) w m in
    let b = begun_is es o a w k.0 k.1 in
    record {
      begins = subst (λ z. Among z (written_ends es o)) b.0 k.0;
      inside = sym (ap (in_bounds o) b.0) ∙ b.1;
      span = sym (ap (widest_span es o) b.0) ∙ b.2;
    }

-- the widest span of each key within the bounds is one of them
pub widest_among : (es : List Entry) (o : IterOptions) (x : List ℕ) (w : WidestSpan) → in_bounds o x ≡ true → widest_span es o x ≡ Some w → Among w (widest_spans es o)
widest_among es o x w inside h = among_filter_map (begun es o) (written_ends es o) w.start w i.start.among (rw (start_inside, begins, here) refl)
  where
    i : IsSpan es o x w
    i = span_is es o x w h

    start_inside : in_bounds o w.start ≡ true
    start_inside = (one_up_to es o x w.start w.start inside i.start (self w.start) i.start.upto).1

    over_start : within w.start w.end w.start ≡ true
    over_start = and_from (not (lt w.start w.start)) (lt w.start w.end) (rw (self w.start) refl) (ge_lt key_total w.start x w.end i.start.upto i.stop.past)

    here : widest_span es o w.start ≡ Some w
    here = span_of_its_keys es o x w.start w inside h over_start

    begins : begins_span es o w.start ≡ true
    begins = ap (starts_at w.start) here ∙ rw (tied_itself key_total w.start) refl

-- and begins below its end, with a cover
pub widest_proper : (es : List Entry) (o : IterOptions) (w : WidestSpan) → Among w (widest_spans es o) → (lt w.start w.end ≡ true) × (w.cover ≢ [])
widest_proper es o w m =
    let i = span_is es o w.start w (among_widest es o w m).span in
    (i.stop.past, λ e. i.some (sym i.has ∙ e))

-- one span ends at or before the start of another
abbrev pub ends_before : WidestSpan → WidestSpan → Bool
ends_before v w = not (lt w.start v.end)

pub widest_ascend : (es : List Entry) (o : IterOptions) → Ascending ends_before (widest_spans es o)
widest_ascend es o = filter_map_ascends lt ends_before (begun es o) (written_ends es o) (ends_ascend es o) apart
  where
    apart : (a b : List ℕ) (v w : WidestSpan) → Among a (written_ends es o) → Among b (written_ends es o) → lt a b ≡ true → begun es o a ≡ Some v → begun es o b ≡ Some w → not (lt w.start v.end) ≡ true
    apart a b v w m n l g h = go (lt w.start v.end) refl
      where
        one : (a ≡ v.start) × (in_bounds o a ≡ true) × (widest_span es o a ≡ Some v)
        one = begun_is es o a v m g

        other : (b ≡ w.start) × (in_bounds o b ≡ true) × (widest_span es o b ≡ Some w)
        other = begun_is es o b w n h

        go : (t : Bool) → lt w.start v.end ≡ t → not t ≡ true
        go false e = refl
        go true e =
            let low : lt b v.start ≡ false = sym (ap (lt b) one.0) ∙ back a b l in
            let high : lt b v.end ≡ true = ap (λ z. lt z v.end) other.0 ∙ e in
            let same : v ≡ w = same_Some v w (sym (span_of_its_keys es o a b v one.1 one.2 (and_from (not (lt b v.start)) (lt b v.end) (rw low refl) high)) ∙ other.2) in
            let alike : a ≡ b = one.0 ∙ ap (λ (s : WidestSpan). s.start) same ∙ sym other.0 in
            let never : lt a b ≡ false = rw alike (self b) in
            cc

pub widest_rise : (es : List Entry) (o : IterOptions) → ascends ends_before (widest_spans es o) ≡ true
widest_rise es o = ascends_of ends_before (widest_spans es o) (widest_ascend es o)

abbrev starts_below : WidestSpan → WidestSpan → Bool
starts_below v w = lt v.start w.start

by_start : (ws : List WidestSpan) → ((w : WidestSpan) → Among w ws → lt w.start w.end ≡ true) → Ascending ends_before ws → Ascending starts_below ws
by_start [] proper up = tt
by_start (v ∷ ws) proper up = (all_among (λ w. starts_below v w ≡ true) ws later, by_start ws (λ w m. proper w (inr m)) up.1)
  where
    later : (w : WidestSpan) → Among w ws → starts_below v w ≡ true
    later w m = lt_ge key_total v.start v.end w.start (proper v (inl refl)) (not-true (lt w.start v.end) (among_all (λ w. ends_before v w ≡ true) ws w up.0 m))

shared : (es fs : List Entry) (o : IterOptions) → GiveSameCovers es fs o → (w : WidestSpan) → Among w (widest_spans es o) → Among w (widest_spans fs o)
shared es fs o g w m =
    let is = among_widest es o w m in
    widest_among fs o w.start w is.inside (sym (spans_of_covers es fs o g w.start (keyed es o g.first g.bounds w.start is.begins) is.inside) ∙ is.span)

-- they are those of the covers alone
pub widest_of_covers : (es fs : List Entry) (o : IterOptions) → GiveSameCovers es fs o → widest_spans es o ≡ widest_spans fs o
widest_of_covers es fs o g =
    same_ascending starts_below (λ v w h. back v.start w.start h) (λ v. self v.start) (widest_spans es o) (widest_spans fs o)
    (by_start (widest_spans es o) (λ w m. (widest_proper es o w m).0) (widest_ascend es o))
    (by_start (widest_spans fs o) (λ w m. (widest_proper fs o w m).0) (widest_ascend fs o))
    (shared es fs o g) (shared fs es o (turned es fs o g))
