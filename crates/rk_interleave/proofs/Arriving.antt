-- What is lent after a move is what is reported where it leads.
use Rattle.std.proofs.Common.{◌≡◌, Bool, true, false, not, ◌&&◌, List, [], ◌∷◌, filter, Option, Some, None, Result, Ok, Err, refl, sym, ap, ◌∙◌, subst, if◌then◌else◌, option_and_then, ℕ}
use Rattle.std.specs.Prelude.{IsTrue, IfSome, MatchOption, is_some, OnOk}
use Rattle.rk_outside.specs.declared.error.SourceError.{SourceError}
use Rattle.rk_model.specs.Cuts.{count_before}
use Rattle.rk_model.specs.Items.{keyed_points, keyed_extents}
use Rattle.rk_model.specs.Moves.{Move, Next, Prev, moved, key_at, raised, sought, least, greatest, span_of, span_changed, same_span, reported_span, reported_value}
use Rattle.rk_model.specs.Positions.{positions, shown}
use Rattle.rk_model.specs.declared.cursor.Cursor.TheVariants.{Fresh, Start as AtStart, At, End as AtEnd}
use Rattle.rk_model.specs.Operations.{within}
use Rattle.rk_model.specs.Plain.{at_cursor}
use Rattle.rk_model.specs.Spans.{in_bounds, WidestSpan}
use Rattle.rk_model.specs.Standings.{Listing, Standing, IsTold}
use Rattle.rk_model.specs.declared.op.Entry.{Entry}
use Rattle.rk_model.specs.declared.span.Span.{Span}
use Rattle.rk_model.specs.declared.options.IterOptions.{IterOptions}
use Rattle.rk_model.specs.declared.cursor.Cursor.{Cursor}
use Rattle.rk_model.specs.declared.cut.Cut.{Cut}
use Rattle.rk_model.specs.declared.cut.Cut.TheVariants.{Start, Below, Past, End}
use Rattle.rk_key.specs.Keys.{IsKey, key_cmp}
use Rattle.std.specs.Ordering.{is_lt}
use Rattle.std.specs.List.{slice_get}
use Rattle.rk_model.specs.Cuts.{is_passed}
use Rattle.rk_model.specs.Items.{point_takes, span_takes}
use Rattle.rk_model.specs.ItemLaws.{points-first, points-part, spans-first}
use Rattle.rk_model.specs.Sources.{op_key}
use Rattle.rk_sources.specs.Bounds.{between, lows, highs}
use Rattle.rk_span_laws.specs.Given.{given, AreShown, IsPlace, is_sooner}
use Rattle.rk_interleave.specs.Standing.{AllPassed, Passed, lies_on, beside}
use Rattle.rk_interleave.proofs.Cutting.{Fits}
use Rattle.rk_interleave.proofs.Orders.{below_key, puts_rise}
use Rattle.rk_interleave.proofs.Parts.{part_of, part_rises}
use Rattle.rk_interleave.proofs.Near.{nears, in_order}
use Rattle.rk_interleave.proofs.Found.{IsFound, found}
use Rattle.std.proofs.lemmas.Bool.{true≢false}
use Rattle.rk_laws.proofs.Order.{key_total, lt_back}
use Rattle.rk_interleave.proofs.Parts.{cut_behind}
use Rattle.rk_interleave.proofs.Reaching.{sought_off, sought_in, none_over_key, over_key, over_it, value_at_key}
use Rattle.rk_interleave.proofs.Travelling.{not_begun}
use Rattle.rk_interleave.proofs.Landing.{Landed, landed, near_is, held_at, told_at, all_passed}
use Rattle.rk_interleave.proofs.Reporting.{Shows, Reported, reported_next, reported_at}
use Rattle.rk_interleave.proofs.Stepping.{kept_listing, inner_told}
use Rattle.rk_sources.specs.Bounds.{Bounding, Keeps}
use Rattle.rk_interleave.specs.Interleaving.{Interleaving, IsOver, Lends, Moves, view_of}
use Rattle.rk_interleave.specs.Settling.{inner_listing, inner_standing, nearest, has_begun, is_left, seen_over, seen_value}
use Rattle.rk_interleave.specs.Showing.{Showing, shown_off}
use Rattle.rk_interleave.specs.Standing.{IsInterleaving, interleaving, Stands, Travels, Reaches, GoesTo, arrived, cut_from, shown_next, given_or}

-- a move to a cursor is well: what is lent is what is reported there, and the sources stand on the way on
pub record Arrived {P S : Type 0} (listing : P → Listing Entry) (standing : P → Standing Entry) (spread : S → Listing Span) (spanning : S → Standing Span) (b b' : Bounding P) (m m' : Interleaving P S) (to : List Entry → Cursor) : Type 0 where
  pub moved : (es : List Entry) → IsOver m.options (listing m.points) (spread m.spans) es → view_of es m' ≡ at_cursor (view_of es m) (to es)
  pub lends : (es : List Entry) → IsOver m.options (listing m.points) (spread m.spans) es → Lends es m'
  pub stays : IsInterleaving listing standing spread spanning b' m'

-- nothing is lost where the sources are
pub lost : {P S : Type 0} (listing : P → Listing Entry) (standing : P → Standing Entry) (spread : S → Listing Span) (spanning : S → Standing Span) (b b' : Bounding P) (s s' : S) (o : IterOptions) (m : Showing) (facing : Option Bool) → Keeps listing b b' → spread s' ≡ spread s
    → IsInterleaving listing standing spread spanning b (interleaving b s o m facing) → IsInterleaving listing standing spread spanning b' (interleaving b' s' o m None)
lost listing standing spread spanning b b' s s' o m facing kept same was = record {
  lower = kept.lower ∙ was.lower;
  upper = kept.upper ∙ was.upper;
  stands = tt;
  lends = λ es over. let l = was.lends es (rw (kept.same, same) at over) in record { value = l.value; span = l.span };
  inside = λ es over. was.inside es (rw (kept.same, same) at over);
  passed = λ es over. tt;
}

pub kept_self : {P : Type 0} (listing : P → Listing Entry) (b : Bounding P) → Keeps listing b b
kept_self listing b = record { same = refl; lower = refl; upper = refl }

-- to no key
changed_off : (es : List Entry) (o : IterOptions) (c c' : Cursor) (span : Option WidestSpan) → key_at c' ≡ None → span ≡ span_of es o c → is_some span ≡ span_changed es o c c'
changed_off es o c c' span off there = rw (there, off) (go (span_of es o c))
  where
    go : (w : Option WidestSpan) → is_some w ≡ not (same_span w None)
    go None = refl
    go (Some s) = refl

span_reported : (es : List Entry) (o : IterOptions) (c : Cursor) (changed : Bool) → reported_span (record { sees = es; options = o; cursor = c; changed = changed }) ≡ span_of es o c
span_reported es o Fresh changed = refl
span_reported es o AtStart changed = refl
span_reported es o (At x) changed = refl
span_reported es o AtEnd changed = refl

pub leaves : {P S : Type 0} (listing : P → Listing Entry) (standing : P → Standing Entry) (spread : S → Listing Span) (spanning : S → Standing Span) (b : Bounding P) (s : S) (o : IterOptions) (m : Showing) (facing : Option Bool) (c : Cursor) → key_at c ≡ None
    → IsInterleaving listing standing spread spanning b (interleaving b s o m facing)
    → Arrived listing standing spread spanning b b (interleaving b s o m facing) (interleaving b s o (shown_off m c) None) (λ es. c)
leaves listing standing spread spanning b s o m facing c off was = record {
  moved = λ es over. ap (λ d. record { sees = es; options = o; cursor = c; changed = d }) (changed_off es o m.cursor c m.span off ((was.lends es over).span ∙ span_reported es o m.cursor m.changed));
  lends = λ es over. lends es;
  stays = record { lower = was.lower; upper = was.upper; stands = tt; lends = λ es over. lends es; inside = λ es over. rw off tt; passed = λ es over. tt };
}
  where
    lends : (es : List Entry) → Lends es (interleaving b s o (shown_off m c) None)
    lends es = record { value = rw off refl; span = rw off refl }

value_reported : (es : List Entry) (o : IterOptions) (c : Cursor) (changed : Bool) → reported_value (record { sees = es; options = o; cursor = c; changed = changed }) ≡ option_and_then (shown es o) (key_at c)
value_reported es o Fresh changed = refl
value_reported es o AtStart changed = refl
value_reported es o (At x) changed = refl
value_reported es o AtEnd changed = refl

-- a key that is raised to a bound is one
raised_key : (lower : Option (List ℕ)) (k : List ℕ) → IsKey k → IfSome lower IsKey → IsKey (raised lower k)
raised_key None k key low = key
raised_key (Some l) k key low = go (is_lt (key_cmp k l))
  where
    go : (b : Bool) → IsKey (if b then l else k)
    go true = low
    go false = key

seen_is : (p : Option Span) (u : Span) (x : List ℕ) → p ≡ Some u → within u.start u.end x ≡ true → seen_over p x ≡ Some u
seen_is p u x is over = rw (is, over) refl

-- the span that has begun
begun_there : (x : List ℕ) (p : Option Span) → has_begun true (Past x) p ≡ true → (u : Span) × ((p ≡ Some u) × (has_begun true (Past x) (Some u) ≡ true))
begun_there x None e = cc
begun_there x (Some u) e = (u, (refl, e))

-- a point no farther than a key is passed beside it
point_beside : (forward : Bool) (y : List ℕ) (e : Entry) → is_sooner forward y (op_key e.op) ≡ false → is_passed forward (point_takes (beside forward y) e) ≡ true
point_beside true y e le = ap not le
point_beside false y e le = ap not le

module _ {P S : Type 0} (listing : P → Listing Entry) (standing : P → Standing Entry) (spread : S → Listing Span) (spanning : S → Standing Span)
    (p_ordered : (p : P) → IfSome (listing p).held (λ es. IsTrue (keyed_points es))) (p_told : (p : P) → IsTold (listing p) (standing p))
    (s_ordered : (s : S) → IfSome (spread s).held (λ ss. IsTrue (keyed_extents ss))) (s_told : (s : S) → IsTold (spread s) (spanning s)) where
  -- what is lent after a move, and where the sources stand then
  record Facts (b' : Bounding P) (s' : S) (o : IterOptions) (m m' : Showing) (forward : Bool) (to : Cursor) (n : ℕ) (ps : List Entry) (ss : List Span) (sh : AreShown n o ps ss) : Type 0 where
    reported : Reported n o ps ss sh m m' to
    passed : IfSome (if is_some (key_at m'.cursor) then Some forward else None) (λ f. Passed f (cut_from f (key_at m'.cursor)) (inner_listing listing b') (inner_standing listing standing b') (spread s') (spanning s'))

  inner_held : (b : Bounding P) (o : IterOptions) (ps : List Entry) → b.lower ≡ o.lower → b.upper ≡ o.upper → (listing b.source).held ≡ Some ps → (inner_listing listing b).held ≡ Some (between (λ f cut e. point_takes cut e) o.lower o.upper ps)
  inner_held b o ps low high told = rw (low, high, told) refl

  shows_of : (es : List Entry) (o : IterOptions) (m : Showing) (facing : Option Bool) (b : Bounding P) (s : S) → Lends es (interleaving b s o m facing) → Shows es o m
  shows_of es o m facing b s lends = record { value = lends.value ∙ value_reported es o m.cursor m.changed; span = lends.span ∙ span_reported es o m.cursor m.changed }

  lends_of : (es : List Entry) (o : IterOptions) (m : Showing) (facing : Option Bool) (b : Bounding P) (s : S) → Shows es o m → Lends es (interleaving b s o m facing)
  lends_of es o m facing b s shows = record { value = shows.value ∙ sym (value_reported es o m.cursor m.changed); span = shows.span ∙ sym (span_reported es o m.cursor m.changed) }

  passed_next : (b' : Bounding P) (s' : S) (o : IterOptions) (m m' : Showing) (forward : Bool) (cut : Cut (List ℕ)) (ps xs : List Entry) (ss : List Span) (here : Option Entry) (span : Option Span) (g h : ℕ) (p : Option (List ℕ))
      → (inner_listing listing b').held ≡ Some xs → (spread s').held ≡ Some ss → (inner_standing listing standing b').gap ≡ Some g → (spanning s').gap ≡ Some h
      → MatchOption p ((z : List ℕ) → IsPlace o ps ss z → lies_on forward cut z ≡ true → ⊥) (λ y. IsFound forward cut o ps xs ss here span g h y) → m' ≡ shown_next o forward p here span m
      → IfSome (if is_some (key_at m'.cursor) then Some forward else None) (λ f. Passed f (cut_from f (key_at m'.cursor)) (inner_listing listing b') (inner_standing listing standing b') (spread s') (spanning s'))
  passed_next b' s' o m m' forward cut ps xs ss here span g h None held spread_is gap span_gap it shown = rw shown (off forward)
    where
      off : (f : Bool) → IfSome (if is_some (key_at (if f then AtEnd else AtStart)) then Some forward else None) (λ d. Passed d (cut_from d (key_at (if f then AtEnd else AtStart))) (inner_listing listing b') (inner_standing listing standing b') (spread s') (spanning s'))
      off true = tt
      off false = tt
  passed_next b' s' o m m' forward cut ps xs ss here span g h (Some y) held spread_is gap span_gap it shown = rw shown (record {
    points = all_passed forward (point_takes (beside forward y)) (inner_listing listing b') (inner_standing listing standing b') xs g held gap (λ i e is behind. point_beside forward y e (it.points i e is behind));
    spans = all_passed forward (span_takes forward (beside forward y)) (spread s') (spanning s') ss h spread_is span_gap it.spans;
  })

  -- where it is known over all that an interleaver is over, a move is well
  went : (b b' : Bounding P) (s s' : S) (o : IterOptions) (m m' : Showing) (facing : Option Bool) (forward : Bool) (to : List Entry → Cursor)
      → Keeps listing b b' → spread s' ≡ spread s → Stands forward (inner_standing listing standing b') (spanning s')
      → IsInterleaving listing standing spread spanning b (interleaving b s o m facing)
      → ((es : List Entry) (over : IsOver o (listing b.source) (spread s) es) → Facts b' s' o m m' forward (to (given over.puts over.joins)) over.number over.puts over.joins over.shown)
      → Arrived listing standing spread spanning b b' (interleaving b s o m facing) (interleaving b' s' o m' (if is_some (key_at m'.cursor) then Some forward else None)) to
  went b b' s s' o m m' facing forward to kept same stands was facts = record {
    moved = λ es over. let r = (facts es over).reported in rw (over.is, r.changed, r.cursor) refl;
    lends = λ es over. lends es over;
    stays = record {
      lower = kept.lower ∙ was.lower;
      upper = kept.upper ∙ was.upper;
      stands = stand (is_some (key_at m'.cursor));
      lends = λ es over. let l = lends es (rw (kept.same, same) at over) in record { value = l.value; span = l.span };
      inside = λ es over. (facts es (rw (kept.same, same) at over)).reported.inside;
      passed = λ es over. (facts es (rw (kept.same, same) at over)).passed;
    };
  }
    where
      stand : (there : Bool) → IfSome (if there then Some forward else None) (λ f. Stands f (inner_standing listing standing b') (spanning s'))
      stand true = stands
      stand false = tt

      lends : (es : List Entry) (over : IsOver o (listing b.source) (spread s) es) → Lends es (interleaving b' s' o m' (if is_some (key_at m'.cursor) then Some forward else None))
      lends es over = lends_of es o m' _ b' s' (subst (λ fs. Shows fs o m') (sym over.is) (facts es over).reported.shows)

  abbrev part_in : IterOptions → List Entry → List Entry
  part_in o ps = between (λ f cut e. point_takes cut e) o.lower o.upper ps

  keyed_in : (b : Bounding P) (ps : List Entry) → (listing b.source).held ≡ Some ps → IsTrue (keyed_points ps)
  keyed_in b ps told = held_at (listing b.source) ps (λ ps. IsTrue (keyed_points ps)) told (p_ordered b.source)

  module _ (b b' : Bounding P) (s s' : S) (o : IterOptions) (m m' : Showing) (facing : Option Bool) (forward passes begun : Bool) (cut : Cut (List ℕ)) (fit : Fits forward cut)
      (goes : IsTrue passes → (facing ≡ Some forward) × (cut ≡ cut_from forward (key_at m.cursor)))
      (kept : Keeps listing b b') (same : spread s' ≡ spread s) (stands : Stands forward (inner_standing listing standing b') (spanning s'))
      (was : IsInterleaving listing standing spread spanning b (interleaving b s o m facing))
      (travels : Travels forward passes cut o (inner_listing listing b) (spread s) (inner_standing listing standing b) (inner_standing listing standing b') (spanning s) (spanning s') begun) where
    landing : (es : List Entry) (over : IsOver o (listing b.source) (spread s) es) → Landed forward cut o (part_in o over.puts) over.joins (inner_standing listing standing b') travels.on (spanning s') begun
    landing es over =
        let ps = over.puts in
        let ss = over.joins in
        let keyed = keyed_in b ps over.told in
        let held = inner_held b o ps was.lower was.upper over.told in
        let parted = points-first cut (part_in o ps) (points-part (lows (λ f cut e. point_takes cut e) o.lower ps) (highs (λ f cut e. point_takes cut e) o.upper ps) ps keyed) in
        let old = was.passed es over in
        landed forward passes cut o (inner_listing listing b) (spread s) (inner_standing listing standing b) (inner_standing listing standing b') (spanning s) (spanning s') begun (part_in o ps) ss held over.spread parted (spans-first forward cut ss over.shown.ordered)
        (λ on. let (f, c) = goes on in (
          (subst (λ q. IfSome q (λ forward. Stands forward (inner_standing listing standing b) (spanning s))) f was.stands).points.known,
          subst (λ c. AllPassed forward (point_takes c) (inner_listing listing b) (inner_standing listing standing b)) (sym c) (subst (λ q. IfSome q (λ f. Passed f (cut_from f (key_at m.cursor)) (inner_listing listing b) (inner_standing listing standing b) (spread s) (spanning s))) f old).points,
        ))
        (λ on. let (f, c) = goes on in (
          (subst (λ q. IfSome q (λ forward. Stands forward (inner_standing listing standing b) (spanning s))) f was.stands).spans.known,
          subst (λ c. AllPassed forward (span_takes forward c) (spread s) (spanning s)) (sym c) (subst (λ q. IfSome q (λ f. Passed f (cut_from f (key_at m.cursor)) (inner_listing listing b) (inner_standing listing standing b) (spread s) (spanning s))) f old).spans,
        ))
        stands.points stands.spans (inner_told listing standing b b' p_told kept) (subst (λ k. IsTold k (spanning s')) same (s_told s')) travels

    facts_next : m' ≡ shown_next o forward (nearest forward begun (inner_standing listing standing b').here (spanning s').here) (inner_standing listing standing b').here (spanning s').here m
        → (es : List Entry) (over : IsOver o (listing b.source) (spread s) es) → Facts b' s' o m m' forward (arrived forward cut (given over.puts over.joins) o) over.number over.puts over.joins over.shown
    facts_next shows_it es over =
        let ps = over.puts in
        let ss = over.joins in
        let here = (inner_standing listing standing b').here in
        let span = (spanning s').here in
        let keyed = keyed_in b ps over.told in
        let land = landing es over in
        let near = nears forward cut o (part_in o ps) ss land.g land.h (part_rises o ps below_key (puts_rise ps over.shown.single)) (in_order ss over.shown.ordered) fit land.settled in
        let near' = near_is forward cut o (part_in o ps) ss (inner_standing listing standing b') travels.on (spanning s') begun land near in
        let it = found over.number o ps ss over.shown keyed (part_in o ps) (part_of o ps keyed) forward cut begun here span land.g _ near' (nearest forward begun here span) refl in
        let shows = shows_of es o m facing b s (was.lends es over) in
        let reported = reported_next over.number o ps ss over.shown forward cut (part_in o ps) here span land.g _ m (nearest forward begun here span) (subst (λ fs. Shows fs o m) over.is shows) (was.inside es over) it in
        record {
          reported = rw (← shows_it) at reported;
          passed = passed_next b' s' o m m' forward cut ps (part_in o ps) ss here span land.g _ (nearest forward begun here span) (ap (λ l. l.held) (kept_listing listing b b' kept) ∙ inner_held b o ps was.lower was.upper over.told) (ap (λ l. l.held) same ∙ over.spread) land.gap land.span_gap it shows_it;
        }

  -- on from a cut to the nearest position
  pub arrives : (b b' : Bounding P) (s s' : S) (o : IterOptions) (m m' : Showing) (facing : Option Bool) (forward passes begun : Bool) (cut : Cut (List ℕ)) → Fits forward cut
      → (IsTrue passes → (facing ≡ Some forward) × (cut ≡ cut_from forward (key_at m.cursor)))
      → Keeps listing b b' → spread s' ≡ spread s → Stands forward (inner_standing listing standing b') (spanning s')
      → IsInterleaving listing standing spread spanning b (interleaving b s o m facing)
      → Travels forward passes cut o (inner_listing listing b) (spread s) (inner_standing listing standing b) (inner_standing listing standing b') (spanning s) (spanning s') begun
      → m' ≡ shown_next o forward (nearest forward begun (inner_standing listing standing b').here (spanning s').here) (inner_standing listing standing b').here (spanning s').here m
      → Arrived listing standing spread spanning b b' (interleaving b s o m facing) (interleaving b' s' o m' (if is_some (key_at m'.cursor) then Some forward else None)) (λ es. arrived forward cut es o)
  arrives b b' s s' o m m' facing forward passes begun cut fit goes kept same stands was travels shows_it =
      went b b' s s' o m m' facing forward (λ es. arrived forward cut es o) kept same stands was (facts_next b b' s s' o m m' facing forward passes begun cut fit goes kept same stands was travels shows_it)

  -- forward to a key that a span is over, or to the nearest position on from it
  pub reaches : (b b' : Bounding P) (s s' : S) (o : IterOptions) (m m' : Showing) (facing : Option Bool) (k : List ℕ) (inside : Bool)
      → IsKey k → in_bounds o (raised o.lower k) ≡ true
      → Keeps listing b b' → spread s' ≡ spread s → Stands true (inner_standing listing standing b') (spanning s')
      → IsInterleaving listing standing spread spanning b (interleaving b s o m facing)
      → Reaches (raised o.lower k) o (inner_listing listing b) (spread s) (inner_standing listing standing b) (inner_standing listing standing b') (spanning s) (spanning s') inside
      → m' ≡ shown_next o true (given_or (if inside then Some (raised o.lower k) else None) (nearest true false (inner_standing listing standing b').here (spanning s').here)) (inner_standing listing standing b').here (spanning s').here m
      → Arrived listing standing spread spanning b b' (interleaving b s o m facing) (interleaving b' s' o m' (if is_some (key_at m'.cursor) then Some true else None)) (λ es. sought es o (raised o.lower k))
  reaches b b' s s' o m m' facing k inside key within kept same stands was reached shows_it = went b b' s s' o m m' facing true (λ es. sought es o (raised o.lower k)) kept same stands was (facts inside reached shows_it)
    where
      x : List ℕ
      x = raised o.lower k

      is_key : (n : ℕ) (ps : List Entry) (ss : List Span) → AreShown n o ps ss → IsKey x
      is_key n ps ss sh = raised_key o.lower k key sh.bounds.0

      facts : (inside : Bool) → Reaches x o (inner_listing listing b) (spread s) (inner_standing listing standing b) (inner_standing listing standing b') (spanning s) (spanning s') inside
          → m' ≡ shown_next o true (given_or (if inside then Some x else None) (nearest true false (inner_standing listing standing b').here (spanning s').here)) (inner_standing listing standing b').here (spanning s').here m
          → (es : List Entry) (over : IsOver o (listing b.source) (spread s) es) → Facts b' s' o m m' true (sought (given over.puts over.joins) o x) over.number over.puts over.joins over.shown
      facts false off shown_it es over =
          let fresh : off.begun ≡ false = off.travels.begins ∙ ap (λ c. c && not (is_left true (Below x) off.travels.on.here (inner_standing listing standing b').here)) (not_begun x off.travels.on.here off.off) in
          let land = landing b b' s s' o m m' facing true false off.begun (Below x) tt (λ e. absurd (true≢false (sym e))) kept same stands was off.travels es over in
          let out : has_begun true (Past x) (slice_get over.joins land.h) ≡ false = subst (λ p. has_begun true (Past x) p ≡ false) land.placed off.off in
          let none = none_over_key over.number o over.puts over.joins over.shown x (is_key over.number over.puts over.joins over.shown) within (part_in o over.puts) land.g land.h (part_rises o over.puts below_key (puts_rise over.puts over.shown.single)) land.settled out in
          let to = sought_off over.number o over.puts over.joins over.shown x (is_key over.number over.puts over.joins over.shown) within none in
          rw to (facts_next b b' s s' o m m' facing true false off.begun (Below x) tt (λ e. absurd (true≢false (sym e))) kept same stands was off.travels (rw fresh shown_it) es over)
      facts true at shown_it es over =
          let ps = over.puts in
          let ss = over.joins in
          let xs = part_in o ps in
          let isk = is_key over.number ps ss over.shown in
          let keyed = keyed_in b ps over.told in
          let held = inner_held b o ps was.lower was.upper over.told in
          let g = count_before (point_takes (Below x)) xs in
          let h = count_before (span_takes true (Below x)) ss in
          let gap : (inner_standing listing standing b').gap ≡ Some g = held_at (inner_listing listing b) xs (λ xs. (inner_standing listing standing b').gap ≡ Some (count_before (point_takes (Below x)) xs)) held at.points in
          let span_gap : (spanning s').gap ≡ Some h = held_at (spread s) ss (λ ss. (spanning s').gap ≡ Some (count_before (span_takes true (Below x)) ss)) over.spread at.spans in
          let (in_xs, here) = told_at (inner_listing listing b) (inner_standing listing standing b') true xs g (inner_told listing standing b b' p_told kept) stands.points.faces held gap in
          let (in_ss, span) = told_at (spread s) (spanning s') true ss h (subst (λ k. IsTold k (spanning s')) same (s_told s')) stands.spans.faces over.spread span_gap in
          let (u, there) = begun_there x (slice_get ss h) (subst (λ p. has_begun true (Past x) p ≡ true) span at.over) in
          let one = over_it over.number o ps ss over.shown x isk within u there.0 there.1 in
          let seen : seen_over (spanning s').here x ≡ Some u = seen_is (spanning s').here u x (span ∙ there.0) (over_key over.number o ps ss over.shown x isk within u there.0 there.1) in
          let value = value_at_key over.number o ps ss over.shown x isk within keyed xs (part_of o ps keyed) (part_rises o ps below_key (puts_rise ps over.shown.single)) in_xs (inner_standing listing standing b').here (sym here) (seen_over (spanning s').here x) (seen ∙ sym one) in
          let shows = shows_of es o m facing b s (was.lends es over) in
          let reported = reported_at over.number o ps ss over.shown m x (seen_value o (inner_standing listing standing b').here (seen_over (spanning s').here x) x) (seen_over (spanning s').here x) (subst (λ fs. Shows fs o m) over.is shows) (was.inside es over) isk within (seen ∙ sym one) value in
          let parted = points-first (Below x) xs (points-part (lows (λ f cut e. point_takes cut e) o.lower ps) (highs (λ f cut e. point_takes cut e) o.upper ps) ps keyed) in
          record {
            reported = rw (sought_in over.number o ps ss over.shown x isk within u one, shown_it) reported;
            passed = rw shown_it (record {
              points = all_passed true (point_takes (Past x)) (inner_listing listing b') (inner_standing listing standing b') xs g (ap (λ l. l.held) (kept_listing listing b b' kept) ∙ held) gap (λ i e is behind. ap not (lt_back key_total (op_key e.op) x (cut_behind true (point_takes (Below x)) xs i e parted is behind)));
              spans = all_passed true (span_takes true (Past x)) (spread s') (spanning s') ss h (ap (λ l. l.held) same ∙ over.spread) span_gap (λ i e is behind. cut_behind true (span_takes true (Below x)) ss i e (spans-first true (Below x) ss over.shown.ordered) is behind);
            });
          }

-- a move to the cursor that a move leads to
pub goes_moves : {P S : Type 0} (listing : P → Listing Entry) (spread : S → Listing Span) (m m' : Interleaving P S) (to : List Entry → Cursor) (move : Move) (result : Result Bool SourceError)
    → ((es : List Entry) → to es ≡ moved es m.options m.cursor move) → GoesTo listing spread m m' to result → Moves listing spread m m' move result
goes_moves listing spread m m' to move result leads goes = record {
  points = goes.points;
  spans = goes.spans;
  options = goes.options;
  moved = each result goes.moved;
  lends = goes.lends;
  answer = goes.answer;
  stays = goes.stays;
}
  where
    each : (r : Result Bool SourceError) → OnOk r ((es : List Entry) → IsOver m.options (listing m.points) (spread m.spans) es → view_of es m' ≡ at_cursor (view_of es m) (to es))
        → OnOk r ((es : List Entry) → IsOver m.options (listing m.points) (spread m.spans) es → view_of es m' ≡ at_cursor (view_of es m) (moved es m.options m.cursor move))
    each (Ok v) well = λ es over. well es over ∙ ap (at_cursor (view_of es m)) (leads es)
    each (Err e) well = tt

pub goes_of : {P S : Type 0} (listing : P → Listing Entry) (standing : P → Standing Entry) (spread : S → Listing Span) (spanning : S → Standing Span) (b b' : Bounding P) (s s' : S) (o : IterOptions) (m m' : Showing) (facing facing' : Option Bool) (to : List Entry → Cursor) (there : Bool)
    → Keeps listing b b' → spread s' ≡ spread s → there ≡ is_some (key_at m'.cursor)
    → Arrived listing standing spread spanning b b' (interleaving b s o m facing) (interleaving b' s' o m' facing') to
    → GoesTo listing spread (interleaving b s o m facing) (interleaving b' s' o m' facing') to (Ok there)
goes_of listing standing spread spanning b b' s s' o m m' facing facing' to there kept same answer went = record {
  points = kept.same;
  spans = same;
  options = refl;
  moved = went.moved;
  lends = went.lends;
  answer = answer;
  stays = tt;
}

-- the whole list is those on from where a direction begins
all_on : (keys : List (List ℕ)) → filter (λ x. true) keys ≡ keys
all_on [] = refl
all_on (k ∷ ks) = ap (λ l. k ∷ l) (all_on ks)

pub from_start : (es : List Entry) (o : IterOptions) → arrived true Start es o ≡ least (positions es o)
from_start es o = ap least (all_on (positions es o))

pub from_end : (es : List Entry) (o : IterOptions) → arrived false End es o ≡ greatest (positions es o)
from_end es o = ap greatest (all_on (positions es o))

-- where a step leads, from anywhere but the end of its direction
pub steps_on : (es : List Entry) (o : IterOptions) (c : Cursor) → (c ≡ AtEnd → ⊥) → arrived true (cut_from true (key_at c)) es o ≡ moved es o c Next
steps_on es o Fresh off = from_start es o
steps_on es o AtStart off = from_start es o
steps_on es o (At x) off = refl
steps_on es o AtEnd off = absurd (off refl)

pub steps_back : (es : List Entry) (o : IterOptions) (c : Cursor) → (c ≡ AtStart → ⊥) → arrived false (cut_from false (key_at c)) es o ≡ moved es o c Prev
steps_back es o Fresh off = from_end es o
steps_back es o AtStart off = absurd (off refl)
steps_back es o (At x) off = refl
steps_back es o AtEnd off = from_end es o

-- a step goes from a cut that fits its direction
pub fits : (forward : Bool) (from : Option (List ℕ)) → Fits forward (cut_from forward from)
fits true from = tt
fits false None = tt
fits false (Some k) = tt
