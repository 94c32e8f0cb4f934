-- What points and the widest spans give: the span that a key lies in, the point there, and what the mask hides.
use Rattle.std.proofs.Common.{◌≡◌, ◌≢◌, ℕ, true, false, not, ◌&&◌, List, [], ◌∷◌, ◌++◌, map, filter, Option, Some, None, refl, ap, sym, ◌∙◌, inl, inr, subst, option_map, option_and_then, arith, le-leb, le-ltb, nat_le}
use Rattle.std.specs.Prelude.{IsTrue}
use Rattle.std.specs.List.{All, list_all}
use Rattle.std.specs.Option.{option_map_or}
use Rattle.std.specs.Ordering.{is_lt, is_eq}
use Rattle.std.specs.declared.cmp.Ordering.TheVariants.{Equal}
use Rattle.std.proofs.lemmas.Bool.{and_parts}
use Rattle.std.proofs.lemmas.Cmp.{alike_right, on_total}
use Rattle.std.proofs.lemmas.List.{append-nil}
use Rattle.std.proofs.lemmas.List.Elements.{All-from_recursion, All-append, filter-append}
use Rattle.rk_key.specs.Keys.{IsKey, key_cmp}
use Rattle.rk_key.specs.KeyTests.{is_key}
use Rattle.rk_key.proofs.KeyTests.{key_by_test}
use Rattle.rk_model.specs.Lists.{Among, first_of}
use Rattle.rk_model.specs.Operations.{within, is_over}
use Rattle.rk_model.specs.Covers.{upto, over, newest, is_point, put_value, cover, cover_of}
use Rattle.rk_model.specs.Spans.{in_bounds, WidestSpan, widest_span}
use Rattle.rk_model.specs.Positions.{masks}
use Rattle.rk_model.specs.Sources.{ascends, op_key}
use Rattle.rk_model.specs.Items.{keyed_extents}
use Rattle.rk_model.specs.declared.op.Op.{Op}
use Rattle.rk_model.specs.declared.op.Op.TheVariants.{Put, Del, RangeSet, RangeUnset, RangeDel}
use Rattle.rk_model.specs.declared.op.Entry.{Entry}
use Rattle.rk_model.specs.declared.span.RangeKind.{RangeKind}
use Rattle.rk_model.specs.declared.span.RangeKind.TheVariants.{Set, Unset, Del as DelRange}
use Rattle.rk_model.specs.declared.span.RangeKey.{RangeKey}
use Rattle.rk_model.specs.declared.span.Span.{Span}
use Rattle.rk_model.specs.declared.span.SuffixValue.{SuffixValue}
use Rattle.rk_model.specs.declared.options.IterOptions.{IterOptions}
use Rattle.rk_model.proofs.Lists.{filter_all, filter_none}
use Rattle.rk_model.proofs.Members.{all_among, among_filter, filter_among, flat_map_among, among_map, map_among, first_among, first_is, every_gives}
use Rattle.rk_coalesce.specs.SpanKeys.{op_of, entry_of, span_entries}
use Rattle.rk_laws.specs.SameCells.{op_keys, WellFormed, GiveSameCovers}
use Rattle.rk_laws.proofs.Order.{key_total, eq_is}
use Rattle.rk_laws.proofs.Dropped.{filter_on}
use Rattle.rk_laws.proofs.Plain.{is_span, cover_of-spans, value_of}
use Rattle.rk_laws.proofs.Widest.{span_is, span_there, span_of_its_keys, span_parts}
use Rattle.rk_laws.proofs.Agree.{spans_of_covers}
use Rattle.rk_merge.proofs.Lists.{filter_ascends}
use Rattle.rk_span_laws.specs.Joined.{entries_of, widest_spans, as_set, as_span}
use Rattle.rk_span_laws.specs.Given.{given, is_put, are_single_puts, AreShown, span_over, pair_of, pairs_of, as_widest}
use Rattle.rk_span_laws.specs.GivenLaws.{SpanIsTheOneOver, PointIsTheOneThere, MaskedIsHidden}
use Rattle.rk_span_laws.proofs.Covers.{extent_of, within_from}
use Rattle.rk_span_laws.proofs.Widest.{among_widest, widest_among}

-- an entry of spans is that of a range key of one of them
abbrev pub OfSpan : List Span → Entry → Type 0
OfSpan ss e = (s : Span) × ((k : RangeKey) × (Among s ss × (Among k s.keys × (e ≡ entry_of s k))))

pub entry_among : (ss : List Span) (e : Entry) → Among e (entries_of ss) → OfSpan ss e
entry_among ss e m =
    let (s, n) = flat_map_among span_entries ss e m in
    let (k, i) = map_among (entry_of s) s.keys e n.1 in
    (s, (k, (n.0, (i.0, i.1))))

no_point_op : (start end : List ℕ) (kind : RangeKind) (suffix value : List ℕ) → is_point (op_of start end kind suffix value) ≡ false
no_point_op start end Set suffix value = refl
no_point_op start end Unset suffix value = refl
no_point_op start end DelRange suffix value = refl

pub no_point : (ss : List Span) (e : Entry) → Among e (entries_of ss) → is_point e.op ≡ false
no_point ss e m =
    let (s, (k, i)) = entry_among ss e m in
    ap (λ (f : Entry). is_point f.op) i.1.1 ∙ no_point_op s.start s.end k.kind k.suffix k.value

put_point : (op : Op) → is_put op ≡ true → is_point op ≡ true
put_point (Put key value) h = refl
put_point (Del key) h = cc
put_point (RangeSet start end suffix value) h = cc
put_point (RangeUnset start end suffix) h = cc
put_point (RangeDel start end) h = cc

put_over : (x : List ℕ) (op : Op) → is_put op ≡ true → is_over x op ≡ is_eq (key_cmp (op_key op) x)
put_over x (Put key value) h = refl
put_over x (Del key) h = cc
put_over x (RangeSet start end suffix value) h = cc
put_over x (RangeUnset start end suffix) h = cc
put_over x (RangeDel start end) h = cc

-- a single put is a put, and its key is one
pub single_put : (ps : List Entry) → IsTrue (are_single_puts ps) → (e : Entry) → Among e ps → (is_put e.op ≡ true) × IsKey (op_key e.op)
single_put ps single e m =
    let all = (and_parts (list_all (λ e. is_put e.op && is_key (op_key e.op)) ps) _ single).0 in
    let both = and_parts (is_put e.op) (is_key (op_key e.op)) (every_gives (λ e. is_put e.op && is_key (op_key e.op)) ps e all m) in
    (both.0, key_by_test (op_key e.op) both.1)

put_keys : (op : Op) → is_put op ≡ true → IsKey (op_key op) → All IsKey (op_keys op)
put_keys (Put key value) h k = All-from_recursion IsKey (key ∷ []) (k, tt)
put_keys (Del key) h k = cc
put_keys (RangeSet start end suffix value) h k = cc
put_keys (RangeUnset start end suffix) h k = cc
put_keys (RangeDel start end) h k = cc

puts_formed : (ps : List Entry) → IsTrue (are_single_puts ps) → WellFormed ps
puts_formed ps single =
    All-from_recursion (λ (e : Entry). All IsKey (op_keys e.op)) ps
    (all_among (λ e. All IsKey (op_keys e.op)) ps (λ e m. let p = single_put ps single e m in put_keys e.op p.0 p.1))

span_keys_formed : (start end : List ℕ) (kind : RangeKind) (suffix value : List ℕ) → IsKey start → IsKey end → All IsKey (op_keys (op_of start end kind suffix value))
span_keys_formed start end Set suffix value a b = All-from_recursion IsKey (start ∷ end ∷ []) (a, (b, tt))
span_keys_formed start end Unset suffix value a b = All-from_recursion IsKey (start ∷ end ∷ []) (a, (b, tt))
span_keys_formed start end DelRange suffix value a b = All-from_recursion IsKey (start ∷ end ∷ []) (a, (b, tt))

spans_formed : (ss : List Span) → IsTrue (keyed_extents ss) → WellFormed (entries_of ss)
spans_formed ss keyed = All-from_recursion (λ (e : Entry). All IsKey (op_keys e.op)) (entries_of ss) (all_among (λ e. All IsKey (op_keys e.op)) (entries_of ss) formed)
  where
    formed : (e : Entry) → Among e (entries_of ss) → All IsKey (op_keys e.op)
    formed e m =
        let (s, (k, i)) = entry_among ss e m in
        let extent = extent_of ss keyed s i.0 in
        subst (λ (f : Entry). All IsKey (op_keys f.op)) (sym i.1.1) (span_keys_formed s.start s.end k.kind k.suffix k.value extent.start extent.end)

-- the points add no entry of a span over a key
spans_alone : (ps : List Entry) (ss : List Span) (x : List ℕ) → IsTrue (are_single_puts ps) → filter is_span (over x (given ps ss)) ≡ filter is_span (over x (entries_of ss))
spans_alone ps ss x single =
    ap (filter is_span) (filter-append (λ e. is_over x e.op) ps (entries_of ss))
    ∙ filter-append is_span (over x ps) (over x (entries_of ss))
    ∙ ap (λ l. l ++ filter is_span (over x (entries_of ss))) (filter_none is_span (over x ps) (all_among (λ e. is_span e ≡ false) (over x ps) plain))
  where
    plain : (e : Entry) → Among e (over x ps) → is_span e ≡ false
    plain e m = ap not (put_point e.op (single_put ps single e (filter_among (λ e. is_over x e.op) ps e m).0).0)

pub cover_given : (ps : List Entry) (ss : List Span) (x : List ℕ) → IsTrue (are_single_puts ps) → cover (given ps ss) x ≡ cover (entries_of ss) x
cover_given ps ss x single = cover_of-spans (over x (given ps ss)) ∙ ap cover_of (spans_alone ps ss x single) ∙ sym (cover_of-spans (over x (entries_of ss)))

-- a span and its cover come back from its range keys
pairs_are : (n : ℕ) (ps : List SuffixValue) → map pair_of (map (as_set n) ps) ≡ ps
pairs_are n [] = refl
pairs_are n (p ∷ ps) = ap (λ l. p ∷ l) (pairs_are n ps)

pub as_widest_is : (n : ℕ) (w : WidestSpan) → as_widest (as_span n w) ≡ w
as_widest_is n w = span_parts (as_widest (as_span n w)) w refl refl (pairs_are n w.cover)

-- of entries in the order of their keys, all on one key, there is but one, which is the newest
newest_alone : (x : List ℕ) (es : List Entry) → ascends (λ e f. is_lt (key_cmp (op_key e.op) (op_key f.op))) es ≡ true → ((e : Entry) → Among e es → is_eq (key_cmp (op_key e.op) x) ≡ true) → newest es ≡ first_of es
newest_alone x [] up on = refl
newest_alone x (e ∷ []) up on = rw (le-ltb e.seq e.seq (omega arith)) refl
newest_alone x (e ∷ f ∷ fs) up on =
    let one : key_cmp (op_key e.op) x ≡ Equal = eq_is key_total (op_key e.op) x (on e (inl refl)) in
    let other : key_cmp (op_key f.op) x ≡ Equal = eq_is key_total (op_key f.op) x (on f (inr (inl refl))) in
    let both : key_cmp (op_key e.op) (op_key f.op) ≡ Equal = alike_right key_total (op_key f.op) x (op_key e.op) other ∙ one in
    let below : is_lt (key_cmp (op_key e.op) (op_key f.op)) ≡ true = (and_parts (is_lt (key_cmp (op_key e.op) (op_key f.op))) _ up).0 in
    let not_below : is_lt (key_cmp (op_key e.op) (op_key f.op)) ≡ false = ap is_lt both in
    cc

-- the points on a key
abbrev pub on_key : List ℕ → List Entry → List Entry
on_key x ps = filter (λ e. is_eq (key_cmp (op_key e.op) x)) ps

points_alone : (ps : List Entry) (ss : List Span) (x : List ℕ) → IsTrue (are_single_puts ps) → filter (λ e. is_point e.op) (over x (given ps ss)) ≡ on_key x ps
points_alone ps ss x single =
    ap (filter (λ e. is_point e.op)) (filter-append (λ e. is_over x e.op) ps (entries_of ss))
    ∙ filter-append (λ e. is_point e.op) (over x ps) (over x (entries_of ss))
    ∙ ap (λ l. filter (λ e. is_point e.op) (over x ps) ++ l) (filter_none (λ e. is_point e.op) (over x (entries_of ss)) (all_among (λ e. is_point e.op ≡ false) (over x (entries_of ss)) (λ e m. no_point ss e (filter_among (λ e. is_over x e.op) (entries_of ss) e m).0)))
    ∙ append-nil (filter (λ e. is_point e.op) (over x ps))
    ∙ filter_all (λ e. is_point e.op) (over x ps) (all_among (λ e. is_point e.op ≡ true) (over x ps) (λ e m. put_point e.op (put e (filter_among (λ e. is_over x e.op) ps e m).0)))
    ∙ filter_on (λ e. is_over x e.op) (λ e. is_eq (key_cmp (op_key e.op) x)) ps (λ e m. put_over x e.op (put e m))
  where
    put : (e : Entry) → Among e ps → is_put e.op ≡ true
    put e m = (single_put ps single e m).0

pub point_is_the_one_there : PointIsTheOneThere
point_is_the_one_there n o ps ss h x k =
    ap value_of (points_alone ps ss x h.single)
    ∙ ap (λ (f : Option Entry). option_and_then (λ e. put_value e.op) f) (newest_alone x (on_key x ps)
    (filter_ascends (on_total (λ (e : Entry). op_key e.op) key_total) (λ e. is_eq (key_cmp (op_key e.op) x)) ps (and_parts (list_all (λ e. is_put e.op && is_key (op_key e.op)) ps) _ h.single).1)
    (λ e m. (filter_among (λ e. is_eq (key_cmp (op_key e.op) x)) ps e m).1))

module _ (n : ℕ) (o : IterOptions) (ps : List Entry) (ss : List Span) (shown : AreShown n o ps ss) where
  pub same_covers : GiveSameCovers (given ps ss) (entries_of ss) o
  same_covers = record {
    first = All-append (λ (e : Entry). All IsKey (op_keys e.op)) ps (entries_of ss) (puts_formed ps shown.single) (spans_formed ss shown.ordered);
    second = spans_formed ss shown.ordered;
    bounds = shown.bounds;
    covers = λ x k i. cover_given ps ss x shown.single;
  }

  -- a span of a list of spans that are joined
  joined_from : (s : Span) → Among s ss → (w : WidestSpan) × (Among w (widest_spans (upto n (entries_of ss)) o) × (s ≡ as_span n w))
  joined_from s m = map_among (as_span n) (widest_spans (upto n (entries_of ss)) o) s (subst (Among s) (sym shown.widest) m)

  -- all range keys are numbered n
  numbered_n : (e : Entry) → Among e (entries_of ss) → nat_le e.seq n ≡ true
  numbered_n e m =
      let (s, (k, i)) = entry_among ss e m in
      let (w, j) = joined_from s i.0 in
      let (p, l) = map_among (as_set n) w.cover k (subst (λ (t : Span). Among k t.keys) j.1 i.1.0) in
      let is : e.seq ≡ n = ap (λ (f : Entry). f.seq) i.1.1 ∙ ap (λ (q : RangeKey). q.seq) l.1 in
      le-leb e.seq n (omega (arith, is))

  all_upto : upto n (entries_of ss) ≡ entries_of ss
  all_upto = filter_all (λ e. nat_le e.seq n) (entries_of ss) (all_among (λ e. nat_le e.seq n ≡ true) (entries_of ss) numbered_n)

  -- the spans are the widest ones
  pub widest_of : (s : Span) → Among s ss → (w : WidestSpan) × (Among w (widest_spans (entries_of ss) o) × (s ≡ as_span n w))
  widest_of s m = let (w, i) = joined_from s m in (w, (subst (λ es. Among w (widest_spans es o)) all_upto i.0, i.1))

  of_widest : (w : WidestSpan) → Among w (widest_spans (entries_of ss) o) → Among (as_span n w) ss
  of_widest w m = subst (Among (as_span n w)) shown.widest (among_map (as_span n) (widest_spans (upto n (entries_of ss)) o) w (subst (λ es. Among w (widest_spans es o)) (sym all_upto) m))

  -- a span that a key lies in is the widest one there
  over_gives : (x : List ℕ) (s : Span) → span_over ss x ≡ Some s → widest_span (entries_of ss) o x ≡ Some (as_widest s)
  over_gives x s e =
      let m = filter_among (λ s. within s.start s.end x) ss s (first_among (filter (λ s. within s.start s.end x) ss) s e) in
      let (w, i) = widest_of s m.0 in
      let g = among_widest (entries_of ss) o w i.0 in
      let here : within w.start w.end x ≡ true = subst (λ (t : Span). within t.start t.end x ≡ true) i.1 m.1 in
      span_of_its_keys (entries_of ss) o w.start x w g.inside g.span here ∙ ap Some (sym (ap as_widest i.1 ∙ as_widest_is n w))

  -- the widest span at a key is a span that it lies in
  over_there : (x : List ℕ) (w : WidestSpan) → in_bounds o x ≡ true → widest_span (entries_of ss) o x ≡ Some w → (s : Span) × (span_over ss x ≡ Some s)
  over_there x w inside g =
      let i = span_is (entries_of ss) o x w g in
      let here = within_from w.start w.end x i.start.upto i.stop.past in
      first_is (filter (λ s. within s.start s.end x) ss) (as_span n w) (among_filter (λ s. within s.start s.end x) ss (as_span n w) (of_widest w (widest_among (entries_of ss) o x w inside g)) here)

  pub over_is : (x : List ℕ) → IsKey x → in_bounds o x ≡ true → widest_span (given ps ss) o x ≡ option_map as_widest (span_over ss x)
  over_is x k inside = spans_of_covers (given ps ss) (entries_of ss) o same_covers x k inside ∙ go (span_over ss x) refl (widest_span (entries_of ss) o x) refl
    where
      go : (f : Option Span) → span_over ss x ≡ f → (t : Option WidestSpan) → widest_span (entries_of ss) o x ≡ t → widest_span (entries_of ss) o x ≡ option_map as_widest f
      go (Some s) e t g = over_gives x s e
      go None e None g = g
      go None e (Some w) g = let (s, f) = over_there x w inside g in cc

  -- the cover at a key is that of the span that it lies in
  pub cover_is : (x : List ℕ) → IsKey x → in_bounds o x ≡ true → cover (given ps ss) x ≡ option_map_or pairs_of (span_over ss x) []
  cover_is x k inside = go (span_over ss x) (over_is x k inside) (cover (given ps ss) x) refl
    where
      go : (f : Option Span) → widest_span (given ps ss) o x ≡ option_map as_widest f → (c : List SuffixValue) → cover (given ps ss) x ≡ c → cover (given ps ss) x ≡ option_map_or pairs_of f []
      go (Some s) e c g = sym (span_is (given ps ss) o x (as_widest s) e).has
      go None e [] g = g
      go None e (q ∷ qs) g =
          let some : cover (given ps ss) x ≢ [] = λ z. (let no : q ∷ qs ≡ [] = sym g ∙ z in cc) in
          let (w, f) = span_there (given ps ss) o x inside some in
          cc

pub span_is_the_one_over : SpanIsTheOneOver
span_is_the_one_over n o ps ss h x k inside = over_is n o ps ss h x k inside

pub masked_is_hidden : MaskedIsHidden
masked_is_hidden n o ps ss h x k inside = ap (λ c. option_map_or (λ m. masks c m x) o.mask false) (cover_is n o ps ss h x k inside)
