-- The widest spans of spans as spans again: their order, their covers, and that they stay as they are.
use Rattle.std.proofs.Common.{◌≡◌, ◌≢◌, ℕ, true, false, not, ◌&&◌, nat_lt, List, [], ◌∷◌, map, refl, ap, sym, ◌∙◌, subst, arith}
use Rattle.std.specs.Prelude.{IsTrue, nat_le}
use Rattle.std.specs.List.{AllByRecursion, list_all, list_any, filter_map, All}
use Rattle.std.proofs.lemmas.Bool.{and_parts, and_from, le-leb, lt-ltb, ltb-true, false_from_ne_true}
use Rattle.std.proofs.lemmas.List.Elements.{All-from_recursion}
use Rattle.rk_key.specs.Keys.{IsKey}
use Rattle.rk_key.specs.KeyTests.{is_key}
use Rattle.rk_key.proofs.KeyTests.{key_tested}
use Rattle.rk_model.specs.Lists.{Among, none_of}
use Rattle.rk_model.specs.Operations.{within, NumbersDiffer}
use Rattle.rk_model.specs.Covers.{upto, cover, cover_of, standing, ends_set, by_suffix}
use Rattle.rk_model.specs.Spans.{in_bounds, WidestSpan}
use Rattle.rk_model.specs.Sources.{ascends, is_extent, is_span, are_spans, are_newest_first}
use Rattle.rk_model.specs.Items.{keyed_extents, keyed_spans}
use Rattle.rk_model.specs.ItemLaws.{spans-extents}
use Rattle.rk_model.specs.declared.op.Entry.{Entry}
use Rattle.rk_model.specs.declared.span.RangeKind.{RangeKind}
use Rattle.rk_model.specs.declared.span.RangeKind.TheVariants as kind
use Rattle.rk_model.specs.declared.span.RangeKey.{RangeKey}
use Rattle.rk_model.specs.declared.span.Span.{Span}
use Rattle.rk_model.specs.declared.span.SuffixValue.{SuffixValue}
use Rattle.rk_model.specs.declared.options.IterOptions.{IterOptions}
use Rattle.rk_model.proofs.Lists.{filter_all}
use Rattle.rk_model.proofs.Numbers.{some_differ}
use Rattle.rk_model.proofs.Members.{Ascending, among_all, all_among, none_any, filter_among, flat_map_among, among_map, map_among, every_from, every_gives}
use Rattle.rk_coalesce.specs.SpanKeys.{op_of, entry_of, span_entries}
use Rattle.rk_laws.specs.SameCells.{op_keys, WellFormed, KeyBounds, GiveSameCovers}
use Rattle.rk_laws.proofs.Agree.{keyed}
use Rattle.rk_laws.proofs.Alike.{cover_of_ascends}
use Rattle.rk_laws.proofs.Ends.{lt}
use Rattle.rk_laws.proofs.Pairs.{less, insert_front}
use Rattle.rk_laws.proofs.Widest.{span_is, span_has_one_cover, span_of_each_cover, self}
use Rattle.rk_span_laws.specs.Joined.{entries_of, widest_spans, as_set, as_span, joined}
use Rattle.rk_span_laws.specs.JoinedLaws.{JoinedAreInOrder, JoinedHaveTheCovers, JoinedStayJoined}
use Rattle.rk_span_laws.proofs.Ascents.{ascends_of, ascending_from, ascending_map}
use Rattle.rk_span_laws.proofs.Covers.{apart, within_from, extent_of, SpanAt, at, gap, span_at, span_has_its_cover, no_span_no_cover}
use Rattle.rk_span_laws.proofs.Widest.{among_widest, widest_among, widest_proper, widest_ascend, widest_of_covers}

-- the entries of spans in order are well formed
span_keys : (start end : List ℕ) (r : RangeKind) (suffix value : List ℕ) → op_keys (op_of start end r suffix value) ≡ start ∷ end ∷ []
span_keys start end kind.Set suffix value = refl
span_keys start end kind.Unset suffix value = refl
span_keys start end kind.Del suffix value = refl

-- the entry of a range key of one of the spans
pub entry_from : (n : ℕ) (ss : List Span) (e : Entry) → Among e (upto n (entries_of ss)) → (s : Span) × (k : RangeKey) × Among s ss × Among k s.keys × (e ≡ entry_of s k)
entry_from n ss e m =
    let (s, j) = flat_map_among span_entries ss e (filter_among (λ e. nat_le e.seq n) (entries_of ss) e m).0 in
    let (k, i) = map_among (entry_of s) s.keys e j.1 in
    (s, k, j.0, i.0, i.1)

pub well_formed : (n : ℕ) (ss : List Span) → IsTrue (keyed_extents ss) → WellFormed (upto n (entries_of ss))
well_formed n ss h = All-from_recursion (λ e. All IsKey (op_keys e.op)) (upto n (entries_of ss)) (all_among (λ e. All IsKey (op_keys e.op)) (upto n (entries_of ss)) each)
  where
    each : (e : Entry) → Among e (upto n (entries_of ss)) → All IsKey (op_keys e.op)
    each e m =
        let (s, k, among, own, is) = entry_from n ss e m in
        let x = extent_of ss h s among in
        let keys : op_keys e.op ≡ s.start ∷ s.end ∷ [] = ap (λ (f : Entry). op_keys f.op) is ∙ span_keys s.start s.end k.kind k.suffix k.value in
        rw keys (All-from_recursion IsKey (s.start ∷ s.end ∷ []) (x.start, (x.end, tt)))

-- what a widest span is as a span
not_below : (n : ℕ) → nat_lt n n ≡ false
not_below n = false_from_ne_true (nat_lt n n) (λ e. let l = ltb-true n n e in omega (arith, l))

map_none_of : {A B : Type 0} (f : A → B) (xs : List A) → none_of (map f xs) ≡ none_of xs
map_none_of f [] = refl
map_none_of f (x ∷ xs) = refl

some_there : {A : Type 0} (xs : List A) → xs ≢ [] → none_of xs ≡ false
some_there [] h = absurd (h refl)
some_there (x ∷ xs) h = refl

set_number : (n : ℕ) (w : WidestSpan) (e : Entry) → Among e (span_entries (as_span n w)) → e.seq ≡ n
set_number n w e m =
    let (k, i) = map_among (entry_of (as_span n w)) (map (as_set n) w.cover) e m in
    let (p, j) = map_among (as_set n) w.cover k i.0 in
    ap (λ (f : Entry). f.seq) i.1 ∙ ap (λ (r : RangeKey). r.seq) j.1

-- sets of one number all stand
sets_stand : (here : List Entry) (n : ℕ) (span : Span) → ((s : List ℕ) → list_any (λ f. nat_lt n f.seq && ends_set s f.op) here ≡ false) → (ps : List SuffixValue) →
    filter_map (λ e. standing here e.seq e.op) (map (entry_of span) (map (as_set n) ps)) ≡ ps
sets_stand here n span none [] = refl
sets_stand here n span none (p ∷ ps) = rw (none p.suffix) (ap (λ l. p ∷ l) (sets_stand here n span none ps))

sets_cover : (n : ℕ) (w : WidestSpan) → cover_of (span_entries (as_span n w)) ≡ by_suffix w.cover
sets_cover n w = ap by_suffix (sets_stand (span_entries (as_span n w)) n (as_span n w) none w.cover)
  where
    none : (s : List ℕ) → list_any (λ f. nat_lt n f.seq && ends_set s f.op) (span_entries (as_span n w)) ≡ false
    none s = none_any (λ f. nat_lt n f.seq && ends_set s f.op) (span_entries (as_span n w)) (λ f m. rw (set_number n w f m, not_below n) refl)

one_upto : (n : ℕ) (w : WidestSpan) → upto n (span_entries (as_span n w)) ≡ span_entries (as_span n w)
one_upto n w = filter_all (λ e. nat_le e.seq n) (span_entries (as_span n w)) (all_among (λ e. nat_le e.seq n ≡ true) (span_entries (as_span n w)) (λ e m. rw (set_number n w e m) (le-leb n n (omega arith))))

-- sorted pairs with different suffixes are sorted again as they are
pub by_suffix_ascending : (ps : List SuffixValue) → Ascending less ps → by_suffix ps ≡ ps
by_suffix_ascending [] up = refl
by_suffix_ascending (p ∷ ps) up = rw (by_suffix_ascending ps up.1) (insert_front p ps up.0)

-- The cover that each span gives stays as it is when it is sorted again. So it does where no two range keys of a span
-- have one number; where two sets with one suffix do, sorting turns their order.
abbrev pub Settled : ℕ → List Span → Type 0
Settled n ss = (s : Span) → Among s ss → by_suffix (cover_of (upto n (span_entries s))) ≡ cover_of (upto n (span_entries s))

pub differ_settle : (n : ℕ) (ss : List Span) → AllByRecursion (λ s. NumbersDiffer (span_entries s)) ss → Settled n ss
differ_settle n ss h s m = by_suffix_ascending (cover_of (upto n (span_entries s))) (cover_of_ascends (upto n (span_entries s)) (some_differ (λ e. nat_le e.seq n) (span_entries s) (among_all (λ s. NumbersDiffer (span_entries s)) ss s h m)))

pub joined_among : (n : ℕ) (o : IterOptions) (ss : List Span) (s : Span) → Among s (joined n o ss) → (w : WidestSpan) × Among w (widest_spans (upto n (entries_of ss)) o) × (s ≡ as_span n w)
joined_among n o ss s m = let (w, i) = map_among (as_span n) (widest_spans (upto n (entries_of ss)) o) s m in (w, i.0, i.1)

-- all of what they give is numbered n
pub joined_upto : (n : ℕ) (o : IterOptions) (ss : List Span) → upto n (entries_of (joined n o ss)) ≡ entries_of (joined n o ss)
joined_upto n o ss = filter_all (λ e. nat_le e.seq n) (entries_of (joined n o ss)) (all_among (λ e. nat_le e.seq n ≡ true) (entries_of (joined n o ss)) each)
  where
    each : (e : Entry) → Among e (entries_of (joined n o ss)) → nat_le e.seq n ≡ true
    each e m =
        let (s, j) = flat_map_among span_entries (joined n o ss) e m in
        let (w, i, is) = joined_among n o ss s j.0 in
        let own = subst (λ (z : Span). Among e (span_entries z)) is j.1 in
        rw (set_number n w e own) (le-leb n n (omega arith))

-- range keys of which each is older than the one before it
older_differ : (span : Span) (ks : List RangeKey) → Ascending (λ j k. nat_lt k.seq j.seq) ks → NumbersDiffer (map (entry_of span) ks)
older_differ span [] up = tt
older_differ span (k ∷ ks) up = (all_among (λ f. f.seq ≢ k.seq) (map (entry_of span) ks) other, older_differ span ks up.1)
  where
    other : (f : Entry) → Among f (map (entry_of span) ks) → f.seq ≢ k.seq
    other f m e =
        let (j, i) = map_among (entry_of span) ks f m in
        let l = ltb-true j.seq k.seq (among_all (λ j. nat_lt j.seq k.seq ≡ true) ks j up.0 i.0) in
        let same : j.seq ≡ k.seq = sym (ap (λ (g : Entry). g.seq) i.1) ∙ e in
        omega (arith, l, same)

older_goes_on : (i j k : RangeKey) → nat_lt j.seq i.seq ≡ true → nat_lt k.seq j.seq ≡ true → nat_lt k.seq i.seq ≡ true
older_goes_on i j k p q =
    let a = ltb-true j.seq i.seq p in
    let b = ltb-true k.seq j.seq q in
    lt-ltb k.seq i.seq (omega (arith, a, b))

-- so it does where the range keys of each span are the newest first
pub newest_settle : (n : ℕ) (ss : List Span) → IsTrue (keyed_spans ss) → Settled n ss
newest_settle n ss h = differ_settle n ss (all_among (λ s. NumbersDiffer (span_entries s)) ss differ)
  where
    all : list_all is_span ss ≡ true
    all = (and_parts (list_all is_span ss) _ (and_parts (are_spans ss) _ h).0).0

    differ : (s : Span) → Among s ss → NumbersDiffer (span_entries s)
    differ s m =
        let falls = (and_parts (is_extent s) (are_newest_first s.keys) (every_gives is_span ss s all m)).1 in
        older_differ s s.keys (ascending_from (λ j k. nat_lt k.seq j.seq) (λ k. Unit {0}) (λ i j k u. older_goes_on i j k) s.keys (λ k m. tt) falls)

module _ (n : ℕ) (o : IterOptions) (ss : List Span) (bounds : KeyBounds o) (ordered : IsTrue (keyed_extents ss)) where
  abbrev sees : List Entry
  sees = upto n (entries_of ss)

  abbrev widest : List WidestSpan
  widest = widest_spans sees o

  joined_extent : (w : WidestSpan) → Among w widest → is_extent (as_span n w) ≡ true
  joined_extent w m =
      let p = widest_proper sees o w m in
      and_from (lt w.start w.end) (not (none_of (map (as_set n) w.cover))) p.0 (rw (map_none_of (as_set n) w.cover, some_there w.cover p.1) refl)

  joined_keyed : (w : WidestSpan) → Among w widest → (is_key w.start && is_key w.end) ≡ true
  joined_keyed w m =
      let is = among_widest sees o w m in
      let ends = keyed sees o (well_formed n ss ordered) bounds in
      and_from (is_key w.start) (is_key w.end) (key_tested w.start (ends w.start is.begins)) (key_tested w.end (ends w.end (span_is sees o w.start w is.span).stop.among))

  pub joined_ordered : IsTrue (keyed_extents (joined n o ss))
  joined_ordered =
      and_from (list_all is_extent (joined n o ss) && ascends apart (joined n o ss)) (list_all (λ s. is_key s.start && is_key s.end) (joined n o ss))
      (and_from (list_all is_extent (joined n o ss)) (ascends apart (joined n o ss))
      (every_from is_extent (joined n o ss) (λ s m. let (w, i, e) = joined_among n o ss s m in ap is_extent e ∙ joined_extent w i))
      (ascends_of apart (joined n o ss) (ascending_map apart (as_span n) widest (widest_ascend sees o))))
      (every_from (λ s. is_key s.start && is_key s.end) (joined n o ss) (λ s m. let (w, i, e) = joined_among n o ss s m in ap (λ (z : Span). is_key z.start && is_key z.end) e ∙ joined_keyed w i))

  module _ (settled : Settled n ss) where
    -- the cover of a widest span is that of a span
    widest_settled : (w : WidestSpan) → Among w widest → by_suffix w.cover ≡ w.cover
    widest_settled w m = go (span_at ss w.start)
      where
        has : w.cover ≡ cover sees w.start
        has = (span_is sees o w.start w (among_widest sees o w m).span).has

        go : SpanAt ss w.start → by_suffix w.cover ≡ w.cover
        go (at s k i) =
            let is : w.cover ≡ cover_of (upto n (span_entries s)) = has ∙ span_has_its_cover n ss ordered s w.start k i in
            ap by_suffix is ∙ settled s k ∙ sym is
        go (gap none) = absurd ((widest_proper sees o w m).1 (has ∙ no_span_no_cover n ss w.start none))

    covers_stay : (x : List ℕ) → in_bounds o x ≡ true → cover (upto n (entries_of (joined n o ss))) x ≡ cover sees x
    covers_stay x inside = go (span_at (joined n o ss) x)
      where
        uncovered : ((s : Span) → Among s (joined n o ss) → within s.start s.end x ≡ false) → (c : List SuffixValue) → cover sees x ≡ c → cover sees x ≡ []
        uncovered none [] e = e
        uncovered none (p ∷ ps) e =
            let (w, found) = span_of_each_cover sees o x inside (λ z. let q : p ∷ ps ≡ [] = sym e ∙ z in cc) in
            let over_it : within w.start w.end x ≡ true = found.1 in
            let out = none (as_span n w) (among_map (as_span n) widest w (widest_among sees o x w inside found.0)) in
            cc

        go : SpanAt (joined n o ss) x → cover (upto n (entries_of (joined n o ss))) x ≡ cover sees x
        go (at s m i) =
            let (w, k, e) = joined_among n o ss s m in
            let is = among_widest sees o w k in
            let over_it : within w.start w.end x ≡ true = sym (ap (λ (z : Span). within z.start z.end x) e) ∙ i in
            span_has_its_cover n (joined n o ss) joined_ordered s x m i
            ∙ ap (λ (z : Span). cover_of (upto n (span_entries z))) e
            ∙ ap cover_of (one_upto n w)
            ∙ sets_cover n w
            ∙ widest_settled w k
            ∙ sym (span_has_one_cover sees o w.start x w is.inside is.span over_it).0
        go (gap none) = no_span_no_cover n (joined n o ss) x none ∙ sym (uncovered none (cover sees x) refl)

    -- within the bounds they give the covers of what they are joined from
    pub joined_covers : (x : List ℕ) → in_bounds o x ≡ true → cover (entries_of (joined n o ss)) x ≡ cover sees x
    joined_covers x inside = sym (ap (λ es. cover es x) (joined_upto n o ss)) ∙ covers_stay x inside

    -- and are the widest ones of themselves
    pub joined_stay : joined n o (joined n o ss) ≡ joined n o ss
    joined_stay = sym (ap (map (as_span n)) (widest_of_covers sees (upto n (entries_of (joined n o ss))) o same))
      where
        same : GiveSameCovers sees (upto n (entries_of (joined n o ss))) o
        same = record {
          first = well_formed n ss ordered;
          second = well_formed n (joined n o ss) joined_ordered;
          bounds = bounds;
          covers = λ x k i. sym (covers_stay x i);
        }

-- spans that are the widest ones of themselves have such covers
pub stay_settled : (n : ℕ) (o : IterOptions) (ss : List Span) → IsTrue (keyed_extents ss) → joined n o ss ≡ ss → Settled n ss
stay_settled n o ss ordered stay s m =
    let (w, k, is) = joined_among n o ss s (rw stay m) in
    let gives : cover_of (upto n (span_entries s)) ≡ by_suffix w.cover = ap (λ (z : Span). cover_of (upto n (span_entries z))) is ∙ ap cover_of (one_upto n w) ∙ sets_cover n w in
    let i = span_is (upto n (entries_of ss)) o w.start w (among_widest (upto n (entries_of ss)) o w k).span in
    let first = within_from w.start w.end w.start (self w.start) i.stop.past in
    let has = i.has ∙ span_has_its_cover n ss ordered s w.start m (ap (λ (z : Span). within z.start z.end w.start) is ∙ first) in
    ap by_suffix (sym has) ∙ sym gives

pub joined_are_in_order : JoinedAreInOrder
joined_are_in_order n o ss bounds ordered = joined_ordered n o ss bounds ordered

-- of spans with the newest range keys first they give the covers, and stay joined
pub joined_have_the_covers : JoinedHaveTheCovers
joined_have_the_covers n o ss bounds ordered x key inside = joined_covers n o ss bounds (spans-extents ss ordered) (newest_settle n ss ordered) x inside

pub joined_stay_joined : JoinedStayJoined
joined_stay_joined n o ss bounds ordered = joined_stay n o ss bounds (spans-extents ss ordered) (newest_settle n ss ordered)
