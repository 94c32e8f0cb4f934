-- Merges of chunks whose numbers differ over each key are told.
use Rattle.std.proofs.Common.{◌≡◌, ◌≢◌, ℕ, ◌<◌, Bool, true, false, ◌&&◌, List, [], ◌∷◌, ◌++◌, Option, Some, None, refl, ap, sym, ◌∙◌, inl, inr, Less, Equal, Greater, arith, nat_lt, cond, ◌==◌}
use Rattle.std.specs.Prelude.{IsTrue}
use Rattle.std.specs.List.{AllByRecursion, filter_map, cons_option}
use Rattle.std.proofs.lemmas.Bool.{eqb-true}
use Rattle.std.specs.Ordering.{is_eq, nat_cmp, ordering_then}
use Rattle.std.proofs.lemmas.List.Elements.{filter-append}
use Rattle.rk_key.specs.Keys.{key_cmp}
use Rattle.rk_key.specs.KeyTests.{is_key}
use Rattle.rk_key.specs.Laws.{key_cmp-total}
use Rattle.std.proofs.lemmas.Cmp.{tied_itself}
use Rattle.rk_model.specs.Lists.{Among}
use Rattle.rk_model.specs.Operations.{is_over, NumbersDiffer}
use Rattle.rk_model.specs.Covers.{over, is_point}
use Rattle.rk_model.specs.Sources.{are_points, are_spans, op_key, entry_cmp}
use Rattle.rk_model.specs.Spans.{sorted_keys}
use Rattle.rk_model.specs.Items.{keyed_points, keyed_spans}
use Rattle.rk_model.specs.declared.op.Op.{Op}
use Rattle.rk_model.specs.declared.op.Op.TheVariants.{Put, Del, RangeSet, RangeUnset, RangeDel}
use Rattle.rk_model.specs.declared.op.Entry.{Entry}
use Rattle.rk_model.specs.declared.span.RangeKey.{RangeKey}
use Rattle.rk_model.specs.declared.span.Span.{Span}
use Rattle.rk_model.proofs.Members.{among_all, all_among, among_filter, among_left, among_right, among_append, every_gives, every_from, filter_map_among}
use Rattle.rk_model.proofs.SortedKeys.{sorted_among}
use Rattle.rk_merge.specs.Unions.{AmongAny}
use Rattle.rk_merge.specs.Laws.{union_of, NoneTie}
use Rattle.rk_merge.proofs.Lists.{and_parts, and_true}
use Rattle.rk_merge.proofs.Merged.{union_is_sorted, union_has_theirs}
use Rattle.rk_fragment.specs.Fragments.{range_key, keys_over, keys_at, fragments, KeysDiffer, FallsBy, spans_between, span_with}
use Rattle.rk_fragment.proofs.Exact.{each_key}
use Rattle.rk_fragment.proofs.Falling.{newest_falls}
use Rattle.rk_spanmerge.specs.Merges.{cut_spans, span_ends}
use Rattle.rk_spanmerge.proofs.Pools.{keys_over_append}
use Rattle.rk_spanmerge.proofs.Cutting.{cut_spans-sound, ends_from}
use Rattle.rk_merge_laws.specs.Chunks.{all_of, all_fragments, NumbersDifferOver}
use Rattle.rk_merge_laws.specs.Told.{PointsAreTold, SpansAreTold}
use Rattle.rk_merge_laws.proofs.SpanKeys.{fragment_from, pool_from, number_is}

-- entries of two lists whose numbers differ together
pub differ_left : (es fs : List Entry) → NumbersDiffer (es ++ fs) → NumbersDiffer es
differ_left [] fs d = tt
differ_left (e ∷ es) fs d = (all_among (λ f. f.seq ≢ e.seq) es (λ f m. among_all (λ f. f.seq ≢ e.seq) (es ++ fs) f d.0 (among_left es fs f m)), differ_left es fs d.1)

pub differ_right : (es fs : List Entry) → NumbersDiffer (es ++ fs) → NumbersDiffer fs
differ_right [] fs d = d
differ_right (e ∷ es) fs d = differ_right es fs d.1

differ_across : (es fs : List Entry) → NumbersDiffer (es ++ fs) → (e f : Entry) → Among e es → Among f fs → f.seq ≢ e.seq
differ_across [] fs d e f m n = absurd m
differ_across (x ∷ es) fs d e f (inl is) n = λ same. among_all (λ g. g.seq ≢ x.seq) (es ++ fs) f d.0 (among_right es fs f n) (same ∙ ap (λ (z : Entry). z.seq) is)
differ_across (x ∷ es) fs d e f (inr m) n = differ_across es fs d.1 e f m n

pub over_both : (x : List ℕ) (es : List Entry) (ess : List (List Entry)) → over x (all_of (es ∷ ess)) ≡ over x es ++ over x (all_of ess)
over_both x es ess = filter-append (λ e. is_over x e.op) es (all_of ess)

rest_differ : (es : List Entry) (ess : List (List Entry)) → NumbersDifferOver (es ∷ ess) → NumbersDifferOver ess
rest_differ es ess d x = differ_right (over x es) (over x (all_of ess)) (rw (sym (over_both x es ess)) (d x))

pub across : (es : List Entry) (ess : List (List Entry)) → NumbersDifferOver (es ∷ ess) → (x : List ℕ) (e f : Entry) → Among e es → is_over x e.op ≡ true → Among f (all_of ess) → is_over x f.op ≡ true → f.seq ≢ e.seq
across es ess d x e f m o n p =
    differ_across (over x es) (over x (all_of ess)) (rw (sym (over_both x es ess)) (d x)) e f
    (among_filter (λ e. is_over x e.op) es e m o) (among_filter (λ e. is_over x e.op) (all_of ess) f n p)

pub any_all : (ess : List (List Entry)) (f : Entry) → AmongAny f ess → Among f (all_of ess)
any_all [] f m = absurd m
any_all (es ∷ ess) f (inl m) = among_left es (all_of ess) f m
any_all (es ∷ ess) f (inr m) = among_right es (all_of ess) f (any_all ess f m)

any_is : (P : Entry → Type 0) (ess : List (List Entry)) → AllByRecursion (λ es. (e : Entry) → Among e es → P e) ess → (e : Entry) → AmongAny e ess → P e
any_is P [] all e m = absurd m
any_is P (es ∷ ess) all e (inl m) = all.0 e m
any_is P (es ∷ ess) all e (inr m) = any_is P ess all.1 e m

-- a point over the key of another, with its number
pub point_over : (x : List ℕ) (op : Op) → is_point op ≡ true → is_over x op ≡ is_eq (key_cmp (op_key op) x)
point_over x (Put key value) p = refl
point_over x (Del key) p = refl
point_over x (RangeSet start end suffix value) p = cc
point_over x (RangeUnset start end suffix) p = cc
point_over x (RangeDel start end) p = cc

same_number : (a b : ℕ) → is_eq (nat_cmp a b) ≡ true → a ≡ b
same_number a b e = go (nat_lt a b) (a == b) refl e
  where
    go : (c d : Bool) → (a == b) ≡ d → is_eq (cond c Less (cond d Equal Greater)) ≡ true → a ≡ b
    go true d p q = cc
    go false true p q = eqb-true a b p
    go false false p q = cc

tie_parts : (e f : Entry) → is_eq (entry_cmp e f) ≡ true → (is_eq (key_cmp (op_key e.op) (op_key f.op)) ≡ true) × (f.seq ≡ e.seq)
tie_parts e f tie = go (key_cmp (op_key e.op) (op_key f.op)) refl tie
  where
    go : (r : _) → key_cmp (op_key e.op) (op_key f.op) ≡ r → is_eq (ordering_then r (nat_cmp f.seq e.seq)) ≡ true → (is_eq (key_cmp (op_key e.op) (op_key f.op)) ≡ true) × (f.seq ≡ e.seq)
    go Less p q = cc
    go Equal p q = (ap is_eq p, same_number f.seq e.seq q)
    go Greater p q = cc

pub not_true : (b : Bool) → (b ≡ true → ⊥) → b ≡ false
not_true true h = absurd (h refl)
not_true false h = refl

points_of_list : (es : List Entry) → IsTrue (keyed_points es) → (e : Entry) → Among e es → is_point e.op ≡ true
points_of_list es keyed e m = every_gives (λ e. is_point e.op) es e (and_parts _ _ (and_parts (are_points es) _ keyed).0).0 m

keys_of_list : (es : List Entry) → IsTrue (keyed_points es) → (e : Entry) → Among e es → is_key (op_key e.op) ≡ true
keys_of_list es keyed e m = every_gives (λ e. is_key (op_key e.op)) es e (and_parts (are_points es) _ keyed).1 m

each : (P : List Entry → Type 0) (Q : List Entry → Type 0) → ((es : List Entry) → P es → Q es) → (ess : List (List Entry)) → AllByRecursion P ess → AllByRecursion Q ess
each P Q f [] all = tt
each P Q f (es ∷ ess) all = (f es all.0, each P Q f ess all.1)

none_tie : (ess : List (List Entry)) → AllByRecursion (λ es. IsTrue (keyed_points es)) ess → NumbersDifferOver ess → NoneTie ess
none_tie [] all d = tt
none_tie (es ∷ ess) all d = (apart, none_tie ess all.1 (rest_differ es ess d))
  where
    apart : (e f : Entry) → Among e es → AmongAny f ess → is_eq (entry_cmp e f) ≡ false
    apart e f m n = not_true (is_eq (entry_cmp e f)) (λ tie.
        let parts = tie_parts e f tie in
        let point_e = points_of_list es all.0 e m in
        let point_f = any_is (λ e. is_point e.op ≡ true) ess (each _ (λ es. (e : Entry) → Among e es → is_point e.op ≡ true) points_of_list ess all.1) f n in
        let over_e : is_over (op_key f.op) e.op ≡ true = point_over (op_key f.op) e.op point_e ∙ parts.0 in
        let over_f : is_over (op_key f.op) f.op ≡ true = point_over (op_key f.op) f.op point_f ∙ ap is_eq (tied_itself key_cmp-total (op_key f.op)) in
        across es ess d (op_key f.op) e f m over_e (any_all ess f n) over_f parts.1)

pub points_told : PointsAreTold
points_told ess all d =
    and_true (are_points (union_of ess)) _
    (union_is_sorted ess (each _ (λ es. IsTrue (are_points es)) (λ es keyed. (and_parts (are_points es) _ keyed).0) ess all) (none_tie ess all d))
    (every_from (λ e. is_key (op_key e.op)) (union_of ess) (λ e m. any_is (λ e. is_key (op_key e.op) ≡ true) ess (each _ (λ es. (e : Entry) → Among e es → is_key (op_key e.op) ≡ true) keys_of_list ess all) e ((union_has_theirs ess e).0 m)))

-- range keys of two lists, of which each differs from those of the other
keys_differ_both : (js ks : List RangeKey) → KeysDiffer js → KeysDiffer ks → ((j k : RangeKey) → Among j js → Among k ks → k.seq ≢ j.seq) → KeysDiffer (js ++ ks)
keys_differ_both [] ks d d' h = d'
keys_differ_both (j ∷ js) ks d d' h = (all_among (λ q. q.seq ≢ j.seq) (js ++ ks) other, keys_differ_both js ks d.1 d' (λ i k m n. h i k (inr m) n))
  where
    other : (q : RangeKey) → Among q (js ++ ks) → q.seq ≢ j.seq
    other q m = elim (among_append js ks q m) [ inl n ↦ among_all (λ q. q.seq ≢ j.seq) js q d.0 n | inr n ↦ h j q (inl refl) n ]

-- those of entries whose numbers differ
keys_of_differ : (es : List Entry) → NumbersDiffer es → KeysDiffer (filter_map (λ e. range_key e.seq e.op) es)
keys_of_differ [] d = tt
keys_of_differ (e ∷ es) d = go (range_key e.seq e.op) refl (keys_of_differ es d.1)
  where
    go : (o : Option RangeKey) → range_key e.seq e.op ≡ o → KeysDiffer (filter_map (λ e. range_key e.seq e.op) es) → KeysDiffer (cons_option o (filter_map (λ e. range_key e.seq e.op) es))
    go None p ih = ih
    go (Some k) p ih = (
      all_among (λ q. q.seq ≢ k.seq) _ (λ q m.
          let found = filter_map_among (λ e. range_key e.seq e.op) es q m in
          let far = among_all (λ f. f.seq ≢ e.seq) es found.0 d.0 found.1.0 in
          λ same. far (number_is found.0.seq found.0.op q found.1.1 ∙ same ∙ sym (number_is e.seq e.op k p))),
      ih,
    )

falling_differ : (ks : List RangeKey) → FallsBy (λ m n. m < n) ks → KeysDiffer ks
falling_differ [] h = tt
falling_differ (k ∷ ks) h = (all_among (λ q. q.seq ≢ k.seq) ks (λ q m same. let low = among_all (λ q. q.seq < k.seq) ks q h.0 m in omega (arith, low, same)), falling_differ ks h.1)

pool_differs : (x : List ℕ) (ess : List (List Entry)) → NumbersDifferOver ess → KeysDiffer (keys_over (all_fragments ess) x)
pool_differs x [] d = tt
pool_differs x (es ∷ ess) d =
    let own : NumbersDiffer (over x es) = differ_left (over x es) (over x (all_of ess)) (rw (sym (over_both x es ess)) (d x)) in
    let sorted : KeysDiffer (keys_at es x) = falling_differ (keys_at es x) (newest_falls (filter_map (λ e. range_key e.seq e.op) (over x es)) (keys_of_differ (over x es) own)) in
    rw (keys_over_append x (fragments es) (all_fragments ess)) (keys_differ_both (keys_over (fragments es) x) (keys_over (all_fragments ess) x) (rw (each_key es x) sorted) (pool_differs x ess (rest_differ es ess d)) apart)
  where
    apart : (j k : RangeKey) → Among j (keys_over (fragments es) x) → Among k (keys_over (all_fragments ess) x) → k.seq ≢ j.seq
    apart j k m n =
        let g = fragment_from x es j m in
        let h = pool_from x ess k n in
        let far = across es ess d x g.entry h.entry g.among g.over h.among h.over in
        λ same. far (number_is h.entry.seq h.entry.op k h.key ∙ same ∙ sym (number_is g.entry.seq g.entry.op j g.key))

-- the ends of spans between keys are among them
between_ends : (P : List ℕ → Type 0) (keys : List ℕ → List RangeKey) (ends : List (List ℕ)) → AllByRecursion P ends → AllByRecursion (λ s. P s.start × P s.end) (spans_between keys ends)
between_ends P keys [] all = tt
between_ends P keys (a ∷ []) all = tt
between_ends P keys (a ∷ b ∷ bs) all = go (keys a) (between_ends P keys (b ∷ bs) all.1)
  where
    go : (some : List RangeKey) → AllByRecursion (λ s. P s.start × P s.end) (spans_between keys (b ∷ bs)) → AllByRecursion (λ s. P s.start × P s.end) (cons_option (span_with a b some) (spans_between keys (b ∷ bs)))
    go [] ih = ih
    go (k ∷ ks) ih = ((all.0, all.1.0), ih)

span_keyed : (ss : List Span) → IsTrue (keyed_spans ss) → (s : Span) → Among s ss → (is_key s.start ≡ true) × (is_key s.end ≡ true)
span_keyed ss keyed s m = and_parts (is_key s.start) _ (every_gives (λ s. is_key s.start && is_key s.end) ss s (and_parts (are_spans ss) _ keyed).1 m)

pub pool_keyed : (ess : List (List Entry)) → AllByRecursion (λ es. IsTrue (keyed_spans (fragments es))) ess → (s : Span) → Among s (all_fragments ess) → (is_key s.start ≡ true) × (is_key s.end ≡ true)
pool_keyed [] all s m = absurd m
pool_keyed (es ∷ ess) all s m = elim (among_append (fragments es) (all_fragments ess) s m) [ inl n ↦ span_keyed (fragments es) all.0 s n | inr n ↦ pool_keyed ess all.1 s n ]

pub spans_told : SpansAreTold
spans_told ess all d =
    and_true (are_spans (cut_spans (all_fragments ess))) _
    (cut_spans-sound (all_fragments ess) (λ x. pool_differs x ess d))
    (every_from (λ s. is_key s.start && is_key s.end) (cut_spans (all_fragments ess)) (λ s m.
    let both = among_all (λ s. (is_key s.start ≡ true) × (is_key s.end ≡ true)) (cut_spans (all_fragments ess)) s
    (between_ends (λ k. is_key k ≡ true) _ (sorted_keys (span_ends (all_fragments ess))) (all_among (λ k. is_key k ≡ true) (sorted_keys (span_ends (all_fragments ess))) end_keyed)) m in
    and_true (is_key s.start) (is_key s.end) both.0 both.1))
  where
    end_keyed : (k : List ℕ) → Among k (sorted_keys (span_ends (all_fragments ess))) → is_key k ≡ true
    end_keyed k m =
        let (t, n, side) = ends_from true (all_fragments ess) k (sorted_among (span_ends (all_fragments ess)) k m) in
        let both = pool_keyed ess all t n in
        elim side [ inl is ↦ rw is both.0 | inr is ↦ rw is both.1 ]
