-- The range keys of a merged span are those of the entries over any of its keys.
use Rattle.std.proofs.Common.{◌≡◌, ◌≢◌, ℕ, Bool, true, false, not, ◌&&◌, cond, List, [], ◌∷◌, map, filter, Some, refl, ap, sym, ◌∙◌, ◌⊎◌, inl, inr, nat_lt, nat_le}
use Rattle.std.specs.Prelude.{IsTrue, unwrap_or}
use Rattle.std.specs.List.{list_all, filter_map}
use Rattle.std.proofs.lemmas.List.{append-nil}
use Rattle.rk_key.specs.Laws.{key_cmp-total}
use Rattle.rk_key.proofs.TotalOrders.{ge_trans, lt_ge}
use Rattle.rk_model.specs.Lists.{Among}
use Rattle.rk_model.specs.Operations.{within, is_over, NumbersDiffer}
use Rattle.rk_model.specs.Covers.{upto, over, cover, cover_of, is_point}
use Rattle.rk_model.specs.ItemLaws.{are-extents}
use Rattle.rk_model.specs.Sources.{is_span, are_spans, are_newest_first}
use Rattle.rk_model.specs.declared.op.Op.{Op}
use Rattle.rk_model.specs.declared.op.Op.TheVariants.{Put, Del, RangeSet, RangeUnset, RangeDel}
use Rattle.rk_model.specs.declared.op.Entry.{Entry}
use Rattle.rk_model.specs.declared.span.RangeKind.TheVariants as kind
use Rattle.rk_model.specs.declared.span.RangeKey.{RangeKey}
use Rattle.rk_model.specs.declared.span.Span.{Span}
use Rattle.rk_model.proofs.Numbers.{some_differ}
use Rattle.rk_model.proofs.Filters.{filter-filter, and_swaps}
use Rattle.rk_model.proofs.Members.{among_all, all_among, among_filter, filter_among, among_map, map_among, among_append, among_left, among_right, among_contained, contains_among, among_filter_map, filter_map_among, every_gives}
use Rattle.rk_laws.specs.SameEntries.{without_ends, effects_over}
use Rattle.rk_laws.proofs.Alike.{cover_of_effects}
use Rattle.rk_fragment.specs.Fragments.{range_key, insert_newest, newest_first, keys_over, keys_at, fragments, KeysDiffer}
use Rattle.rk_fragment.proofs.Exact.{each_key}
use Rattle.rk_coalesce.specs.SpanKeys.{op_of, entry_of, span_entries}
use Rattle.rk_coalesce.proofs.EachKey.{cover_at_each_key}
use Rattle.rk_merge.proofs.Lists.{and_parts}
use Rattle.rk_spanmerge.specs.Merges.{cut_spans, span_ends, are_distinct}
use Rattle.rk_spanmerge.specs.Moves.{lt}
use Rattle.rk_spanmerge.proofs.Chains.{Chain, chain_of, keys_over_cons, none_over}
use Rattle.rk_spanmerge.proofs.Pools.{keys_over_append}
use Rattle.rk_spanmerge.proofs.Cutting as cut
use Rattle.rk_spanmerge.proofs.Cutting.{falling_differ}
use Rattle.rk_merge_laws.specs.Chunks.{all_of, all_fragments}

below_start : (a b : Bool) → a ≡ true → not a && b ≡ false
below_start true b e = refl
below_start false b e = cc

past_end : (a b : Bool) → b ≡ false → not a && b ≡ false
past_end true b e = refl
past_end false b e = e

inside_parts : (a b : Bool) → not a && b ≡ true → (a ≡ false) × (b ≡ true)
inside_parts true b e = cc
inside_parts false b e = (refl, e)

-- of spans that don't meet, the one that a key lies in has all range keys over it
one_over : (x : List ℕ) (ss : List Span) → Chain ss → (s : Span) → Among s ss → within s.start s.end x ≡ true → keys_over ss x ≡ s.keys
one_over x [] h s m w = absurd m
one_over x (u ∷ us) h s (inl is) w =
    let here : within u.start u.end x ≡ true = rw (sym is) w in
    let sides = inside_parts (lt x u.start) (lt x u.end) here in
    let rest : keys_over us x ≡ [] = none_over x us (λ t m. below_start (lt x t.start) (lt x t.end) (lt_ge key_cmp-total x u.end t.start sides.1 (h.0.later t m))) in
    keys_over_cons u us x ∙ rw (here, rest) (append-nil u.keys) ∙ ap (λ (t : Span). t.keys) (sym is)
one_over x (u ∷ us) h s (inr m) w =
    let sides = inside_parts (lt x s.start) (lt x s.end) w in
    let gone : within u.start u.end x ≡ false = past_end (lt x u.start) (lt x u.end) (ge_trans key_cmp-total x s.start u.end sides.0 (h.0.later s m)) in
    keys_over_cons u us x ∙ rw gone (one_over x us h.1 s m w)

-- sorting by number keeps what there is
insert_among : (k : RangeKey) (qs : List RangeKey) (j : RangeKey) → Among j (insert_newest k qs) → (j ≡ k) ⊎ Among j qs
insert_among k [] j m = m
insert_among k (q ∷ qs) j m = go (nat_lt k.seq q.seq) m (insert_among k qs j)
  where
    go : (b : Bool) → Among j (cond b (q ∷ insert_newest k qs) (k ∷ q ∷ qs)) → (Among j (insert_newest k qs) → (j ≡ k) ⊎ Among j qs) → (j ≡ k) ⊎ Among j (q ∷ qs)
    go true (inl e) ih = inr (inl e)
    go true (inr m) ih = elim (ih m) [ inl e ↦ inl e | inr n ↦ inr (inr n) ]
    go false m ih = m

among_insert : (k : RangeKey) (qs : List RangeKey) (j : RangeKey) → (j ≡ k) ⊎ Among j qs → Among j (insert_newest k qs)
among_insert k [] j m = m
among_insert k (q ∷ qs) j m = go (nat_lt k.seq q.seq) m (among_insert k qs j)
  where
    go : (b : Bool) → (j ≡ k) ⊎ Among j (q ∷ qs) → ((j ≡ k) ⊎ Among j qs → Among j (insert_newest k qs)) → Among j (cond b (q ∷ insert_newest k qs) (k ∷ q ∷ qs))
    go true (inl e) ih = inr (ih (inl e))
    go true (inr (inl e)) ih = inl e
    go true (inr (inr n)) ih = inr (ih (inr n))
    go false m ih = m

newest_among : (ks : List RangeKey) (j : RangeKey) → Among j (newest_first ks) → Among j ks
newest_among [] j m = m
newest_among (k ∷ ks) j m = elim (insert_among k (newest_first ks) j m) [ inl e ↦ inl e | inr n ↦ inr (newest_among ks j n) ]

pub among_newest : (ks : List RangeKey) (j : RangeKey) → Among j ks → Among j (newest_first ks)
among_newest [] j m = m
among_newest (k ∷ ks) j (inl e) = among_insert k (newest_first ks) j (inl e)
among_newest (k ∷ ks) j (inr m) = among_insert k (newest_first ks) j (inr (among_newest ks j m))

-- an entry over a key whose range key is this one
pub record Gives (x : List ℕ) (es : List Entry) (k : RangeKey) : Type 0 where
  pub entry : Entry
  pub among : Among entry es
  pub over : is_over x entry.op ≡ true
  pub key : range_key entry.seq entry.op ≡ Some k

pub fragment_from : (x : List ℕ) (es : List Entry) (k : RangeKey) → Among k (keys_over (fragments es) x) → Gives x es k
fragment_from x es k m =
    let here : Among k (keys_at es x) = rw (sym (each_key es x)) m in
    let found = filter_map_among (λ e. range_key e.seq e.op) (over x es) k (newest_among (filter_map (λ e. range_key e.seq e.op) (over x es)) k here) in
    let all = filter_among (λ e. is_over x e.op) es found.0 found.1.0 in
    record { entry = found.0; among = all.0; over = all.1; key = found.1.1 }

fragment_to : (x : List ℕ) (es : List Entry) (k : RangeKey) → Gives x es k → Among k (keys_over (fragments es) x)
fragment_to x es k g =
    let here = among_filter_map (λ e. range_key e.seq e.op) (over x es) g.entry k (among_filter (λ e. is_over x e.op) es g.entry g.among g.over) g.key in
    rw (each_key es x) (among_newest (filter_map (λ e. range_key e.seq e.op) (over x es)) k here)

pub pool_from : (x : List ℕ) (ess : List (List Entry)) (k : RangeKey) → Among k (keys_over (all_fragments ess) x) → Gives x (all_of ess) k
pool_from x [] k m = absurd m
pool_from x (es ∷ ess) k m = elim (among_append (keys_over (fragments es) x) (keys_over (all_fragments ess) x) k (rw (sym (keys_over_append x (fragments es) (all_fragments ess))) m)) [
  | inl n ↦ let g = fragment_from x es k n in record { entry = g.entry; among = among_left es (all_of ess) g.entry g.among; over = g.over; key = g.key }
  | inr n ↦ let g = pool_from x ess k n in record { entry = g.entry; among = among_right es (all_of ess) g.entry g.among; over = g.over; key = g.key }
]

pub pool_to : (x : List ℕ) (ess : List (List Entry)) (k : RangeKey) → Gives x (all_of ess) k → Among k (keys_over (all_fragments ess) x)
pool_to x [] k g = absurd g.among
pool_to x (es ∷ ess) k g = rw (keys_over_append x (fragments es) (all_fragments ess)) (elim (among_append es (all_of ess) g.entry g.among) [
  | inl n ↦ among_left (keys_over (fragments es) x) (keys_over (all_fragments ess) x) k (fragment_to x es k (record { entry = g.entry; among = n; over = g.over; key = g.key }))
  | inr n ↦ among_right (keys_over (fragments es) x) (keys_over (all_fragments ess) x) k (pool_to x ess k (record { entry = g.entry; among = n; over = g.over; key = g.key }))
])

-- what an entry does over a key, without where it begins and ends
abbrev effect : Entry → Entry
effect e = record { op = without_ends e.op; seq = e.seq }

same_key : (j k : RangeKey) → Some j ≡ Some k → j ≡ k
same_key j k e = ap (λ o. unwrap_or o j) e

-- the range key of an entry does over a span what the entry does
effect_is : (a b : List ℕ) (n : ℕ) (op : Op) (k : RangeKey) → range_key n op ≡ Some k → ◌≡◌ {A = Entry} (record { op = without_ends op; seq = n }) (record { op = without_ends (op_of a b k.kind k.suffix k.value); seq = k.seq }) × (not (is_point op) ≡ true)
effect_is a b n (Put key value) k e = cc
effect_is a b n (Del key) k e = cc
effect_is a b n (RangeSet start end suffix value) k e = rw (sym (same_key _ k e)) (refl, refl)
effect_is a b n (RangeUnset start end suffix) k e = rw (sym (same_key _ k e)) (refl, refl)
effect_is a b n (RangeDel start end) k e = rw (sym (same_key _ k e)) (refl, refl)

pub number_is : (n : ℕ) (op : Op) (k : RangeKey) → range_key n op ≡ Some k → n ≡ k.seq
number_is n op k e = ap (λ (f : Entry). f.seq) (effect_is [] [] n op k e).0

-- each entry that is none of a point has a range key
pub has_key : (n : ℕ) (op : Op) → not (is_point op) ≡ true → (k : RangeKey) × (range_key n op ≡ Some k)
has_key n (Put key value) e = cc
has_key n (Del key) e = cc
has_key n (RangeSet start end suffix value) e = (_, refl)
has_key n (RangeUnset start end suffix) e = (_, refl)
has_key n (RangeDel start end) e = (_, refl)

over_span : (span : Span) (x : List ℕ) (k : RangeKey) → within span.start span.end x ≡ true → (is_over x (entry_of span k).op ≡ true) × (not (is_point (entry_of span k).op) ≡ true)
over_span span x k w = go k.kind
  where
    go : (r : _) → (is_over x (op_of span.start span.end r k.suffix k.value) ≡ true) × (not (is_point (op_of span.start span.end r k.suffix k.value)) ≡ true)
    go kind.Set = (w, refl)
    go kind.Unset = (w, refl)
    go kind.Del = (w, refl)

-- what is done over a key up to a number
done_from : (x : List ℕ) (n : ℕ) (es : List Entry) (f : Entry) → Among f (effects_over x (upto n es)) → (e : Entry) × Among e es × (is_over x e.op ≡ true) × (nat_le e.seq n ≡ true) × (not (is_point e.op) ≡ true) × (f ≡ effect e)
done_from x n es f m =
    let mapped = map_among effect (filter (λ e. not (is_point e.op)) (over x (upto n es))) f m in
    let ranges = filter_among (λ e. not (is_point e.op)) (over x (upto n es)) mapped.0 mapped.1.0 in
    let here = filter_among (λ e. is_over x e.op) (upto n es) mapped.0 ranges.0 in
    let old = filter_among (λ e. nat_le e.seq n) es mapped.0 here.0 in
    (mapped.0, old.0, here.1, old.1, ranges.1, mapped.1.1)

done_to : (x : List ℕ) (n : ℕ) (es : List Entry) (e : Entry) → Among e es → is_over x e.op ≡ true → nat_le e.seq n ≡ true → not (is_point e.op) ≡ true → Among (effect e) (effects_over x (upto n es))
done_to x n es e m o l r =
    among_map effect (filter (λ e. not (is_point e.op)) (over x (upto n es))) e
    (among_filter (λ e. not (is_point e.op)) (over x (upto n es)) e (among_filter (λ e. is_over x e.op) (upto n es) e (among_filter (λ e. nat_le e.seq n) es e m l) o) r)

pub over_upto : (x : List ℕ) (n : ℕ) (es : List Entry) → over x (upto n es) ≡ upto n (over x es)
over_upto x n es =
    filter-filter (λ e. is_over x e.op) (λ e. nat_le e.seq n) es
    ∙ (λ i. filter (λ e. and_swaps (nat_le e.seq n) (is_over x e.op) i) es)
    ∙ sym (filter-filter (λ e. nat_le e.seq n) (λ e. is_over x e.op) es)

pub entries_differ : (span : Span) (ks : List RangeKey) → KeysDiffer ks → NumbersDiffer (map (entry_of span) ks)
entries_differ span [] d = tt
entries_differ span (k ∷ ks) d = (all_among (λ f. f.seq ≢ k.seq) (map (entry_of span) ks) other, entries_differ span ks d.1)
  where
    other : (f : Entry) → Among f (map (entry_of span) ks) → f.seq ≢ k.seq
    other f m e = let found = map_among (entry_of span) ks f m in among_all (λ q. q.seq ≢ k.seq) ks found.0 d.0 found.1.0 (sym (ap (λ (g : Entry). g.seq) found.1.1) ∙ e)

-- where the merge is told, its span has the cover
pub merged_cover : (ess : List (List Entry)) (span : Span) (x : List ℕ) (n : ℕ) →
    IsTrue (are_distinct (span_ends (all_fragments ess))) → IsTrue (are_spans (cut_spans (all_fragments ess))) →
    Among span (cut_spans (all_fragments ess)) → within span.start span.end x ≡ true → NumbersDiffer (over x (all_of ess)) →
    cover_of (upto n (span_entries span)) ≡ cover (upto n (all_of ess)) x
merged_cover ess span x n distinct sorted among w differ =
    sym (cover_at_each_key span n x w)
    ∙ cover_of_effects (upto n (span_entries span)) (upto n (all_of ess)) x own_differ all_differ (λ f. (λ c. contains_among _ f (to f (among_contained _ f c)), λ c. contains_among _ f (from f (among_contained _ f c))))
  where
    keys_are : span.keys ≡ newest_first (keys_over (all_fragments ess) x)
    keys_are = sym (one_over x (cut_spans (all_fragments ess)) (chain_of (cut_spans (all_fragments ess)) (are-extents (cut_spans (all_fragments ess)) sorted)) span among w) ∙ cut.each_key (all_fragments ess) x distinct

    falling : are_newest_first span.keys ≡ true
    falling = (and_parts _ (are_newest_first span.keys) (every_gives is_span (cut_spans (all_fragments ess)) span (and_parts (list_all is_span (cut_spans (all_fragments ess))) _ sorted).0 among)).1

    own_differ : NumbersDiffer (over x (upto n (span_entries span)))
    own_differ = some_differ (λ e. is_over x e.op) (upto n (span_entries span)) (some_differ (λ e. nat_le e.seq n) (span_entries span) (entries_differ span span.keys (falling_differ span.keys falling)))

    all_differ : NumbersDiffer (over x (upto n (all_of ess)))
    all_differ = rw (over_upto x n (all_of ess)) (some_differ (λ e. nat_le e.seq n) (over x (all_of ess)) differ)

    to : (f : Entry) → Among f (effects_over x (upto n (span_entries span))) → Among f (effects_over x (upto n (all_of ess)))
    to f m =
        let done = done_from x n (span_entries span) f m in
        let mapped = map_among (entry_of span) span.keys done.0 done.1 in
        let k = mapped.0 in
        let g = pool_from x ess k (newest_among (keys_over (all_fragments ess) x) k (rw (sym keys_are) mapped.1.0)) in
        let same = effect_is span.start span.end g.entry.seq g.entry.op k g.key in
        let number : g.entry.seq ≡ done.0.seq = number_is g.entry.seq g.entry.op k g.key ∙ sym (ap (λ (e : Entry). e.seq) mapped.1.1) in
        let is : f ≡ effect g.entry = done.5 ∙ ap effect mapped.1.1 ∙ sym same.0 in
        rw is (done_to x n (all_of ess) g.entry g.among g.over (rw number done.3) same.1)

    from : (f : Entry) → Among f (effects_over x (upto n (all_of ess))) → Among f (effects_over x (upto n (span_entries span)))
    from f m =
        let done = done_from x n (all_of ess) f m in
        let e = done.0 in
        let found = has_key e.seq e.op done.4 in
        let k = found.0 in
        let mine : Among k span.keys = rw keys_are (among_newest (keys_over (all_fragments ess) x) k (pool_to x ess k (record { entry = e; among = done.1; over = done.2; key = found.1 }))) in
        let same = effect_is span.start span.end e.seq e.op k found.1 in
        let old : nat_le k.seq n ≡ true = rw (sym (number_is e.seq e.op k found.1)) done.3 in
        let over_it = over_span span x k w in
        let is : f ≡ effect (entry_of span k) = done.5 ∙ same.0 in
        rw is (done_to x n (span_entries span) (entry_of span k) (among_map (entry_of span) span.keys k mine) over_it.0 old over_it.1)
