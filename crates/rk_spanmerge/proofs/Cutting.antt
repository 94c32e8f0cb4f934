-- Spans that are cut at each other's ends: between which ends they lie, and the laws of them.
use Rattle.std.proofs.Common.{◌≡◌, ◌≢◌, ℕ, ◌<◌, Bool, true, false, not, ◌&&◌, cond, List, [], ◌∷◌, ◌++◌, Option, Some, None, refl, ap, sym, ◌∙◌, ◌⊎◌, inl, inr, subst, arith, Ordering}
use Rattle.std.specs.Prelude.{◌||◌, nat_lt}
use Rattle.std.specs.declared.cmp.Ordering.TheVariants.{Equal}
use Rattle.std.specs.List.{AllByRecursion, list_all, cons_option}
use Rattle.std.specs.Ordering.{is_eq}
use Rattle.std.proofs.lemmas.Bool.{and_right, cases_Bool}
use Rattle.std.proofs.lemmas.List.{append-nil}
use Rattle.std.proofs.lemmas.Slice.Eq.{bytes_eq-Decides}
use Rattle.std.proofs.lemmas.Map.Text.{is_eq-slice_cmp}
use Rattle.rk_key.specs.Keys.{key_cmp, IsKey}
use Rattle.rk_key.specs.Laws.{key_cmp-total}
use Rattle.rk_key.proofs.Equality.{same_key_from_eq}
use Rattle.rk_key.proofs.TotalOrders.{lt_itself, lt_back, lt_trans}
use Rattle.rk_model.specs.Operations.{within}
use Rattle.rk_model.specs.ItemLaws.{are-extents}
use Rattle.rk_model.specs.Sources.{is_span, are_spans, are_newest_first}
use Rattle.rk_model.specs.Spans.{sorted_keys, same_bytes, KeysRise}
use Rattle.rk_model.specs.declared.span.RangeKey.{RangeKey}
use Rattle.rk_model.specs.declared.span.Span.{Span}
use Rattle.rk_model.proofs.Lists.{all_weaker}
use Rattle.rk_model.proofs.Members.{among_all, every_gives, every_from}
use Rattle.rk_model.proofs.SortedKeys.{sorted_among, among_sorted}
use Rattle.rk_fragment.specs.Fragments.{insert_newest, newest_first, span_with, spans_between, keys_over, KeysDiffer}
use Rattle.rk_fragment.proofs.Falling.{lt_is, newest_falls}
use Rattle.rk_fragment.proofs.Rising.{sorted_rises}
use Rattle.rk_fragment.proofs.Sound.{sound_between, falling_ascends}
use Rattle.rk_merge.specs.Unions.{Among}
use Rattle.rk_merge.specs.Cuts.{near_cut}
use Rattle.rk_merge.proofs.Lists.{and_parts, ascends_tail}
use Rattle.rk_spanmerge.specs.Merges.{left_end, span_ends, keys_at, cut_spans, are_distinct, ReadKeysAreDistinct, EachKeyHasItsRangeKeys, CutSpansAreSpans, SortedCutsDiffer}
use Rattle.rk_spanmerge.specs.Moves.{lt, takes, keys_met}
use Rattle.rk_spanmerge.proofs.Chains.{true_false, chain_of, seen, Seen, keys_over_cons, none_over, met_is}

-- keys that were read are distinct, and of distinct keys those that no order tells apart are one
apart : (x y : List ℕ) → IsKey x → IsKey y → not (is_eq (key_cmp x y)) || same_bytes x y ≡ true
apart x y p q = go (is_eq (key_cmp x y)) refl
  where
    go : (b : Bool) → is_eq (key_cmp x y) ≡ b → not b || same_bytes x y ≡ true
    go true e = is_eq-slice_cmp x y ∙ (bytes_eq-Decides x y).1 (same_key_from_eq x y p q e)
    go false e = refl

pub distinct_keys : ReadKeysAreDistinct
distinct_keys xs h = every_from _ xs (λ x m. every_from _ xs (λ y n. apart x y (among_all IsKey xs x h m) (among_all IsKey xs y h n)))

pub distinct_is : (xs : List (List ℕ)) → are_distinct xs ≡ true → (a b : List ℕ) → Among a xs → Among b xs → key_cmp a b ≡ Equal → a ≡ b
distinct_is xs all a b m n e =
    let one = every_gives (λ x. list_all (λ y. not (is_eq (key_cmp x y)) || same_bytes x y) xs) xs a all m in
    let two = every_gives (λ y. not (is_eq (key_cmp a y)) || same_bytes a y) xs b one n in
    let same = subst (λ (o : Ordering). not (is_eq o) || same_bytes a b ≡ true) e two in
    (bytes_eq-Decides a b).0 (sym (is_eq-slice_cmp a b) ∙ same)

pub sorted_has : (xs : List (List ℕ)) → are_distinct xs ≡ true → (k : List ℕ) → Among k xs → Among k (sorted_keys xs)
sorted_has xs all k m =
    let t = among_sorted xs k m in
    let e : k ≡ t.0 = distinct_is xs all k t.0 m (sorted_among xs t.0 t.1.0) t.1.1 in
    rw e t.1.0

-- the ends of spans, and the span that has one
pub end_in : (forward : Bool) (ss : List Span) (t : Span) → Among t ss → Among (left_end forward t) (span_ends ss)
end_in forward [] t m = absurd m
end_in true (s ∷ ss) t (inl e) = inr (inl (ap (λ z. z.end) e))
end_in false (s ∷ ss) t (inl e) = inl (ap (λ z. z.start) e)
end_in forward (s ∷ ss) t (inr m) = inr (inr (end_in forward ss t m))

pub ends_from : (forward : Bool) (ss : List Span) (k : List ℕ) → Among k (span_ends ss) → (t : Span) × Among t ss × ((k ≡ left_end (not forward) t) ⊎ (k ≡ left_end forward t))
ends_from forward [] k m = absurd m
ends_from true (s ∷ ss) k (inl e) = (s, inl refl, inl e)
ends_from false (s ∷ ss) k (inl e) = (s, inl refl, inr e)
ends_from true (s ∷ ss) k (inr (inl e)) = (s, inl refl, inr e)
ends_from false (s ∷ ss) k (inr (inl e)) = (s, inl refl, inl e)
ends_from forward (s ∷ ss) k (inr (inr m)) = let ih = ends_from forward ss k m in (ih.0, inr ih.1, ih.2)

-- a span between two neighbours of some ends
pub record IsCut (keys : List ℕ → List RangeKey) (es : List (List ℕ)) (c : Span) : Type 0 where
  pub start : Among c.start es
  pub end : Among c.end es
  pub holds : c.keys ≡ keys c.start
  pub inner : (k : List ℕ) → Among k es → lt c.start k ≡ true → lt k c.end ≡ true → ⊥

pub is_cut : (keys : List ℕ → List RangeKey) (es : List (List ℕ)) → KeysRise es → (c : Span) → Among c (spans_between keys es) → IsCut keys es c
is_cut keys [] h c m = absurd m
is_cut keys (a ∷ []) h c m = absurd m
is_cut keys (a ∷ b ∷ bs) h c m = go (keys a) refl m (is_cut keys (b ∷ bs) h.1 c)
  where
    first : (k : List ℕ) → Among k (a ∷ b ∷ bs) → lt a k ≡ true → lt k b ≡ true → ⊥
    first k (inl e) p q = true_false _ p (ap (lt a) e ∙ lt_itself key_cmp-total a)
    first k (inr (inl e)) p q = true_false _ q (ap (λ z. lt z b) e ∙ lt_itself key_cmp-total b)
    first k (inr (inr n)) p q = true_false _ q (lt_back key_cmp-total b k (among_all (λ y. lt b y ≡ true) bs k h.1.0 n))

    later : IsCut keys (b ∷ bs) c → IsCut keys (a ∷ b ∷ bs) c
    later r =
        let behind = lt_back key_cmp-total a c.start (among_all (λ y. lt a y ≡ true) (b ∷ bs) c.start h.0 r.start) in
        record { start = inr r.start; end = inr r.end; holds = r.holds; inner = λ k m p q. elim m [ inl e ↦ true_false _ p (ap (lt c.start) e ∙ behind) | inr n ↦ r.inner k n p q ] }

    go : (ks : List RangeKey) → keys a ≡ ks → Among c (cons_option (span_with a b ks) (spans_between keys (b ∷ bs))) → (Among c (spans_between keys (b ∷ bs)) → IsCut keys (b ∷ bs) c) → IsCut keys (a ∷ b ∷ bs) c
    go [] q n ih = later (ih n)
    go (k ∷ ks) q (inl e) ih = rw e (record { start = inl refl; end = inr (inl refl); holds = sym q; inner = first })
    go (k ∷ ks) q (inr n) ih = later (ih n)

-- each key has the range keys of the spans that it lies in
over_one : (a b : List ℕ) (keys : List RangeKey) (spans : List Span) (x : List ℕ) → keys_over (cons_option (span_with a b keys) spans) x ≡ cond (within a b x) keys [] ++ keys_over spans x
over_one a b [] spans x = elim (within a b x) as (λ w. keys_over spans x ≡ cond w [] [] ++ keys_over spans x) [ true ↦ refl | false ↦ refl ]
over_one a b (k ∷ ks) spans x = keys_over_cons (record { start = a; end = b; keys = k ∷ ks }) spans x

same_within : (ss : List Span) (x y : List ℕ) → ((k : List ℕ) → Among k (span_ends ss) → lt x k ≡ lt y k) → keys_over ss x ≡ keys_over ss y
same_within [] x y h = refl
same_within (s ∷ ss) x y h = keys_over_cons s ss x ∙ rw (h s.start (inl refl), h s.end (inr (inl refl)), same_within ss x y (λ k m. h k (inr (inr m)))) (sym (keys_over_cons s ss y))

module _ (keys : List ℕ → List RangeKey) (x : List ℕ) where
  below_all : (es : List (List ℕ)) → ((k : List ℕ) → Among k es → lt x k ≡ true) → keys_over (spans_between keys es) x ≡ []
  below_all [] l = refl
  below_all (a ∷ []) l = refl
  below_all (a ∷ b ∷ bs) l = over_one a b (keys a) (spans_between keys (b ∷ bs)) x ∙ rw (l a (inl refl)) (below_all (b ∷ bs) (λ k m. l k (inr m)))

  along : (es : List (List ℕ)) → KeysRise es → (((k : List ℕ) → Among k es → lt x k ≡ true) → [] ≡ keys x) → (((k : List ℕ) → Among k es → lt x k ≡ false) → [] ≡ keys x) → ((a : List ℕ) → Among a es → ((k : List ℕ) → Among k es → lt a k ≡ lt x k) → keys a ≡ keys x) → keys_over (spans_between keys es) x ≡ keys x
  along [] h bottom top mid = top (λ k m. absurd m)
  along (a ∷ []) h bottom top mid = elim (cases_Bool (lt x a)) [ inl p ↦ bottom (λ k m. elim m [ inl e ↦ ap (lt x) e ∙ p | inr n ↦ absurd n ]) | inr p ↦ top (λ k m. elim m [ inl e ↦ ap (lt x) e ∙ p | inr n ↦ absurd n ]) ]
  along (a ∷ b ∷ bs) h bottom top mid = over_one a b (keys a) (spans_between keys (b ∷ bs)) x ∙ go (lt x a) (lt x b) refl refl (along (b ∷ bs) h.1)
    where
      upper : (c : List ℕ) (cs : List (List ℕ)) → AllByRecursion (λ y. lt c y ≡ true) cs → lt x c ≡ true → (k : List ℕ) → Among k (c ∷ cs) → lt x k ≡ true
      upper c cs all p k (inl e) = ap (lt x) e ∙ p
      upper c cs all p k (inr n) = lt_trans key_cmp-total x c k p (among_all (λ y. lt c y ≡ true) cs k all n)

      behind : (k : List ℕ) → Among k (b ∷ bs) → lt a k ≡ true
      behind k n = among_all (λ y. lt a y ≡ true) (b ∷ bs) k h.0 n

      go : (s t : Bool) → lt x a ≡ s → lt x b ≡ t
          → ((((k : List ℕ) → Among k (b ∷ bs) → lt x k ≡ true) → [] ≡ keys x) → (((k : List ℕ) → Among k (b ∷ bs) → lt x k ≡ false) → [] ≡ keys x) → ((c : List ℕ) → Among c (b ∷ bs) → ((k : List ℕ) → Among k (b ∷ bs) → lt c k ≡ lt x k) → keys c ≡ keys x) → keys_over (spans_between keys (b ∷ bs)) x ≡ keys x)
          → cond (not s && t) (keys a) [] ++ keys_over (spans_between keys (b ∷ bs)) x ≡ keys x
      go true t p q ih = below_all (b ∷ bs) (λ k n. lt_trans key_cmp-total x a k p (behind k n)) ∙ bottom (upper a (b ∷ bs) h.0 p)
      go false true p q ih =
          ap (λ r. keys a ++ r) (below_all (b ∷ bs) (upper b bs h.1.0 q)) ∙ append-nil (keys a)
          ∙ mid a (inl refl) (λ k m. elim m [ inl e ↦ ap (lt a) e ∙ lt_itself key_cmp-total a ∙ sym (ap (lt x) e ∙ p) | inr n ↦ behind k n ∙ sym (upper b bs h.1.0 q k n) ])
      go false false p q ih =
          ih (λ l. absurd (true_false _ (l b (inl refl)) q)) (λ l. top (λ k m. elim m [ inl e ↦ ap (lt x) e ∙ p | inr n ↦ l k n ]))
          (λ c i same. mid c (inr i) (λ k m. elim m [ inl e ↦ ap (lt c) e ∙ lt_back key_cmp-total a c (behind c i) ∙ sym (ap (lt x) e ∙ p) | inr n ↦ same k n ]))

pub each_key : EachKeyHasItsRangeKeys
each_key ss x distinct =
    along (keys_at ss) x (sorted_keys (span_ends ss)) (sorted_rises (span_ends ss))
    (λ l. none (λ t m. ap (λ b. not b && lt x t.end) (l t.start (has t.start (end_in false ss t m)))))
    (λ l. none (λ t m. and_right _ _ (l t.end (has t.end (end_in true ss t m)))))
    (λ a m same. ap newest_first (same_within ss a x (λ k n. same k (has k n))))
  where
    has : (k : List ℕ) → Among k (span_ends ss) → Among k (sorted_keys (span_ends ss))
    has k m = sorted_has (span_ends ss) distinct k m

    none : ((t : Span) → Among t ss → within t.start t.end x ≡ false) → [] ≡ keys_at ss x
    none h = ap newest_first (sym (none_over x ss h))

pub cut_spans-sound : CutSpansAreSpans
cut_spans-sound ss differ =
    sound_between (keys_at ss) (λ x. falling_ascends (keys_at ss x) (newest_falls (keys_over ss x) (differ x))) (sorted_keys (span_ends ss)) (sorted_rises (span_ends ss))

-- falling numbers differ
falls_after : (k : RangeKey) (qs : List RangeKey) → are_newest_first (k ∷ qs) ≡ true → AllByRecursion (λ q. q.seq < k.seq) qs
falls_after k [] up = tt
falls_after k (q ∷ qs) up =
    let parts = and_parts (nat_lt q.seq k.seq) (are_newest_first (q ∷ qs)) up in
    let less = lt_is q.seq k.seq parts.0 in
    (less, all_weaker (λ r. r.seq < q.seq) (λ r. r.seq < k.seq) (λ r m. omega arith) qs (falls_after q qs parts.1))

pub falling_differ : (ks : List RangeKey) → are_newest_first ks ≡ true → KeysDiffer ks
falling_differ [] up = tt
falling_differ (k ∷ ks) up =
    (all_weaker (λ q. q.seq < k.seq) (λ q. q.seq ≢ k.seq) (λ q m e. omega arith) ks (falls_after k ks up), falling_differ ks (ascends_tail (λ j q. nat_lt q.seq j.seq) k ks up))

-- and in any order
from_inserted : (P : RangeKey → Type 0) (k : RangeKey) (qs : List RangeKey) → AllByRecursion P (insert_newest k qs) → P k × AllByRecursion P qs
from_inserted P k [] h = (h.0, tt)
from_inserted P k (q ∷ qs) h = go (nat_lt k.seq q.seq) h (from_inserted P k qs)
  where
    go : (b : Bool) → AllByRecursion P (cond b (q ∷ insert_newest k qs) (k ∷ q ∷ qs)) → (AllByRecursion P (insert_newest k qs) → P k × AllByRecursion P qs) → P k × AllByRecursion P (q ∷ qs)
    go true h ih = let r = ih h.1 in (r.0, (h.0, r.1))
    go false h ih = (h.0, h.1)

from_newest : (P : RangeKey → Type 0) (ks : List RangeKey) → AllByRecursion P (newest_first ks) → AllByRecursion P ks
from_newest P [] h = tt
from_newest P (k ∷ ks) h = let r = from_inserted P k (newest_first ks) h in (r.0, from_newest P ks r.1)

inserted_differ : (k : RangeKey) (qs : List RangeKey) → KeysDiffer (insert_newest k qs) → KeysDiffer (k ∷ qs)
inserted_differ k [] d = (tt, tt)
inserted_differ k (q ∷ qs) d = go (nat_lt k.seq q.seq) d (inserted_differ k qs)
  where
    go : (b : Bool) → KeysDiffer (cond b (q ∷ insert_newest k qs) (k ∷ q ∷ qs)) → (KeysDiffer (insert_newest k qs) → KeysDiffer (k ∷ qs)) → KeysDiffer (k ∷ q ∷ qs)
    go true d ih =
        let r = ih d.1 in
        let o = from_inserted (λ r. r.seq ≢ q.seq) k qs d.0 in
        (((λ e. o.0 (sym e)), r.0), (o.1, r.1))
    go false d ih = d

newest_differ : (ks : List RangeKey) → KeysDiffer (newest_first ks) → KeysDiffer ks
newest_differ [] d = tt
newest_differ (k ∷ ks) d = let r = inserted_differ k (newest_first ks) d in (from_newest (λ q. q.seq ≢ k.seq) ks r.0, newest_differ ks r.1)

-- the range keys over a key are those of one of the spans
met_falls : (x : List ℕ) (ss : List Span) → are_spans ss ≡ true → are_newest_first (keys_met true x (near_cut true (takes true x) ss)) ≡ true
met_falls x ss sorted = go (near_cut true (takes true x) ss) (seen true x ss (chain_of ss (are-extents ss sorted)))
  where
    pick : (b : Bool) (ks : List RangeKey) → are_newest_first ks ≡ true → are_newest_first (cond b [] ks) ≡ true
    pick true ks h = refl
    pick false ks h = h

    go : (p : Option Span) → Seen true (λ t. lt x t.end) ss p → are_newest_first (keys_met true x p) ≡ true
    go None w = refl
    go (Some s) w = pick (lt x s.start) s.keys (and_parts _ (are_newest_first s.keys) (every_gives is_span ss s (and_parts (list_all is_span ss) _ sorted).0 w.0)).1

pub sorted_cuts_differ : SortedCutsDiffer
sorted_cuts_differ ss x distinct sorted =
    let met = met_is true x x (cut_spans ss) (chain_of (cut_spans ss) (are-extents (cut_spans ss) sorted)) (λ t m. refl) in
    newest_differ (keys_over ss x) (falling_differ (newest_first (keys_over ss x)) (ap are_newest_first (sym (each_key ss x distinct) ∙ met) ∙ met_falls x (cut_spans ss) sorted))
