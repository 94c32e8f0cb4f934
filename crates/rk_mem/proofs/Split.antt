-- A chunk's points and its range entries.
use Rattle.std.proofs.Common.{◌≡◌, ◌≢◌, ℕ, ◌<◌, Bool, true, false, cond, List, [], ◌∷◌, ◌++◌, Some, None, filter, drop, refl, sym, ap, subst, ◌∙◌, inl, inr, arith}
use Rattle.std.specs.Prelude.{not, IsTrue}
use Rattle.std.specs.List.{AllByRecursion, list_all, filter_map, flat_map, cons_option, zip}
use Rattle.std.specs.List.Sorted.{IsPermutation}
use Rattle.std.specs.Ordering.{is_lt}
use Rattle.std.proofs.lemmas.Bool.{and_parts, not-true}
use Rattle.std.proofs.lemmas.List.{append-nil}
use Rattle.std.proofs.lemmas.List.Elements.{filter-append}
use Rattle.std.proofs.lemmas.List.Sorted.{IsPermutation-refl, IsPermutation-trans, IsPermutation-append, IsPermutation-filter_both, All-permutation}
use Rattle.std.proofs.lemmas.List.Folds.{list_all-append}
use Rattle.std.proofs.lemmas.List.Sums.{AllPass-from_list_all, list_all-from_AllPass}
use Rattle.rk_model.proofs.Members.{among_all, all_among, among_append, filter_among}
use Rattle.rk_model.proofs.Numbers.{some_differ}
use Rattle.rk_model.specs.Operations.{is_over, NumbersDiffer}
use Rattle.rk_model.specs.Covers.{is_point, over}
use Rattle.rk_model.specs.Spans.{op_ends, sorted_keys}
use Rattle.rk_key.specs.KeyTests.{is_key}
use Rattle.rk_model.specs.Items.{has_keys, are_keyed, keyed_points, keyed_spans, sound}
use Rattle.rk_model.specs.Sources.{ascends, entry_cmp, op_key, are_points, are_spans}
use Rattle.rk_model.specs.declared.op.Op.{Op}
use Rattle.rk_model.specs.declared.op.Op.TheVariants.{Put, Del, RangeSet, RangeUnset, RangeDel}
use Rattle.rk_model.specs.declared.op.Entry.{Entry}
use Rattle.rk_model.specs.declared.span.RangeKey.{RangeKey}
use Rattle.rk_fragment.specs.Fragments.{range_key, newest_first, span_with, fragments}
use Rattle.rk_model.proofs.Lists.{all_weaker, all_pass, filter_all, filter_none}
use Rattle.rk_fragment.proofs.Sound.{sound as sound_spans}
use Rattle.rk_fragment.proofs.Keyed.{fragments_keyed}
use Rattle.rk_mem.specs.Chunks.{points_of, ranges_of, NumbersRise, AreNewer, IsChunkOf}
use Rattle.rk_mem.specs.SortedOut.{AreSortedOut}
use Rattle.rk_mem.proofs.Numbers.{rising_differ}

pub all_true : {X : Type 0} (t : X → Bool) (xs : List X) → list_all t xs ≡ true → AllByRecursion (λ x. t x ≡ true) xs
all_true t [] h = tt
all_true t (x ∷ xs) h = let parts = and_parts (t x) (list_all t xs) h in (parts.0, all_true t xs parts.1)

pub filter_again : {X : Type 0} (t : X → Bool) (xs : List X) → filter t (filter t xs) ≡ filter t xs
filter_again t xs = filter_all t (filter t xs) (all_pass t xs)

-- points, and range entries behind them
module _ (points ranges : List Entry) (in_order : IsTrue (are_points points)) (no_points : AllByRecursion (λ e. is_point e.op ≡ false) ranges) where
  are_all_points : AllByRecursion (λ e. is_point e.op ≡ true) points
  are_all_points = all_true (λ e. is_point e.op) points (and_parts (list_all (λ e. is_point e.op) points) (ascends (λ e f. is_lt (entry_cmp e f)) points) in_order).0

  pub points_are : points_of (points ++ ranges) ≡ points
  points_are =
      filter-append (λ e. is_point e.op) points ranges
      ∙ (λ i. filter_all (λ e. is_point e.op) points are_all_points i ++ filter_none (λ e. is_point e.op) ranges no_points i)
      ∙ append-nil points

  pub ranges_are : ranges_of (points ++ ranges) ≡ ranges
  ranges_are =
      filter-append (λ e. not (is_point e.op)) points ranges
      ∙ (λ i. filter_none (λ e. not (is_point e.op)) points (all_weaker (λ e. is_point e.op ≡ true) (λ e. not (is_point e.op) ≡ false) (λ e h. ap not h) points are_all_points) i
      ++ filter_all (λ e. not (is_point e.op)) ranges (all_weaker (λ e. is_point e.op ≡ false) (λ e. not (is_point e.op) ≡ true) (λ e h. ap not h) ranges no_points) i)

-- what a chunk keeps beside its points
pub ranges_inside : (points ranges chunk : List Entry) → AreSortedOut points ranges → points ++ ranges ≡ chunk → ranges_of chunk ≡ ranges
ranges_inside points ranges chunk out is = ap ranges_of (sym is) ∙ ranges_are points ranges out.in_order out.no_points

no_points_in : (es : List Entry) → AllByRecursion (λ e. is_point e.op ≡ false) (ranges_of es)
no_points_in es = all_weaker (λ e. not (is_point e.op) ≡ true) (λ e. is_point e.op ≡ false) (λ e h. not-true (is_point e.op) h) (ranges_of es) (all_pass (λ e. not (is_point e.op)) es)

-- where two lists have keys, so have both together, in any order
pub keyed_append : (xs ys : List Entry) → IsTrue (are_keyed xs) → IsTrue (are_keyed ys) → IsTrue (are_keyed (xs ++ ys))
keyed_append xs ys one two = rw (list_all-append (λ e. has_keys e.op) xs ys, one, two) refl

pub keyed_permuted : (xs ys : List Entry) → IsPermutation xs ys → IsTrue (are_keyed xs) → IsTrue (are_keyed ys)
keyed_permuted xs ys same keyed = list_all-from_AllPass (λ e. has_keys e.op) ys (All-permutation (λ e. has_keys e.op ≡ true) xs ys same (AllPass-from_list_all (λ e. has_keys e.op) xs keyed))

pub chunk_is : (es points : List Entry) → IsPermutation (points_of es) points → IsTrue (are_points points) → IsChunkOf es (points ++ ranges_of es)
chunk_is es points same order =
    let p : points_of (points ++ ranges_of es) ≡ points = points_are points (ranges_of es) order (no_points_in es) in
    let r : ranges_of (points ++ ranges_of es) ≡ ranges_of es = ranges_are points (ranges_of es) order (no_points_in es) in
    record {
      same = IsPermutation-trans es (points_of es ++ ranges_of es) (points ++ ranges_of es) (IsPermutation-filter_both (λ e. is_point e.op) (λ e. not (is_point e.op)) (λ e. refl) es) (IsPermutation-append (points_of es) points (ranges_of es) (ranges_of es) same (IsPermutation-refl (ranges_of es)));
      arranged = record { parts = sym (λ i. p i ++ r i); in_order = rw p order };
      ranges = r;
    }

pub sorted_out : (es points : List Entry) → NumbersRise es → IsPermutation (points_of es) points → IsTrue (are_points points) → IsTrue (are_keyed es) → AreSortedOut points (ranges_of es)
sorted_out es points rise same order keyed = record {
  in_order = order;
  no_points = no_points_in es;
  differ = some_differ (λ e. not (is_point e.op)) es (rising_differ es rise);
  keyed = keyed_permuted es (points ++ ranges_of es) (chunk_is es points same order).same keyed;
}

-- two chunks, of which the second is newer
filter_newer : (t u : Entry → Bool) (old new : List Entry) → AreNewer old new → AreNewer (filter t old) (filter u new)
filter_newer t u old new newer e f at_e at_f = newer e f (filter_among t old e at_e).0 (filter_among u new f at_f).0

pub points_newer : (old new : List Entry) → AreNewer old new → AreNewer (points_of old) (points_of new)
points_newer old new newer = filter_newer (λ e. is_point e.op) (λ e. is_point e.op) old new newer

differ_append : (old new : List Entry) → NumbersDiffer old → NumbersDiffer new → AreNewer old new → NumbersDiffer (old ++ new)
differ_append [] new d d' newer = d'
differ_append (e ∷ old) new d d' newer =
    (all_among (λ f. f.seq ≢ e.seq) (old ++ new) (λ f at. elim (among_append old new f at) [ inl m ↦ among_all (λ g. g.seq ≢ e.seq) old f d.0 m | inr m ↦ (let less : e.seq < f.seq = newer e f (inl refl) m in λ same. absurd (omega arith)) ]), differ_append old new d.1 d' (λ g f at_g at_f. newer g f (inr at_g) at_f))

pub merged_is : (old new points : List Entry) → IsPermutation (points_of old ++ points_of new) points → IsTrue (are_points points) → IsChunkOf (old ++ new) (points ++ (ranges_of old ++ ranges_of new))
merged_is old new points same order =
    let here : IsPermutation (points_of (old ++ new)) points = rw (filter-append (λ e. is_point e.op) old new) same in
    let chunk : IsChunkOf (old ++ new) (points ++ ranges_of (old ++ new)) = chunk_is (old ++ new) points here order in
    let joined : ranges_of (old ++ new) ≡ ranges_of old ++ ranges_of new = filter-append (λ e. not (is_point e.op)) old new in
    subst (λ rs. IsChunkOf (old ++ new) (points ++ rs)) joined chunk

module _ (old new : List Entry) (newer : AreNewer old new) where
  pub merged_sorted_out : (points : List Entry) → IsTrue (are_points points) → NumbersDiffer (ranges_of old) → NumbersDiffer (ranges_of new) → IsChunkOf (old ++ new) (points ++ (ranges_of old ++ ranges_of new)) → IsTrue (are_keyed old) → IsTrue (are_keyed new) → AreSortedOut points (ranges_of old ++ ranges_of new)
  merged_sorted_out points order d d' chunk keyed keyed' = record {
    in_order = order;
    no_points = rw (← filter-append (λ e. not (is_point e.op)) old new) (no_points_in (old ++ new));
    differ = differ_append (ranges_of old) (ranges_of new) d d' (filter_newer (λ e. not (is_point e.op)) (λ e. not (is_point e.op)) old new newer);
    keyed = keyed_permuted (old ++ new) (points ++ (ranges_of old ++ ranges_of new)) chunk.same (keyed_append old new keyed keyed');
  }

-- Points make no spans.
point_has_no_ends : (op : Op) → is_point op ≡ true → op_ends op ≡ []
point_has_no_ends (Put key value) h = refl
point_has_no_ends (Del key) h = refl
point_has_no_ends (RangeSet start end suffix value) h = cc
point_has_no_ends (RangeUnset start end suffix) h = cc
point_has_no_ends (RangeDel start end) h = cc

point_has_no_key : (n : ℕ) (op : Op) → is_point op ≡ true → range_key n op ≡ None
point_has_no_key n (Put key value) h = refl
point_has_no_key n (Del key) h = refl
point_has_no_key n (RangeSet start end suffix value) h = cc
point_has_no_key n (RangeUnset start end suffix) h = cc
point_has_no_key n (RangeDel start end) h = cc

ends_of_ranges : (es : List Entry) → flat_map (λ e. op_ends e.op) (ranges_of es) ≡ flat_map (λ e. op_ends e.op) es
ends_of_ranges [] = refl
ends_of_ranges (e ∷ es) = go (is_point e.op) refl (ends_of_ranges es)
  where
    rest : List (List ℕ)
    rest = flat_map (λ e. op_ends e.op) es

    go : (b : Bool) → is_point e.op ≡ b → flat_map (λ e. op_ends e.op) (ranges_of es) ≡ flat_map (λ e. op_ends e.op) es
        → flat_map (λ e. op_ends e.op) (cond (not b) (e ∷ ranges_of es) (ranges_of es)) ≡ op_ends e.op ++ flat_map (λ e. op_ends e.op) es
    go true h ih = ih ∙ rw (point_has_no_ends e.op h) refl
    go false h ih = ap (λ l. op_ends e.op ++ l) ih

abbrev keys_of : List Entry → List RangeKey
keys_of es = filter_map (λ e. range_key e.seq e.op) es

keys_of_ranges : (es : List Entry) (x : List ℕ) → keys_of (over x (ranges_of es)) ≡ keys_of (over x es)
keys_of_ranges [] x = refl
keys_of_ranges (e ∷ es) x = go (is_point e.op) refl (is_over x e.op) refl (keys_of_ranges es x)
  where
    go : (b : Bool) → is_point e.op ≡ b → (o : Bool) → is_over x e.op ≡ o → keys_of (over x (ranges_of es)) ≡ keys_of (over x es)
        → keys_of (over x (cond (not b) (e ∷ ranges_of es) (ranges_of es))) ≡ keys_of (cond o (e ∷ over x es) (over x es))
    go true h true k ih = ih ∙ rw (point_has_no_key e.seq e.op h) refl
    go true h false k ih = ih
    go false h true k ih = rw k (ap (cons_option (range_key e.seq e.op)) ih)
    go false h false k ih = rw k ih

pub fragments_of_ranges : (es : List Entry) → fragments (ranges_of es) ≡ fragments es
fragments_of_ranges es =
    (λ i. let ends = sorted_keys (ends_of_ranges es i) in filter_map (λ ab. span_with ab.0 ab.1 (newest_first (keys_of_ranges es ab.0 i))) (zip ends (drop 1 ends)))

pub spans_keyed : (es : List Entry) → NumbersDiffer (ranges_of es) → IsTrue (are_keyed es) → IsTrue (keyed_spans (fragments es))
spans_keyed es differ keyed =
    let sound_ranges : are_spans (fragments (ranges_of es)) ≡ true = sound_spans (ranges_of es) differ in
    let sound_all : are_spans (fragments es) ≡ true = ap are_spans (sym (fragments_of_ranges es)) ∙ sound_ranges in
    rw (sound_all, fragments_keyed es keyed) refl

-- the points of keyed entries
op_keyed : (es : List Entry) → are_keyed es ≡ true → list_all (λ e. is_key (op_key e.op)) (points_of es) ≡ true
op_keyed [] h = refl
op_keyed (e ∷ es) h = let parts = and_parts (has_keys e.op) (are_keyed es) h in go (is_point e.op) (and_parts (is_key (op_key e.op)) (list_all is_key (op_ends e.op)) parts.0).0 (op_keyed es parts.1)
  where
    go : (b : Bool) → is_key (op_key e.op) ≡ true → list_all (λ e. is_key (op_key e.op)) (points_of es) ≡ true → list_all (λ e. is_key (op_key e.op)) (cond b (e ∷ points_of es) (points_of es)) ≡ true
    go true k ih = rw (k, ih) refl
    go false k ih = ih

pub sound_points : (es : List Entry) → IsTrue (are_points (points_of es)) → IsTrue (are_keyed es) → sound keyed_points (points_of es) ≡ Some (points_of es)
sound_points es in_order keyed = rw (in_order, op_keyed es keyed) refl
