-- Entries in any order, and with newer ones behind them: their numbers differ, and they give the same cells.
use Rattle.std.proofs.Common.{◌≡◌, ◌≢◌, ℕ, ◌+◌, ◌<◌, ◌≤◌, Bool, true, false, cond, List, [], ◌∷◌, ◌++◌, filter, IsPermutation, refl, ap, sym, subst, ◌∙◌, inl, inr, nat_le, arith, append_assoc, append-nil}
use Rattle.std.specs.Prelude.{not}
use Rattle.std.specs.List.{All, sum_by}
use Rattle.std.proofs.lemmas.Bool.{le-leb}
use Rattle.std.proofs.lemmas.List.Elements.{All-push, All-weaker, All-filter, recursion_from_All, filter-append}
use Rattle.std.proofs.lemmas.List.Sums.{sum_by-cons}
use Rattle.std.proofs.lemmas.List.Sorted.{IsPermutation-sym, Contains-permutation, sum_by-IsPermutation}
use Rattle.rk_model.specs.Lists.{Among}
use Rattle.rk_model.specs.Operations.{is_over, numbered, NumbersDiffer}
use Rattle.rk_model.specs.Covers.{over, upto, is_point, point, cover}
use Rattle.rk_model.specs.Kept.{cells}
use Rattle.rk_model.specs.declared.op.Op.{Op}
use Rattle.rk_model.specs.declared.op.Entry.{Entry}
use Rattle.rk_model.proofs.Lists.{filter_all, all_weaker}
use Rattle.rk_model.proofs.Members.{all_among, among_all, among_filter, filter_among, among_map, map_among, among_append, among_contained, contains_among}
use Rattle.rk_model.proofs.Numbers.{some_differ}
use Rattle.rk_mem.proofs.Numbers.{has_number, count, counted, one_with, rising_differ}
use Rattle.rk_laws.specs.Prefixes.{spans_over, points_on}
use Rattle.rk_laws.specs.SameEntries.{without_ends, effects_over, SameElements}
use Rattle.rk_laws.specs.Newer.{NumberedBelow, with_entry, with_point}
use Rattle.rk_laws.proofs.After.{cover_after_entry, point_after_entry}
use Rattle.rk_laws.proofs.Alike.{cover_of_effects, point_of_elements}
use Rattle.rk_merge_laws.proofs.SpanKeys.{over_upto}
use Rattle.rk_memstore.proofs.Numberings.{numbered_rise}

-- Numbers that differ.

-- how many over a key have a number, in any order
abbrev tally : ℕ → List ℕ → Entry → ℕ
tally n x e = cond (is_over x e.op) (has_number n e) 0

tallied : (n : ℕ) (x : List ℕ) (es : List Entry) → sum_by (tally n x) es ≡ count n (over x es)
tallied n x [] = refl
tallied n x (e ∷ es) = sum_by-cons (tally n x) e es ∙ go (is_over x e.op) (tallied n x es)
  where
    go : (b : Bool) → sum_by (tally n x) es ≡ count n (over x es) → cond b (has_number n e) 0 + sum_by (tally n x) es ≡ count n (cond b (e ∷ over x es) (over x es))
    go true ih = ap (λ k. has_number n e + k) ih
    go false ih = omega (arith, ih)

among_counts : (n : ℕ) (es : List Entry) (f : Entry) → Among f es → f.seq ≡ n → 1 ≤ count n es
among_counts n [] f at is = absurd at
among_counts n (e ∷ es) f (inl same) is = let one : has_number n e ≡ 1 = counted n e (sym (ap (λ (g : Entry). g.seq) same) ∙ is) in omega (arith, one)
among_counts n (e ∷ es) f (inr at) is = omega (arith, among_counts n es f at is)

few_differ : (es : List Entry) → ((n : ℕ) → count n es ≤ 1) → NumbersDiffer es
few_differ [] few = tt
few_differ (e ∷ es) few = (all_among (λ f. f.seq ≢ e.seq) es apart, few_differ es (λ n. omega (arith, few n)))
  where
    apart : (f : Entry) → Among f es → f.seq ≢ e.seq
    apart f at same = omega (arith, few e.seq, counted e.seq e refl, among_counts e.seq es f at same)

pub differ_permuted : (x : List ℕ) (es fs : List Entry) → IsPermutation es fs → NumbersDiffer (over x es) → NumbersDiffer (over x fs)
differ_permuted x es fs same d = few_differ (over x fs) few
  where
    few : (n : ℕ) → count n (over x fs) ≤ 1
    few n = omega (arith, one_with n (over x es) d, tallied n x es, tallied n x fs, sum_by-IsPermutation (tally n x) es fs same)

differ_both : (es fs : List Entry) → NumbersDiffer es → NumbersDiffer fs → ((e f : Entry) → Among e es → Among f fs → e.seq < f.seq) → NumbersDiffer (es ++ fs)
differ_both [] fs d k below = k
differ_both (e ∷ es) fs d k below = (all_among (λ f. f.seq ≢ e.seq) (es ++ fs) apart, differ_both es fs d.1 k (λ g f at. below g f (inr at)))
  where
    apart : (f : Entry) → Among f (es ++ fs) → f.seq ≢ e.seq
    apart f at same = elim (among_append es fs f at) [
      | inl l ↦ among_all (λ g. g.seq ≢ e.seq) es f d.0 l same
      | inr r ↦ omega (arith, below e f (inl refl) r, same)
    ]

-- those of operations that are newer than all others
pub differ_newer : (x : List ℕ) (es : List Entry) (m : ℕ) (ops : List Op) → ((e f : Entry) → Among e es → Among f (numbered m ops) → e.seq < f.seq) → NumbersDiffer (over x es) → NumbersDiffer (over x (es ++ numbered m ops))
differ_newer x es m ops newer d =
    subst NumbersDiffer (sym (filter-append (λ e. is_over x e.op) es (numbered m ops)))
    (differ_both (over x es) (over x (numbered m ops)) d
    (some_differ (λ e. is_over x e.op) (numbered m ops) (rising_differ (numbered m ops) (numbered_rise m ops)))
    (λ e f at_e at_f. newer e f (filter_among (λ g. is_over x g.op) es e at_e).0 (filter_among (λ g. is_over x g.op) (numbered m ops) f at_f).0))

-- Cells.

-- two lists give one cell at a key
pub record Same (es fs : List Entry) (x : List ℕ) : Type 0 where
  pub points : point es x ≡ point fs x
  pub covers : cover es x ≡ cover fs x

pub same_of_cells : (es fs : List Entry) (n : ℕ) (x : List ℕ) → cells es n x ≡ cells fs n x → Same (upto n es) (upto n fs) x
same_of_cells es fs n x is = record { points = ap (λ c. c.0) is; covers = ap (λ c. c.1) is }

pub cells_of_same : (es fs : List Entry) (n : ℕ) (x : List ℕ) → Same (upto n es) (upto n fs) x → cells es n x ≡ cells fs n x
cells_of_same es fs n x same = λ i. (same.points i, same.covers i)

pub upto_all : (n : ℕ) (es : List Entry) → All (λ e. e.seq ≤ n) es → upto n es ≡ es
upto_all n es all = filter_all (λ e. nat_le e.seq n) es (all_weaker (λ e. e.seq ≤ n) (λ e. nat_le e.seq n ≡ true) (λ e le. le-leb e.seq n le) es (recursion_from_All (λ e. e.seq ≤ n) es all))

-- one newer entry behind both
same_after : (es fs : List Entry) (e : Entry) (x : List ℕ) → NumberedBelow e.seq es → NumberedBelow e.seq fs → Same es fs x → Same (es ++ e ∷ []) (fs ++ e ∷ []) x
same_after es fs e x a b same = record {
  points =
      point_after_entry es e x (All-filter (λ f. is_over x f.op) (λ f. f.seq < e.seq) es a)
      ∙ ap (λ p. cond (is_over x e.op) (with_point e.op p) p) same.points
      ∙ sym (point_after_entry fs e x (All-filter (λ f. is_over x f.op) (λ f. f.seq < e.seq) fs b));
  covers =
      cover_after_entry es e x (All-filter (λ f. is_over x f.op) (λ f. f.seq < e.seq) es a)
      ∙ ap (λ c. cond (is_over x e.op) (with_entry e.op c) c) same.covers
      ∙ sym (cover_after_entry fs e x (All-filter (λ f. is_over x f.op) (λ f. f.seq < e.seq) fs b));
}

-- newer operations behind both
pub same_newer : (m : ℕ) (ops : List Op) (es fs : List Entry) (x : List ℕ) → NumberedBelow m es → NumberedBelow m fs → Same es fs x → Same (es ++ numbered m ops) (fs ++ numbered m ops) x
same_newer m [] es fs x a b same = subst (λ l. Same l (fs ++ []) x) (sym (append-nil es)) (subst (λ l. Same es l x) (sym (append-nil fs)) same)
same_newer m (op ∷ ops) es fs x a b same =
    let e : Entry = record { op = op; seq = m } in
    let rest : List Entry = numbered (m + 1) ops in
    let more : Same ((es ++ e ∷ []) ++ rest) ((fs ++ e ∷ []) ++ rest) x = same_newer (m + 1) ops (es ++ e ∷ []) (fs ++ e ∷ []) x (next es a) (next fs b) (same_after es fs e x a b same) in
    subst (λ l. Same l (fs ++ e ∷ rest) x) (append_assoc es (e ∷ []) rest) (subst (λ l. Same ((es ++ e ∷ []) ++ rest) l x) (append_assoc fs (e ∷ []) rest) more)
  where
    next : (gs : List Entry) → NumberedBelow m gs → NumberedBelow (m + 1) (gs ++ record { op = op; seq = m } ∷ [])
    next gs below = All-push (λ f. f.seq < m + 1) gs (record { op = op; seq = m }) (All-weaker (λ f. f.seq < m) (λ f. f.seq < m + 1) (λ f less. omega (arith, less)) gs below) (omega arith)

-- up to a number, in any order
pub same_permuted : (n : ℕ) (x : List ℕ) (es fs : List Entry) → IsPermutation es fs → NumbersDiffer (over x es) → Same (upto n es) (upto n fs) x
same_permuted n x es fs same d =
    record {
      points = point_of_elements (upto n es) (upto n fs) x (differ es d) (differ fs (differ_permuted x es fs same d)) (both (points_on x (upto n es)) (points_on x (upto n fs)) (on_points es fs to) (on_points fs es back));
      covers = cover_of_effects (upto n es) (upto n fs) x (differ es d) (differ fs (differ_permuted x es fs same d)) (both (effects_over x (upto n es)) (effects_over x (upto n fs)) (on_effects es fs to) (on_effects fs es back));
    }
  where
    differ : (gs : List Entry) → NumbersDiffer (over x gs) → NumbersDiffer (over x (upto n gs))
    differ gs d = subst NumbersDiffer (sym (over_upto x n gs)) (some_differ (λ e. nat_le e.seq n) (over x gs) d)

    permuted : (gs hs : List Entry) → IsPermutation gs hs → (e : Entry) → Among e gs → Among e hs
    permuted gs hs p e at = among_contained hs e (Contains-permutation gs hs e p (contains_among gs e at))

    to : (e : Entry) → Among e es → Among e fs
    to = permuted es fs same

    back : (e : Entry) → Among e fs → Among e es
    back = permuted fs es (IsPermutation-sym es fs same)

    both : (gs hs : List Entry) → ((e : Entry) → Among e gs → Among e hs) → ((e : Entry) → Among e hs → Among e gs) → SameElements gs hs
    both gs hs there here e = (λ c. contains_among hs e (there e (among_contained gs e c)), λ c. contains_among gs e (here e (among_contained hs e c)))

    kept : (t : Entry → Bool) (gs hs : List Entry) → ((e : Entry) → Among e gs → Among e hs) → (e : Entry) → Among e (filter t gs) → Among e (filter t hs)
    kept t gs hs there e at = let found = filter_among t gs e at in among_filter t hs e (there e found.0) found.1

    overs : (gs hs : List Entry) → ((e : Entry) → Among e gs → Among e hs) → (e : Entry) → Among e (over x (upto n gs)) → Among e (over x (upto n hs))
    overs gs hs there = kept (λ e. is_over x e.op) (upto n gs) (upto n hs) (kept (λ e. nat_le e.seq n) gs hs there)

    on_points : (gs hs : List Entry) → ((e : Entry) → Among e gs → Among e hs) → (e : Entry) → Among e (points_on x (upto n gs)) → Among e (points_on x (upto n hs))
    on_points gs hs there = kept (λ e. is_point e.op) (over x (upto n gs)) (over x (upto n hs)) (overs gs hs there)

    on_effects : (gs hs : List Entry) → ((e : Entry) → Among e gs → Among e hs) → (e : Entry) → Among e (effects_over x (upto n gs)) → Among e (effects_over x (upto n hs))
    on_effects gs hs there e at =
        let found = map_among (λ f. record { op = without_ends f.op; seq = f.seq }) (spans_over x (upto n gs)) e at in
        subst (λ f. Among f (effects_over x (upto n hs))) (sym found.1.1)
        (among_map (λ f. record { op = without_ends f.op; seq = f.seq }) (spans_over x (upto n hs)) found.0
        (kept (λ f. not (is_point f.op)) (over x (upto n gs)) (over x (upto n hs)) (overs gs hs there) found.0 found.1.0))
