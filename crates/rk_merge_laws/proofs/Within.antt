-- The points of chunks that lie within bounds.
use Rattle.std.proofs.Common.{◌≡◌, ◌≢◌, ℕ, ◌+◌, ◌<◌, ◌≤◌, true, false, not, List, [], ◌∷◌, ◌++◌, take, drop, map, Option, Some, None, refl, ap, sym, ◌∙◌, ◌⊎◌, inl, inr, subst, arith}
use Rattle.std.specs.Prelude.{IsTrue}
use Rattle.std.specs.List.{AllByRecursion, slice_get}
use Rattle.std.specs.List.Sorted.{IsPartitionedBy}
use Rattle.std.specs.Ordering.{is_lt}
use Rattle.std.proofs.lemmas.Bool.{cases_lt, true≢false}
use Rattle.std.proofs.lemmas.List.{take-append-drop}
use Rattle.std.proofs.lemmas.List.Elements.{filter-append}
use Rattle.rk_key.specs.Keys.{IsKey, key_cmp}
use Rattle.rk_key.specs.KeyTests.{is_key}
use Rattle.rk_key.proofs.KeyTests.{key_by_test}
use Rattle.rk_key.proofs.Equality.{same_key_from_eq}
use Rattle.rk_model.specs.ItemLaws.{points-first, points-part}
use Rattle.rk_model.specs.Items.{point_takes, has_keys, are_keyed, keyed_points}
use Rattle.rk_model.specs.Lists.{Among}
use Rattle.rk_model.specs.Operations.{is_over, NumbersDiffer}
use Rattle.rk_model.specs.Covers.{over, is_point}
use Rattle.rk_model.specs.Sources.{op_key}
use Rattle.rk_model.specs.Spans.{at_or_above, below, in_bounds}
use Rattle.rk_model.specs.declared.op.Entry.{Entry}
use Rattle.rk_model.specs.declared.options.IterOptions.{IterOptions}
use Rattle.rk_model.proofs.Clips.{get_drop, get_take, none_beyond}
use Rattle.rk_model.proofs.Gaps.{before_taken, taken_before}
use Rattle.rk_model.proofs.Lists.{filter_swap}
use Rattle.rk_model.proofs.Members.{among_all, all_among, among_filter, filter_among, among_left, among_right, among_append, map_among, among_flat_map, flat_map_among, every_gives}
use Rattle.rk_model.proofs.Numbers.{some_differ}
use Rattle.rk_merge.specs.Unions.{AmongAny}
use Rattle.rk_merge.proofs.Lists.{and_parts}
use Rattle.rk_sources.specs.Bounds.{Takes, lower_cut, upper_cut, lows, highs, between}
use Rattle.rk_spanmerge.proofs.Gaps.{among_get}
use Rattle.rk_merge_laws.specs.Chunks.{all_of, NumbersDifferOver}
use Rattle.rk_merge_laws.specs.Cells.{points_of, points_within}
use Rattle.rk_merge_laws.proofs.Told.{differ_left, differ_right, over_both, across, point_over, not_true}

-- where an item of a first part stands
take_at : {A : Type 0} (n : ℕ) (xs : List A) (i : ℕ) (x : A) → slice_get (take n xs) i ≡ Some x → (i < n) × (slice_get xs i ≡ Some x)
take_at n xs i x is = go (cases_lt i n)
  where
    go : (i < n) ⊎ (n ≤ i) → (i < n) × (slice_get xs i ≡ Some x)
    go (inl low) = (low, sym (get_take n i xs low) ∙ is)
    go (inr high) = let none : None ≡ Some x = sym (none_beyond n i xs high) ∙ is in absurd cc

-- what lies between two bounds
module _ {A : Type 0} (takes : Takes A) (lower upper : Option (List ℕ)) (xs : List A) (x : A) where
  abbrev first : List A
  first = take (highs takes upper xs) xs

  pub between_among : Among x (between takes lower upper xs) → Among x xs
  between_among m =
      let here : Among x first = subst (Among x) (take-append-drop (lows takes lower xs) first) (among_right (take (lows takes lower xs) first) (drop (lows takes lower xs) first) x m) in
      subst (Among x) (take-append-drop (highs takes upper xs) xs) (among_left first (drop (highs takes upper xs) xs) x here)

  not_behind : IsPartitionedBy (takes false (upper_cut upper)) xs → takes false (upper_cut upper) x ≡ true → Among x (drop (highs takes upper xs) xs) → ⊥
  not_behind parted high m =
      let found = among_get (drop (highs takes upper xs) xs) x m in
      let at : slice_get xs (highs takes upper xs + found.0) ≡ Some x = sym (get_drop (highs takes upper xs) found.0 xs) ∙ found.1 in
      let more = before_taken (takes false (upper_cut upper)) xs (highs takes upper xs + found.0) x parted at high in
      omega (arith, more)

  not_before : takes true (lower_cut lower) x ≡ false → Among x (take (lows takes lower xs) first) → ⊥
  not_before low m =
      let found = among_get (take (lows takes lower xs) first) x m in
      let before = take_at (lows takes lower xs) first found.0 x found.1 in
      let at = take_at (highs takes upper xs) xs found.0 x before.1 in
      true≢false (sym (taken_before (takes true (lower_cut lower)) xs found.0 x at.1 before.0) ∙ low)

  pub among_between : IsPartitionedBy (takes false (upper_cut upper)) xs → Among x xs → takes true (lower_cut lower) x ≡ false → takes false (upper_cut upper) x ≡ true → Among x (between takes lower upper xs)
  among_between parted m low high =
      let here : Among x first = elim (among_append first (drop (highs takes upper xs) xs) x (rw (take-append-drop (highs takes upper xs) xs) m)) [ inl n ↦ n | inr n ↦ absurd (not_behind parted high n) ] in
      elim (among_append (take (lows takes lower xs) first) (drop (lows takes lower xs) first) x (rw (take-append-drop (lows takes lower xs) first) here)) [ inl n ↦ absurd (not_before low n) | inr n ↦ n ]

-- the numbers of a part differ over a key
differ_part : (x : List ℕ) (from to : ℕ) (es : List Entry) → NumbersDiffer (over x es) → NumbersDiffer (over x (drop from (take to es)))
differ_part x from to es d = last from (take to es) (first to es d)
  where
    whole : (n : ℕ) (fs : List Entry) → NumbersDiffer (over x fs) → NumbersDiffer (over x (take n fs) ++ over x (drop n fs))
    whole n fs e = rw (sym (filter-append (λ e. is_over x e.op) (take n fs) (drop n fs)), take-append-drop n fs) e

    first : (n : ℕ) (fs : List Entry) → NumbersDiffer (over x fs) → NumbersDiffer (over x (take n fs))
    first n fs e = differ_left (over x (take n fs)) (over x (drop n fs)) (whole n fs e)

    last : (n : ℕ) (fs : List Entry) → NumbersDiffer (over x fs) → NumbersDiffer (over x (drop n fs))
    last n fs e = differ_right (over x (take n fs)) (over x (drop n fs)) (whole n fs e)

differ_both : (es fs : List Entry) → NumbersDiffer es → NumbersDiffer fs → ((e f : Entry) → Among e es → Among f fs → f.seq ≢ e.seq) → NumbersDiffer (es ++ fs)
differ_both [] fs d d' h = d'
differ_both (e ∷ es) fs d d' h = (all_among (λ f. f.seq ≢ e.seq) (es ++ fs) other, differ_both es fs d.1 d' (λ g f m n. h g f (inr m) n))
  where
    other : (f : Entry) → Among f (es ++ fs) → f.seq ≢ e.seq
    other f m = elim (among_append es fs f m) [ inl n ↦ among_all (λ g. g.seq ≢ e.seq) es f d.0 n | inr n ↦ h e f (inl refl) n ]

-- the points of one chunk, and of all
pub from_chunk : (o : IterOptions) (es : List Entry) (e : Entry) → Among e (points_within o es) → Among e es
from_chunk o es e m = (filter_among (λ e. is_point e.op) es e (between_among (λ forward. point_takes) o.lower o.upper (points_of es) e m)).0

pub from_chunks : (o : IterOptions) (ess : List (List Entry)) (e : Entry) → Among e (all_of (map (points_within o) ess)) → Among e (all_of ess)
from_chunks o ess e m =
    let part = flat_map_among (λ es. es) (map (points_within o) ess) e m in
    let chunk = map_among (points_within o) ess part.0 part.1.0 in
    among_flat_map (λ es. es) ess chunk.0 e chunk.1.0 (from_chunk o chunk.0 e (subst (Among e) chunk.1.1 part.1.1))

within_differ : (o : IterOptions) (es : List Entry) (x : List ℕ) → NumbersDiffer (over x es) → NumbersDiffer (over x (points_within o es))
within_differ o es x d =
    differ_part x (lows (λ forward. point_takes) o.lower (points_of es)) (highs (λ forward. point_takes) o.upper (points_of es)) (points_of es)
    (rw (filter_swap (λ e. is_over x e.op) (λ e. is_point e.op) es) (some_differ (λ e. is_point e.op) (over x es) d))

pub all_differ : (o : IterOptions) (ess : List (List Entry)) → NumbersDifferOver ess → NumbersDifferOver (map (points_within o) ess)
all_differ o [] d x = tt
all_differ o (es ∷ ess) d x =
    rw (over_both x (points_within o es) (map (points_within o) ess))
    (differ_both (over x (points_within o es)) (over x (all_of (map (points_within o) ess)))
    (within_differ o es x (differ_left (over x es) (over x (all_of ess)) both))
    (all_differ o ess rest x) apart)
  where
    both : NumbersDiffer (over x es ++ over x (all_of ess))
    both = rw (sym (over_both x es ess)) (d x)

    rest : NumbersDifferOver ess
    rest y = differ_right (over y es) (over y (all_of ess)) (rw (sym (over_both y es ess)) (d y))

    apart : (e f : Entry) → Among e (over x (points_within o es)) → Among f (over x (all_of (map (points_within o) ess))) → f.seq ≢ e.seq
    apart e f m n =
        let one = filter_among (λ e. is_over x e.op) (points_within o es) e m in
        let other = filter_among (λ e. is_over x e.op) (all_of (map (points_within o) ess)) f n in
        across es ess d x e f (from_chunk o es e one.0) one.1 (from_chunks o ess f other.0) other.1

pub all_keyed : (o : IterOptions) (ess : List (List Entry)) → AllByRecursion (λ es. IsTrue (keyed_points (points_of es))) ess → AllByRecursion (λ es. IsTrue (keyed_points es)) (map (points_within o) ess)
all_keyed o [] all = tt
all_keyed o (es ∷ ess) all =
    (points-part (lows (λ forward. point_takes) o.lower (points_of es)) (highs (λ forward. point_takes) o.upper (points_of es)) (points_of es) all.0, all_keyed o ess all.1)

-- a point on a key within the bounds lies within them
module _ (o : IterOptions) (x : List ℕ) (inside : in_bounds o x ≡ true) (e : Entry) (is : op_key e.op ≡ x) where
  from_lower : (l : Option (List ℕ)) → at_or_above l x ≡ true → point_takes (lower_cut l) e ≡ false
  from_lower None h = refl
  from_lower (Some l) h = rw is (not_lt h)
    where
      not_lt : not (is_lt (key_cmp x l)) ≡ true → is_lt (key_cmp x l) ≡ false
      not_lt k = not_true (is_lt (key_cmp x l)) (λ p. let q : not true ≡ true = ap not (sym p) ∙ k in absurd cc)

  below_upper : (u : Option (List ℕ)) → below u x ≡ true → point_takes (upper_cut u) e ≡ true
  below_upper None h = refl
  below_upper (Some u) h = rw is h

  pub in_chunk : (es : List Entry) → IsTrue (keyed_points (points_of es)) → Among e es → is_point e.op ≡ true → Among e (points_within o es)
  in_chunk es keyed m p =
      let bounds = and_parts (at_or_above o.lower x) (below o.upper x) inside in
      among_between (λ forward. point_takes) o.lower o.upper (points_of es) e (points-first (upper_cut o.upper) (points_of es) keyed)
      (among_filter (λ e. is_point e.op) es e m p) (from_lower o.lower bounds.0) (below_upper o.upper bounds.1)

pub any_map : (f : List Entry → List Entry) (ess : List (List Entry)) (es : List Entry) (e : Entry) → Among es ess → Among e (f es) → AmongAny e (map f ess)
any_map f [] es e m n = absurd m
any_map f (fs ∷ ess) es e (inl is) n = inl (subst (λ gs. Among e (f gs)) is n)
any_map f (fs ∷ ess) es e (inr m) n = inr (any_map f ess es e m n)

-- the key of a point that is over a key
pub key_over : (x : List ℕ) → IsKey x → (es : List Entry) → IsTrue (are_keyed es) → (e : Entry) → Among e es → is_point e.op ≡ true → is_over x e.op ≡ true → op_key e.op ≡ x
key_over x kx es keyed e m p o =
    let tested = every_gives (λ e. has_keys e.op) es e keyed m in
    same_key_from_eq (op_key e.op) x (key_by_test (op_key e.op) (and_parts (is_key (op_key e.op)) _ tested).0) kx (sym (point_over x e.op p) ∙ o)
