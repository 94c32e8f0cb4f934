-- What is visible of points, and what it gives.
use Rattle.std.proofs.Common.{◌≡◌, ◌≢◌, ℕ, Bool, true, false, not, ◌&&◌, List, [], ◌∷◌, ◌++◌, Option, Some, None, refl, ap, sym, ◌∙◌, inl, inr, arith, lt-ltb, nat_lt, nat_le, Less, Equal, Greater}
use Rattle.std.specs.Prelude.{IsTrue, MatchOption, filter}
use Rattle.std.specs.List.{All, list_any, list_all}
use Rattle.std.specs.Ordering.{is_lt, is_eq, nat_cmp, ordering_then}
use Rattle.std.proofs.lemmas.List.{append-nil}
use Rattle.std.proofs.lemmas.List.Elements.{filter-append, All-from_recursion}
use Rattle.rk_key.specs.Keys.{IsKey, key_cmp}
use Rattle.rk_key.specs.KeyTests.{is_key}
use Rattle.rk_key.proofs.KeyTests.{key_by_test}
use Rattle.rk_model.specs.Lists.{Among}
use Rattle.rk_model.specs.Operations.{is_over, NumbersDiffer}
use Rattle.rk_model.specs.Covers.{upto, over, is_point, point, put_value}
use Rattle.rk_model.specs.Items.{has_keys, keyed_points}
use Rattle.rk_model.specs.Sources.{ascends, op_key, entry_cmp, are_points}
use Rattle.rk_model.specs.Spans.{op_ends}
use Rattle.rk_model.specs.declared.op.Op.{Op}
use Rattle.rk_model.specs.declared.op.Op.TheVariants.{Put, Del, RangeSet, RangeUnset, RangeDel}
use Rattle.rk_model.specs.declared.op.Entry.{Entry}
use Rattle.rk_model.proofs.Lists.{filter_none}
use Rattle.rk_model.proofs.Members.{all_among, filter_among, any_from, every_gives, every_from}
use Rattle.rk_model.proofs.Orders.{entry_total}
use Rattle.rk_laws.specs.Prefixes.{points_on}
use Rattle.rk_laws.specs.SameCells.{op_keys, WellFormed}
use Rattle.rk_laws.proofs.Plain.{point_of_its_own}
use Rattle.rk_merge.proofs.Lists.{and_parts, and_true, filter_ascends}
use Rattle.rk_pointmerge.specs.Visibles as seen
use Rattle.rk_pointmerge.specs.Visibles.{outdates, is_visible, visible}
use Rattle.rk_span_laws.specs.Given.{is_put, are_single_puts}
use Rattle.rk_merge_laws.proofs.PointValues.{NumbersFall, falls_from, newest_alone, nat_cmp_lt, visible_is_the_point}
use Rattle.rk_merge_laws.proofs.Told.{point_over}

-- items that ascend in one way do so in another that holds of each two of them
ascends_alike : {A : Type 0} (r s : A → A → Bool) (xs : List A) → ((x y : A) → Among x xs → Among y xs → r x y ≡ true → s x y ≡ true) → ascends r xs ≡ true → ascends s xs ≡ true
ascends_alike r s [] h up = refl
ascends_alike r s (x ∷ []) h up = refl
ascends_alike r s (x ∷ y ∷ ys) h up =
    let parts = and_parts (r x y) _ up in
    and_true (s x y) _ (h x y (inl refl) (inr (inl refl)) parts.0) (ascends_alike r s (y ∷ ys) (λ a b m n. h a b (inr m) (inr n)) parts.1)

same_put : (op : Op) → seen.is_put op ≡ true → is_put op ≡ true
same_put (Put key value) h = refl
same_put (Del key) h = cc
same_put (RangeSet start end suffix value) h = cc
same_put (RangeUnset start end suffix) h = cc
same_put (RangeDel start end) h = cc

valued_is_point : (op : Op) (v : List ℕ) → put_value op ≡ Some v → is_point op ≡ true
valued_is_point (Put key value) v h = refl
valued_is_point (Del key) v h = refl
valued_is_point (RangeSet start end suffix value) v h = cc
valued_is_point (RangeUnset start end suffix) v h = cc
valued_is_point (RangeDel start end) v h = cc

-- what is visible of points in order
module _ (n : ℕ) (es : List Entry) (keyed : IsTrue (keyed_points es)) where
  sorted : IsTrue (are_points es)
  sorted = (and_parts (are_points es) _ keyed).0

  -- it is one of them, a set numbered at most n, and no newer one outdates it
  visible_parts : (e : Entry) → Among e (visible n es) → Among e es × (seen.is_put e.op ≡ true) × (nat_le e.seq n ≡ true) × (not (list_any (λ g. outdates n g e) es) ≡ true)
  visible_parts e m =
      let found = filter_among (is_visible n es) es e m in
      let parts = and_parts (seen.is_put e.op && nat_le e.seq n) (not (list_any (λ g. outdates n g e) es)) found.1 in
      let set = and_parts (seen.is_put e.op) (nat_le e.seq n) parts.0 in
      (found.0, set.0, set.1, parts.1)

  visible_put : (e : Entry) → Among e (visible n es) → is_put e.op ≡ true
  visible_put e m = same_put e.op (visible_parts e m).1

  visible_key : (e : Entry) → Among e (visible n es) → is_key (op_key e.op) ≡ true
  visible_key e m = every_gives (λ e. is_key (op_key e.op)) es e (and_parts (are_points es) _ keyed).1 (filter_among (is_visible n es) es e m).0

  -- of two of them the first is of a lesser key
  by_key : (e f : Entry) → Among e (visible n es) → Among f (visible n es) → is_lt (entry_cmp e f) ≡ true → is_lt (key_cmp (op_key e.op) (op_key f.op)) ≡ true
  by_key e f m k less = go (key_cmp (op_key e.op) (op_key f.op)) refl less
    where
      go : (r : _) → key_cmp (op_key e.op) (op_key f.op) ≡ r → is_lt (ordering_then r (nat_cmp f.seq e.seq)) ≡ true → is_lt r ≡ true
      go Less p q = refl
      go Equal p q =
          let same : is_eq (key_cmp (op_key e.op) (op_key f.op)) ≡ true = ap is_eq p in
          let newer : nat_lt f.seq e.seq ≡ true = lt-ltb f.seq e.seq (nat_cmp_lt f.seq e.seq q) in
          let hit : outdates n e f ≡ true = rw (same, (visible_parts e m).2, newer) refl in
          let any : list_any (λ g. outdates n g f) es ≡ true = any_from (λ g. outdates n g f) es e (visible_parts e m).0 hit in
          let never : not true ≡ true = ap not (sym any) ∙ (visible_parts f k).3 in
          absurd cc
      go Greater p q = cc

  pub visible_single : IsTrue (are_single_puts (visible n es))
  visible_single =
      and_true _ _
      (every_from (λ e. is_put e.op && is_key (op_key e.op)) (visible n es) (λ e m. and_true (is_put e.op) (is_key (op_key e.op)) (visible_put e m) (visible_key e m)))
      (ascends_alike (λ e f. is_lt (entry_cmp e f)) (λ e f. is_lt (key_cmp (op_key e.op) (op_key f.op))) (visible n es) by_key
      (filter_ascends entry_total (is_visible n es) es (and_parts _ _ sorted).1))

  -- the point of what is visible is that of the entries up to the number
  pub visible_point : (x : List ℕ) → point (visible n es) x ≡ point (upto n es) x
  visible_point x = go (point (upto n es) x) (visible_is_the_point n es x sorted)
    where
      go : (o : Option (List ℕ)) → MatchOption o (over x (visible n es) ≡ []) (λ v. (e : Entry) × (over x (visible n es) ≡ e ∷ []) × (put_value e.op ≡ Some v)) → point (visible n es) x ≡ o
      go None none = rw none refl
      go (Some v) (e, is, value) = rw (is, valued_is_point e.op v value, newest_alone e [] ((λ f m. absurd m), tt)) value

  -- over each key their numbers differ
  pub points_differ : (x : List ℕ) → NumbersDiffer (over x es)
  points_differ x = differ (over x es) (falls_from x (over x es) here (filter_ascends entry_total (λ e. is_over x e.op) es (and_parts _ _ sorted).1))
    where
      here : (e : Entry) → Among e (over x es) → is_eq (key_cmp (op_key e.op) x) ≡ true
      here e m =
          let found = filter_among (λ e. is_over x e.op) es e m in
          sym (point_over x e.op (every_gives (λ e. is_point e.op) es e (and_parts _ _ sorted).0 found.0)) ∙ found.1

      differ : (fs : List Entry) → NumbersFall fs → NumbersDiffer fs
      differ [] falls = tt
      differ (f ∷ fs) falls = (all_among (λ g. g.seq ≢ f.seq) fs (λ g m same. let less = falls.0 g m in omega (arith, less, same)), differ fs falls.1)

-- what is none of a point gives none
pub point_before : (ps es : List Entry) (x : List ℕ) → ((e : Entry) → Among e es → is_point e.op ≡ false) → point (ps ++ es) x ≡ point ps x
point_before ps es x ranges = point_of_its_own (ps ++ es) x ∙ ap (λ l. point l x) same ∙ sym (point_of_its_own ps x)
  where
    none : filter (λ e. is_point e.op) (over x es) ≡ []
    none = filter_none (λ e. is_point e.op) (over x es) (all_among (λ e. is_point e.op ≡ false) (over x es) (λ e m. ranges e (filter_among (λ e. is_over x e.op) es e m).0))

    same : points_on x (ps ++ es) ≡ points_on x ps
    same =
        ap (filter (λ e. is_point e.op)) (filter-append (λ e. is_over x e.op) ps es)
        ∙ filter-append (λ e. is_point e.op) (over x ps) (over x es)
        ∙ ap (λ l. points_on x ps ++ l) none
        ∙ append-nil (points_on x ps)

-- entries whose keys are keys
pub op_keyed : (op : Op) → has_keys op ≡ true → All IsKey (op_keys op)
op_keyed op keyed = go op (and_parts (is_key (op_key op)) _ keyed)
  where
    one : (k : List ℕ) → is_key k ≡ true → All IsKey (k ∷ [])
    one k h = All-from_recursion IsKey (k ∷ []) (key_by_test k h, tt)

    two : (a b : List ℕ) → (is_key a && (is_key b && true)) ≡ true → All IsKey (a ∷ b ∷ [])
    two a b h = let parts = and_parts (is_key a) _ h in All-from_recursion IsKey (a ∷ b ∷ []) (key_by_test a parts.0, (key_by_test b (and_parts (is_key b) true parts.1).0, tt))

    go : (op : Op) → (is_key (op_key op) ≡ true) × (list_all is_key (op_ends op) ≡ true) → All IsKey (op_keys op)
    go (Put key value) h = one key h.0
    go (Del key) h = one key h.0
    go (RangeSet start end suffix value) h = two start end h.1
    go (RangeUnset start end suffix) h = two start end h.1
    go (RangeDel start end) h = two start end h.1

pub well_formed : (es : List Entry) → ((e : Entry) → Among e es → All IsKey (op_keys e.op)) → WellFormed es
well_formed es keys = All-from_recursion (λ e. All IsKey (op_keys e.op)) es (all_among (λ e. All IsKey (op_keys e.op)) es keys)
