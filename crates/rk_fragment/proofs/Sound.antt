-- Where numbers differ, the spans are such as a source holds.
use Rattle.std.proofs.Common.{◌≡◌, ◌≢◌, ℕ, ◌<◌, ◌≤◌, Bool, true, false, cond, List, [], ◌∷◌, refl, ap, sym, ◌∙◌, arith}
use Rattle.std.specs.Prelude.{not, nat_lt}
use Rattle.std.specs.List.{AllByRecursion, filter_map, cons_option, list_all, flat_map}
use Rattle.rk_model.specs.Operations.{is_over, NumbersDiffer}
use Rattle.rk_model.specs.Covers.{over}
use Rattle.rk_model.specs.Spans.{op_ends, KeysRise}
use Rattle.rk_model.specs.Sources.{ascends, are_newest_first, is_span, are_spans}
use Rattle.rk_model.specs.declared.op.Op.{Op}
use Rattle.rk_model.specs.declared.op.Op.TheVariants.{Put, Del, RangeSet, RangeUnset, RangeDel}
use Rattle.rk_model.specs.declared.op.Entry.{Entry}
use Rattle.rk_model.specs.declared.span.RangeKey.{RangeKey}
use Rattle.rk_model.specs.declared.span.Span.{Span}
use Rattle.rk_fragment.specs.Fragments.{range_key, newest_first, keys_at, written, span_with, spans_between, FallsBy, FragmentsAreSpans}
use Rattle.rk_fragment.proofs.Order.{lt, lt_itself, lt_trans}
use Rattle.rk_model.proofs.Lists.{all_weaker}
use Rattle.rk_fragment.proofs.Rising.{sorted_rises}
use Rattle.rk_fragment.proofs.Falling.{lt_says, insert_falls, all_inserted}

ascends_cons : {A : Type 0} (before : A → A → Bool) (x : A) (xs : List A) → AllByRecursion (λ y. before x y ≡ true) xs → ascends before xs ≡ true → ascends before (x ∷ xs) ≡ true
ascends_cons before x [] h a = refl
ascends_cons before x (y ∷ ys) h a = rw (h.0, a) refl

pub falling_ascends : (ks : List RangeKey) → FallsBy (λ m n. m < n) ks → are_newest_first ks ≡ true
falling_ascends [] h = refl
falling_ascends (k ∷ ks) h =
    ascends_cons (λ j q. nat_lt q.seq j.seq) k ks (all_weaker (λ q. q.seq < k.seq) (λ q. nat_lt q.seq k.seq ≡ true) (λ q m. lt_says q.seq k.seq m) ks h.0) (falling_ascends ks h.1)

-- the numbers of the range keys over a key are those of entries
module _ (x : List ℕ) where
  abbrev keys_of : List Entry → List RangeKey
  keys_of es = filter_map (λ e. range_key e.seq e.op) (over x es)

  numbers : (P : ℕ → Type 0) (es : List Entry) → AllByRecursion (λ e. P e.seq) es → AllByRecursion (λ k. P k.seq) (newest_first (keys_of es))
  numbers P [] h = tt
  numbers P (e ∷ es) h = go (is_over x e.op) (numbers P es h.1)
    where
      put : (op : Op) → AllByRecursion (λ k. P k.seq) (newest_first (keys_of es)) → AllByRecursion (λ k. P k.seq) (newest_first (cons_option (range_key e.seq op) (keys_of es)))
      put (Put key value) ih = ih
      put (Del key) ih = ih
      put (RangeSet start end suffix value) ih = all_inserted (λ k. P k.seq) _ (newest_first (keys_of es)) h.0 ih
      put (RangeUnset start end suffix) ih = all_inserted (λ k. P k.seq) _ (newest_first (keys_of es)) h.0 ih
      put (RangeDel start end) ih = all_inserted (λ k. P k.seq) _ (newest_first (keys_of es)) h.0 ih

      go : (b : Bool) → AllByRecursion (λ k. P k.seq) (newest_first (keys_of es)) → AllByRecursion (λ k. P k.seq) (newest_first (filter_map (λ e. range_key e.seq e.op) (cond b (e ∷ over x es) (over x es))))
      go true ih = put e.op ih
      go false ih = ih

  falls : (es : List Entry) → NumbersDiffer es → FallsBy (λ m n. m < n) (newest_first (keys_of es))
  falls [] h = tt
  falls (e ∷ es) h = go (is_over x e.op) (falls es h.1)
    where
      apart : (k : RangeKey) → k.seq ≡ e.seq → AllByRecursion (λ q. q.seq ≤ k.seq → q.seq < k.seq) (newest_first (keys_of es))
      apart k is =
          all_weaker (λ q. q.seq ≢ e.seq) (λ q. q.seq ≤ k.seq → q.seq < k.seq) (λ q other le. omega arith) (newest_first (keys_of es)) (numbers (λ n. n ≢ e.seq) es h.0)

      more : (k : RangeKey) → k.seq ≡ e.seq → FallsBy (λ m n. m < n) (newest_first (keys_of es)) → FallsBy (λ m n. m < n) (newest_first (k ∷ keys_of es))
      more k is ih = insert_falls (λ m n. m < n) (λ m n less. less) (λ l m n less le. omega arith) k (newest_first (keys_of es)) (apart k is) ih

      put : (op : Op) → FallsBy (λ m n. m < n) (newest_first (keys_of es)) → FallsBy (λ m n. m < n) (newest_first (cons_option (range_key e.seq op) (keys_of es)))
      put (Put key value) ih = ih
      put (Del key) ih = ih
      put (RangeSet start end suffix value) ih = more _ refl ih
      put (RangeUnset start end suffix) ih = more _ refl ih
      put (RangeDel start end) ih = more _ refl ih

      go : (b : Bool) → FallsBy (λ m n. m < n) (newest_first (keys_of es)) → FallsBy (λ m n. m < n) (newest_first (filter_map (λ e. range_key e.seq e.op) (cond b (e ∷ over x es) (over x es))))
      go true ih = put e.op ih
      go false ih = ih

-- spans between ends that rise, where the range keys at each of them fall
module _ (keys : List ℕ → List RangeKey) (falling : (x : List ℕ) → are_newest_first (keys x) ≡ true) where
  -- each span is one
  all_spans : (a : List ℕ) (ends : List (List ℕ)) → KeysRise (a ∷ ends) → list_all is_span (spans_between keys (a ∷ ends)) ≡ true
  all_spans a [] h = refl
  all_spans a (b ∷ bs) h = go (keys a) refl (all_spans b bs h.1)
    where
      go : (some : List RangeKey) → keys a ≡ some → list_all is_span (spans_between keys (b ∷ bs)) ≡ true → list_all is_span (cons_option (span_with a b some) (spans_between keys (b ∷ bs))) ≡ true
      go [] e ih = ih
      go (k ∷ ks) e ih =
          let first : are_newest_first (k ∷ ks) ≡ true = ap are_newest_first (sym e) ∙ falling a in
          rw (h.0.0, first, ih) refl

  -- none begins below the first end
  none_before : (c a : List ℕ) (ends : List (List ℕ)) → KeysRise (a ∷ ends) → lt a c ≡ false → AllByRecursion (λ s. not (lt s.start c) ≡ true) (spans_between keys (a ∷ ends))
  none_before c a [] h g = tt
  none_before c a (b ∷ bs) h g = go (keys a) (none_before c b bs h.1 (later (lt b c) refl))
    where
      later : (t : Bool) → lt b c ≡ t → t ≡ false
      later false e = refl
      later true e = let f : lt a c ≡ true = lt_trans a b c h.0.0 e in cc

      go : (some : List RangeKey) → AllByRecursion (λ s. not (lt s.start c) ≡ true) (spans_between keys (b ∷ bs)) → AllByRecursion (λ s. not (lt s.start c) ≡ true) (cons_option (span_with a b some) (spans_between keys (b ∷ bs)))
      go [] ih = ih
      go (k ∷ ks) ih = (ap not g, ih)

  one_after_other : (a : List ℕ) (ends : List (List ℕ)) → KeysRise (a ∷ ends) → ascends (λ s t. not (lt t.start s.end)) (spans_between keys (a ∷ ends)) ≡ true
  one_after_other a [] h = refl
  one_after_other a (b ∷ bs) h = go (keys a) (one_after_other b bs h.1)
    where
      go : (some : List RangeKey) → ascends (λ s t. not (lt t.start s.end)) (spans_between keys (b ∷ bs)) ≡ true → ascends (λ s t. not (lt t.start s.end)) (cons_option (span_with a b some) (spans_between keys (b ∷ bs))) ≡ true
      go [] ih = ih
      go (k ∷ ks) ih =
          let span : Span = record { start = a; end = b; keys = k ∷ ks } in
          ascends_cons (λ s t. not (lt t.start s.end)) span (spans_between keys (b ∷ bs)) (none_before b b bs h.1 (lt_itself b)) ih

  pub sound_between : (ends : List (List ℕ)) → KeysRise ends → are_spans (spans_between keys ends) ≡ true
  sound_between [] h = refl
  sound_between (a ∷ ends) h = rw (all_spans a ends h, one_after_other a ends h) refl

pub sound : FragmentsAreSpans
sound es differ = sound_between (keys_at es) (λ x. falling_ascends (keys_at es x) (falls x es differ)) (written es) (sorted_rises (flat_map (λ e. op_ends e.op) es))
