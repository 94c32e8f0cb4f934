-- How many items of a union a test takes, and how many of each of its lists: what stands before a cut, or a gap.
use Rattle.std.proofs.Common.{◌≡◌, ℕ, zero, suc, ◌+◌, ◌<◌, ◌≤◌, length, get_or, map, Bool, true, false, List, [], ◌∷◌, Option, Some, None, slice_get, cond, refl, ap, sym, ◌∙◌, inl, inr, arith, Ordering, add-one, is_lt}
use Rattle.std.proofs.lemmas.Bool.{false_from_ne_true, true≢false}
use Rattle.std.proofs.lemmas.Option.{slice_get-get_or}
use Rattle.std.specs.Option.{option_or, option_map_or}
use Rattle.std.specs.Cmp.{IsTotalOrder}
use Rattle.rk_key.proofs.TotalOrders.{lt_itself, lt_back, ge_lt}
use Rattle.rk_model.specs.Cuts.{count_before, item_from}
use Rattle.rk_model.specs.Sources.{ascends}
use Rattle.rk_model.proofs.Gaps.{cut_within}
use Rattle.rk_model.proofs.Clips.{count_rises}
use Rattle.rk_merge.specs.Unions.{Among, insert_by, merge, union}
use Rattle.rk_merge.specs.Pools.{total}
use Rattle.rk_merge.specs.Cuts.{first_behind, last_before, near_cut}
use Rattle.rk_merge.proofs.Lists.{ascends_tail, ascends_first}
use Rattle.rk_merge.proofs.Totals.{total_each}
use Rattle.rk_merge.proofs.Nears.{Falls}

pub count_agree : {A : Type 0} (t u : A → Bool) (xs : List A) → ((x : A) → Among x xs → t x ≡ u x) → count_before t xs ≡ count_before u xs
count_agree t u [] same = refl
count_agree t u (x ∷ xs) same =
    let here = same x (inl refl) in
    let rest = count_agree t u xs (λ y m. same y (inr m)) in
    rw (here, rest) refl

pub count_all : {A : Type 0} (xs : List A) → count_before (λ x. true) xs ≡ length xs
count_all [] = refl
count_all (x ∷ xs) = rw (count_all xs) (omega arith)

count_none : {A : Type 0} (t : A → Bool) (xs : List A) → ((x : A) → Among x xs → t x ≡ false) → count_before t xs ≡ 0
count_none t [] none = refl
count_none t (x ∷ xs) none = rw (none x (inl refl)) refl

pub slice_among : {A : Type 0} (xs : List A) (i : ℕ) (x : A) → slice_get xs i ≡ Some x → Among x xs
slice_among [] i x e = cc
slice_among (y ∷ ys) zero x e = inl (cc)
slice_among (y ∷ ys) (suc i) x e = inr (slice_among ys i x e)

-- what is seen from a cut
from_next : {A : Type 0} (x : A) (xs : List A) (n : ℕ) → n ≤ length xs → item_from false (x ∷ xs) (n + 1) ≡ option_or (item_from false xs n) (Some x)
from_next x xs zero le = refl
from_next x xs (suc n) le = rw (add-one, slice_get-get_or xs n x (omega arith)) refl

pub from_cut : {A : Type 0} (forward : Bool) (t : A → Bool) (xs : List A) → item_from forward xs (count_before t xs) ≡ near_cut forward t xs
from_cut true t [] = refl
from_cut {A} true t (x ∷ xs) = go (t x) (from_cut true t xs)
  where
    go : (b : Bool) → slice_get xs (count_before t xs) ≡ first_behind t xs → slice_get (x ∷ xs) (cond b (count_before t xs + 1) 0) ≡ cond b (first_behind t xs) (Some x)
    go true ih = rw add-one ih
    go false ih = refl
from_cut false t [] = refl
from_cut false t (x ∷ xs) =
    elim (t x) as (λ b. item_from false (x ∷ xs) (cond b (count_before t xs + 1) 0) ≡ cond b (option_or (last_before t xs) (Some x)) None) [
      | true ↦ from_next x xs (count_before t xs) (cut_within t xs) ∙ ap (λ l. option_or l (Some x)) (from_cut false t xs)
      | false ↦ refl
    ]

module _ {A : Type 0} {cmp : A → A → Ordering} (o : IsTotalOrder cmp) where
  abbrev Before : A → A → Bool
  Before a b = is_lt (cmp a b)

  insert_count : (t : A → Bool) → Falls o t → (x : A) (ys : List A) → count_before t (insert_by Before x ys) ≡ cond (t x) 1 0 + count_before t ys
  insert_count t falls x [] = elim (t x) as (λ b. cond b (0 + 1) 0 ≡ cond b 1 0 + 0) [ true ↦ refl | false ↦ refl ]
  insert_count t falls x (y ∷ ys) = go (is_lt (cmp y x)) (t x) (t y) refl refl refl (insert_count t falls x ys)
    where
      go : (b p q : Bool) → is_lt (cmp y x) ≡ b → t x ≡ p → t y ≡ q → count_before t (insert_by Before x ys) ≡ cond p 1 0 + count_before t ys
          → count_before t (cond b (y ∷ insert_by Before x ys) (x ∷ y ∷ ys)) ≡ cond p 1 0 + cond q (count_before t ys + 1) 0
      go true p true b ex ey ih = rw ey (omega (arith, ih))
      go true true false b ex ey ih = let w : t y ≡ true = falls x y ex (lt_back o y x b) in cc
      go true false false b ex ey ih = rw ey refl
      go false true q b ex ey ih = rw (ex, ey) (omega arith)
      go false false true b ex ey ih = let w : t x ≡ true = falls y x ey b in cc
      go false false false b ex ey ih = rw ex refl

  merge_count : (t : A → Bool) → Falls o t → (xs ys : List A) → ascends Before xs ≡ true → count_before t (merge Before xs ys) ≡ count_before t xs + count_before t ys
  merge_count t falls [] ys up = omega arith
  merge_count t falls (x ∷ xs) ys up = insert_count t falls x (merge Before xs ys) ∙ go (t x) refl (merge_count t falls xs ys (ascends_tail Before x xs up))
    where
      go : (b : Bool) → t x ≡ b → count_before t (merge Before xs ys) ≡ count_before t xs + count_before t ys → cond b 1 0 + count_before t (merge Before xs ys) ≡ cond b (count_before t xs + 1) 0 + count_before t ys
      go true e ih = omega (arith, ih)
      go false e ih =
          let none = count_none t xs (λ y m. false_from_ne_true (t y) (λ f. true≢false (sym (falls y x f (lt_back o x y (ascends_first o x xs up y m))) ∙ e))) in
          omega (arith, ih, none)

  -- a test that falls takes of the union what it takes of all lists
  pub union_count : {S : Type 0} (t : A → Bool) → Falls o t → (f : S → List A) → ((s : S) → ascends Before (f s) ≡ true) → (ss : List S) → count_before t (union Before (map f ss)) ≡ total (λ s. count_before t (f s)) ss
  union_count t falls f up [] = refl
  union_count t falls f up (s ∷ ss) = merge_count t falls (f s) (union Before (map f ss)) (up s) ∙ ap (λ n. count_before t (f s) + n) (union_count t falls f up ss)

  pub union_length : {S : Type 0} (f : S → List A) → ((s : S) → ascends Before (f s) ≡ true) → (ss : List S) → length (union Before (map f ss)) ≡ total (λ s. length (f s)) ss
  union_length f up ss =
      sym (count_all (union Before (map f ss))) ∙ union_count (λ x. true) (λ x y e h. refl) f up ss
      ∙ total_each (λ s. count_before (λ x. true) (f s)) (λ s. length (f s)) ss (λ k d h. count_all (f (get_or ss k d)))

  -- an item of a list that is taken, and those before it
  pub count_beyond : (t : A → Bool) → Falls o t → (xs : List A) → ascends Before xs ≡ true → (i : ℕ) (x : A) → slice_get xs i ≡ Some x → t x ≡ true → i < count_before t xs
  count_beyond t falls [] up i x e h = cc
  count_beyond t falls (y ∷ ys) up zero x e h = let g : y ≡ x = cc in rw (g, h) (omega arith)
  count_beyond t falls (y ∷ ys) up (suc i) x e h =
      let first = falls x y h (lt_back o y x (ascends_first o y ys up x (slice_among ys i x e))) in
      let ih = count_beyond t falls ys (ascends_tail Before y ys up) i x e h in
      rw first (omega arith)

  -- what stands before a gap of a list
  abbrev pub gap_test : List A → ℕ → A → Bool
  gap_test us g x = option_map_or (λ u. is_lt (cmp x u)) (slice_get us g) true

  pub gap_falls : (us : List A) (g : ℕ) → Falls o (gap_test us g)
  gap_falls us g x y = go (slice_get us g)
    where
      go : (p : Option A) → option_map_or (λ u. is_lt (cmp x u)) p true ≡ true → is_lt (cmp x y) ≡ false → option_map_or (λ u. is_lt (cmp y u)) p true ≡ true
      go None e h = refl
      go (Some u) e h = ge_lt o y x u h e

  gap_first : (x : A) (xs : List A) → ascends Before (x ∷ xs) ≡ true → (g : ℕ) → gap_test xs g x ≡ true
  gap_first x xs up g = go (slice_get xs g) refl
    where
      go : (p : Option A) → slice_get xs g ≡ p → option_map_or (λ u. is_lt (cmp x u)) p true ≡ true
      go None e = refl
      go (Some u) e = ascends_first o x xs up u (slice_among xs g u e)

  pub gap_count : (us : List A) → ascends Before us ≡ true → (g : ℕ) → g ≤ length us → count_before (gap_test us g) us ≡ g
  gap_count [] up g le = omega arith
  gap_count (x ∷ xs) up zero le = rw (lt_itself o x) refl
  gap_count (x ∷ xs) up (suc g) le =
      let ih = gap_count xs (ascends_tail Before x xs up) g (omega arith) in
      rw (gap_first x xs up g) (omega (arith, ih))

  -- the gaps before an item and behind it
  pub gap_at : (us : List A) → ascends Before us ≡ true → (g : ℕ) (x : A) → slice_get us g ≡ Some x → (gap_test us g x ≡ false) × (gap_test us (suc g) x ≡ true)
  gap_at [] up g x e = cc
  gap_at (y ∷ ys) up zero x e = let same : x ≡ y = cc in rw same (lt_itself o y, gap_first y ys up 0)
  gap_at (y ∷ ys) up (suc g) x e = gap_at ys (ascends_tail Before y ys up) g x e

  gap_rise : (us : List A) → ascends Before us ≡ true → (g h : ℕ) → g ≤ h → (x : A) → gap_test us g x ≡ true → gap_test us h x ≡ true
  gap_rise [] up g h le x e = refl
  gap_rise (y ∷ ys) up zero zero le x e = e
  gap_rise (y ∷ ys) up zero (suc h) le x e = gap_falls ys h y x (gap_first y ys up h) (lt_back o x y e)
  gap_rise (y ∷ ys) up (suc g) zero le x e = absurd (omega arith)
  gap_rise (y ∷ ys) up (suc g) (suc h) le x e = gap_rise ys (ascends_tail Before y ys up) g h (omega arith) x e

  -- further on, no fewer stand before the gap
  pub gap_more : (us : List A) → ascends Before us ≡ true → (g h : ℕ) → g ≤ h → (xs : List A) → count_before (gap_test us g) xs ≤ count_before (gap_test us h) xs
  gap_more us up g h le xs = count_rises (gap_test us g) (gap_test us h) xs (gap_rise us up g h le)

  -- the cut of a test that falls is the gap behind what it takes
  pub cut_is_gap : (t : A → Bool) → Falls o t → (us : List A) → ascends Before us ≡ true → (y : A) → Among y us → t y ≡ gap_test us (count_before t us) y
  cut_is_gap t falls [] up y m = absurd m
  cut_is_gap t falls (x ∷ xs) up y m = go (t x) refl m (cut_is_gap t falls xs (ascends_tail Before x xs up) y)
    where
      go : (b : Bool) → t x ≡ b → Among y (x ∷ xs) → (Among y xs → t y ≡ gap_test xs (count_before t xs) y) → t y ≡ gap_test (x ∷ xs) (cond b (count_before t xs + 1) 0) y
      go true e (inl f) ih = rw (f, e, add-one) (sym (gap_first x xs up (count_before t xs)))
      go true e (inr n) ih = rw add-one (ih n)
      go false e (inl f) ih = rw (f, e) (sym (lt_itself o x))
      go false e (inr n) ih =
          let back = lt_back o x y (ascends_first o x xs up y n) in
          false_from_ne_true (t y) (λ q. true≢false (sym (falls y x q back) ∙ e)) ∙ sym back
