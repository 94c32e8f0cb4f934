-- Places among the items that pass a test.
use Rattle.std.proofs.Common.{◌≡◌, ℕ, zero, suc, ◌+◌, ◌<◌, ◌≤◌, Bool, true, false, cond, List, [], ◌∷◌, length, drop, filter, Some, IfSome, slice_get, refl, ap, ◌∙◌, ◌⊎◌, inl, inr, arith, add-one, add-zero}
use Rattle.std.specs.List.Sorted.{IsPartitionedBy}
use Rattle.std.proofs.lemmas.Bool.{cases_Bool}
use Rattle.std.proofs.lemmas.List.Filters.{length-filter_more}
use Rattle.std.proofs.lemmas.Option.{slice_get_within, get_or_from_slice_get}
use Rattle.rk_model.specs.Cuts.{count_before}
use Rattle.rk_model.proofs.Clips.{get_drop}
use Rattle.rk_pointmerge.specs.Visibles.{place_of, count_to}

module _ {A : Type 0} (p : A → Bool) where
  -- one item more
  count_more : (xs : List A) (g : ℕ) (e : A) → slice_get xs g ≡ Some e → count_to p xs (suc g) ≡ count_to p xs g + cond (p e) 1 0
  count_more xs g e at = rw (add-one g, get_or_from_slice_get xs g e e at) at (length-filter_more p xs g e (slice_get_within xs g e at))

  pub count_passed : (xs : List A) (g : ℕ) (e : A) → slice_get xs g ≡ Some e → p e ≡ true → count_to p xs (suc g) ≡ suc (count_to p xs g)
  count_passed xs g e at pass = let more = rw pass at (count_more xs g e at) in omega arith

  pub count_failed : (xs : List A) (g : ℕ) (e : A) → slice_get xs g ≡ Some e → p e ≡ false → count_to p xs (suc g) ≡ count_to p xs g
  count_failed xs g e at fail = let more = rw fail at (count_more xs g e at) in omega arith

  -- the place of as many as before a gap is the first behind it that passes
  place_over : (x : A) (xs : List A) (v : ℕ) → p x ≡ false → place_of p (x ∷ xs) v ≡ suc (place_of p xs v)
  place_over x xs zero q = rw q refl
  place_over x xs (suc v) q = rw q refl

  place_on : (xs : List A) (g : ℕ) → g ≤ length xs → place_of p xs (count_to p xs g) ≡ g + place_of p (drop g xs) 0
  place_on xs zero h = omega arith
  place_on [] (suc g) h = absurd (omega arith)
  place_on (x ∷ xs) (suc g) h = let ih = place_on xs g (omega arith) in elim (cases_Bool (p x)) [ inl q ↦ rw (q, q) (omega arith) | inr q ↦ rw (q, place_over x xs (count_to p xs g) q) (omega arith) ]

  pub place_above : (xs : List A) (g : ℕ) → g ≤ length xs → g ≤ place_of p xs (count_to p xs g)
  place_above xs g h = let on = place_on xs g h in omega arith

  -- an item that passes is the one that has those before it, and so is the end
  pub place_seen : (xs : List A) (g : ℕ) → g ≤ length xs → IfSome (slice_get xs g) (λ e. p e ≡ true) → place_of p xs (count_to p xs g) ≡ g
  place_seen xs g h seen = place_on xs g h ∙ go (drop g xs) (rw (get_drop g 0 xs, add-zero g) seen)
    where
      go : (ys : List A) → IfSome (slice_get ys 0) (λ e. p e ≡ true) → g + place_of p ys 0 ≡ g
      go [] w = omega arith
      go (y ∷ ys) w = rw w (omega arith)

  -- what stands there is the item that the filter has
  pub place_item : (xs : List A) (v : ℕ) → slice_get (filter p xs) v ≡ slice_get xs (place_of p xs v)
  place_item [] v = refl
  place_item (x ∷ xs) zero = elim (cases_Bool (p x)) [ inl q ↦ rw q refl | inr q ↦ rw q (place_item xs 0) ]
  place_item (x ∷ xs) (suc v) = elim (cases_Bool (p x)) [ inl q ↦ rw q (place_item xs v) | inr q ↦ rw q (place_item xs (suc v)) ]

  -- a place of fewer is lower than the gap
  pub place_below : (xs : List A) (g v : ℕ) → v < count_to p xs g → place_of p xs v < g
  place_below xs zero v h = absurd (omega arith)
  place_below [] (suc g) v h = absurd (omega arith)
  place_below (x ∷ xs) (suc g) zero h = elim (cases_Bool (p x)) [ inl q ↦ rw q (omega arith) | inr q ↦ rw q (omega (arith, place_below xs g 0 (rw q at h))) ]
  place_below (x ∷ xs) (suc g) (suc v) h = elim (cases_Bool (p x)) [ inl q ↦ rw q (omega (arith, place_below xs g v (let k = rw q at h in omega arith))) | inr q ↦ rw q (omega (arith, place_below xs g (suc v) (rw q at h))) ]

  -- a cut of the list cuts what passes
  none_taken : (t : A → Bool) (x : A) (xs : List A) → IsPartitionedBy t (x ∷ xs) → t x ≡ false → count_before t xs ≡ 0
  none_taken t x [] first q = refl
  none_taken t x (y ∷ ys) first q = elim (cases_Bool (t y)) [ inl r ↦ let taken : t x ≡ true = first 0 1 x (omega arith) (omega arith) r in cc | inr r ↦ rw r refl ]

  pub count_cut : (t : A → Bool) (xs : List A) → IsPartitionedBy t xs → count_before t (filter p xs) ≡ count_to p xs (count_before t xs)
  count_cut t [] first = refl
  count_cut t (x ∷ xs) first = go (cases_Bool (t x)) (cases_Bool (p x)) (count_cut t xs (λ i j d low high. first (suc i) (suc j) d (omega arith) (omega arith)))
    where
      go : (t x ≡ true) ⊎ (t x ≡ false) → (p x ≡ true) ⊎ (p x ≡ false) → count_before t (filter p xs) ≡ count_to p xs (count_before t xs) → count_before t (filter p (x ∷ xs)) ≡ count_to p (x ∷ xs) (count_before t (x ∷ xs))
      go (inl q) (inl r) ih = rw (r, q, add-one (count_before t xs), r) (omega arith)
      go (inl q) (inr r) ih = rw (r, q, add-one (count_before t xs), r) ih
      go (inr q) (inl r) ih = rw (r, q) refl
      go (inr q) (inr r) ih = rw (r, q) (ih ∙ ap (count_to p xs) (none_taken t x xs first q))
