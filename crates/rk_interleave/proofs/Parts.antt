-- The points within the bounds, and what stands behind a gap once the sources are placed.
use Rattle.std.proofs.Common.{◌≡◌, ℕ, ◌+◌, ◌-◌, ◌<◌, ◌≤◌, Bool, true, false, not, List, take, Option, Some, None, refl, sym, ap, ◌∙◌, ◌⊎◌, inl, inr, arith}
use Rattle.std.specs.Prelude.{IsTrue}
use Rattle.std.specs.List.{slice_get}
use Rattle.std.specs.List.Sorted.{IsPartitionedBy}
use Rattle.std.proofs.lemmas.Bool.{cases_lt, and_parts, and_from}
use Rattle.rk_model.specs.Cuts.{count_before, is_passed, gap_past}
use Rattle.rk_model.specs.Items.{point_takes, keyed_points}
use Rattle.rk_model.specs.ItemLaws.{points-first}
use Rattle.rk_model.specs.Lists.{Among}
use Rattle.rk_model.specs.Searches.{not_false}
use Rattle.rk_model.specs.Sources.{op_key}
use Rattle.rk_model.specs.Spans.{at_or_above, below, in_bounds}
use Rattle.rk_model.specs.declared.op.Entry.{Entry}
use Rattle.rk_model.specs.declared.options.IterOptions.{IterOptions}
use Rattle.rk_model.specs.declared.cut.Cut.{Cut}
use Rattle.rk_model.proofs.Clips.{get_drop, get_take, none_beyond}
use Rattle.rk_model.proofs.Gaps.{taken_before, before_taken, behind_untaken}
use Rattle.rk_sources.specs.Bounds.{lower_cut, upper_cut, lows, highs, between}
use Rattle.rk_interleave.specs.Settling.{IsAhead, IsBehind}
use Rattle.rk_interleave.proofs.Orders.{Rises, among_get}

-- what a cut's gap leaves behind is passed, and what it has ahead is not
pub cut_behind : {A : Type 0} (forward : Bool) (takes : A → Bool) (xs : List A) (i : ℕ) (x : A) → IsPartitionedBy takes xs → slice_get xs i ≡ Some x → IsBehind forward (count_before takes xs) i → is_passed forward (takes x) ≡ true
cut_behind true takes xs i x parted is behind = taken_before takes xs i x is behind
cut_behind false takes xs i x parted is behind = go (takes x) refl
  where
    go : (b : Bool) → takes x ≡ b → not b ≡ true
    go true e = absurd (omega (arith, behind, before_taken takes xs i x parted is e))
    go false e = refl

pub cut_ahead : {A : Type 0} (forward : Bool) (takes : A → Bool) (xs : List A) (i : ℕ) (x : A) → IsPartitionedBy takes xs → slice_get xs i ≡ Some x → IsAhead forward (count_before takes xs) i → is_passed forward (takes x) ≡ false
cut_ahead true takes xs i x parted is ahead = go (takes x) refl
  where
    go : (b : Bool) → takes x ≡ b → b ≡ false
    go true e = absurd (omega (arith, ahead, before_taken takes xs i x parted is e))
    go false e = refl
cut_ahead false takes xs i x parted is ahead = ap not (taken_before takes xs i x is ahead)

-- behind the farther of two gaps stands what is behind one of them, and ahead of it what is ahead of both
pub past_behind : (forward : Bool) (cut g i : ℕ) → IsBehind forward (gap_past forward cut g) i → IsBehind forward cut i ⊎ IsBehind forward g i
past_behind true cut g i behind = go (cases_lt i cut)
  where
    go : (i < cut) ⊎ (cut ≤ i) → (i < cut) ⊎ (i < g)
    go (inl lt) = inl lt
    go (inr ge) = inr (omega (arith, behind, ge))
past_behind false cut g i behind = go (cases_lt i cut)
  where
    go : (i < cut) ⊎ (cut ≤ i) → (cut ≤ i) ⊎ (g ≤ i)
    go (inl lt) = inr (omega (arith, behind, lt))
    go (inr ge) = inl ge

pub past_ahead : (forward : Bool) (cut g i : ℕ) → IsAhead forward (gap_past forward cut g) i → IsAhead forward cut i
past_ahead true cut g i ahead = omega (arith, ahead)
past_ahead false cut g i ahead = omega (arith, ahead)

-- the points within the bounds are of the list, and all of them that are
pub record IsPart (o : IterOptions) (ps xs : List Entry) : Type 0 where
  pub of : (i : ℕ) (e : Entry) → slice_get xs i ≡ Some e → (j : ℕ) × ((slice_get ps j ≡ Some e) × (in_bounds o (op_key e.op) ≡ true))
  pub all : (e : Entry) → Among e ps → in_bounds o (op_key e.op) ≡ true → (i : ℕ) × (slice_get xs i ≡ Some e)

lower_is : (lower : Option (List ℕ)) (e : Entry) → at_or_above lower (op_key e.op) ≡ not (point_takes (lower_cut lower) e)
lower_is None e = refl
lower_is (Some l) e = refl

upper_is : (upper : Option (List ℕ)) (e : Entry) → below upper (op_key e.op) ≡ point_takes (upper_cut upper) e
upper_is None e = refl
upper_is (Some u) e = refl

abbrev takes : Bool → Cut (List ℕ) → Entry → Bool
takes forward cut e = point_takes cut e

pub part_of : (o : IterOptions) (ps : List Entry) → IsTrue (keyed_points ps) → IsPart o ps (between takes o.lower o.upper ps)
part_of o ps keyed = record { of = of; all = all }
  where
    lo : ℕ
    lo = lows takes o.lower ps

    hi : ℕ
    hi = highs takes o.upper ps

    of : (i : ℕ) (e : Entry) → slice_get (between takes o.lower o.upper ps) i ≡ Some e → (j : ℕ) × ((slice_get ps j ≡ Some e) × (in_bounds o (op_key e.op) ≡ true))
    of i e is = go (cases_lt (lo + i) hi)
      where
        at : slice_get (take hi ps) (lo + i) ≡ Some e
        at = sym (get_drop lo i (take hi ps)) ∙ is

        go : (lo + i < hi) ⊎ (hi ≤ lo + i) → (j : ℕ) × ((slice_get ps j ≡ Some e) × (in_bounds o (op_key e.op) ≡ true))
        go (inl lt) =
            let there : slice_get ps (lo + i) ≡ Some e = sym (get_take hi (lo + i) ps lt) ∙ at in
            let low = cut_ahead true (point_takes (lower_cut o.lower)) ps (lo + i) e (points-first (lower_cut o.lower) ps keyed) there (omega arith) in
            let high = taken_before (point_takes (upper_cut o.upper)) ps (lo + i) e there lt in
            (lo + i, (there, and_from _ _ (lower_is o.lower e ∙ ap not low) (upper_is o.upper e ∙ high)))
        go (inr ge) = let none = sym (none_beyond hi (lo + i) ps ge) ∙ at in cc

    all : (e : Entry) → Among e ps → in_bounds o (op_key e.op) ≡ true → (i : ℕ) × (slice_get (between takes o.lower o.upper ps) i ≡ Some e)
    all e among inside =
        let (j, at) = among_get ps e among in
        let parts = and_parts (at_or_above o.lower (op_key e.op)) _ inside in
        let low : lo ≤ j = behind_untaken (point_takes (lower_cut o.lower)) ps j e at (not_false _ (sym (lower_is o.lower e) ∙ parts.0)) in
        let high : j < hi = before_taken (point_takes (upper_cut o.upper)) ps j e (points-first (upper_cut o.upper) ps keyed) at (sym (upper_is o.upper e) ∙ parts.1) in
        let place : lo + (j - lo) ≡ j = omega (arith, low) in
        (j - lo, get_drop lo (j - lo) (take hi ps) ∙ ap (slice_get (take hi ps)) place ∙ get_take hi j ps high ∙ at)

-- points of which no two have one key rise within the bounds too
pub part_rises : (o : IterOptions) (ps : List Entry) (before : Entry → Entry → Bool) → Rises before ps → Rises before (between takes o.lower o.upper ps)
part_rises o ps before rise i j x y lt is at = rise (lo + i) (lo + j) x y (omega (arith, lt)) (up i x is) (up j y at)
  where
    lo : ℕ
    lo = lows takes o.lower ps

    hi : ℕ
    hi = highs takes o.upper ps

    up : (k : ℕ) (z : Entry) → slice_get (between takes o.lower o.upper ps) k ≡ Some z → slice_get ps (lo + k) ≡ Some z
    up k z here = go (cases_lt (lo + k) hi)
      where
        at' : slice_get (take hi ps) (lo + k) ≡ Some z
        at' = sym (get_drop lo k (take hi ps)) ∙ here

        go : (lo + k < hi) ⊎ (hi ≤ lo + k) → slice_get ps (lo + k) ≡ Some z
        go (inl less) = sym (get_take hi (lo + k) ps less) ∙ at'
        go (inr ge) = let none = sym (none_beyond hi (lo + k) ps ge) ∙ at' in cc
