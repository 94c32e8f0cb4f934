-- The laws of a merge as a source.
use Rattle.std.specs.Prelude.{◌≡◌, ◌+◌, ◌≤◌, Bool, true, false, not, List, [], ◌∷◌, length, map, Option, Some, None, if◌then◌else◌, IfSome, IsTrue, refl}
use Rattle.std.proofs.Common.{arith}
use Rattle.rk_model.specs.Cuts.{count_before, item_from}
use Rattle.rk_model.specs.ItemLaws.{spans-extents}
use Rattle.rk_model.specs.Items.{span_beside, keyed_extents, keyed_spans, sound}
use Rattle.rk_model.specs.ListingLaws.{of_sound}
use Rattle.rk_model.specs.Standings.{Listing, Standing, IsTold, WalksRise, IsFree}
use Rattle.rk_model.specs.declared.span.Span.{Span}
use Rattle.rk_merge.specs.Pools.{all_told}
use Rattle.rk_spanmerge.specs.Merges.{Merging, united, merged, merged_gap, merged_here, merged_standing, gap_from, left_end, cut_spans, pooled}

sorted_if : (b : Bool) (ss : List Span) → IfSome (if b then sound keyed_spans ss else None) (λ xs. IsTrue (keyed_extents xs))
sorted_if true ss = of_sound keyed_spans ss (λ xs. IsTrue (keyed_extents xs)) (spans-extents ss)
sorted_if false ss = tt

pub united-ordered : (ls : List (Listing Span)) → IfSome (united ls) (λ xs. IsTrue (keyed_extents xs))
united-ordered ls = sorted_if (all_told ls) (cut_spans (pooled ls))

count_within : (t : Span → Bool) (xs : List Span) → count_before t xs ≤ length xs
count_within t [] = omega arith
count_within t (x ∷ xs) = go (t x) (count_within t xs)
  where
    go : (b : Bool) → count_before t xs ≤ length xs → (if b then count_before t xs + 1 else 0) ≤ length (x ∷ xs)
    go true h = omega arith
    go false h = omega arith

gap_within : (forward : Bool) (xs : List Span) (c : Option Span) → gap_from forward xs c ≤ length xs
gap_within true xs None = omega arith
gap_within false xs None = omega arith
gap_within forward xs (Some c) = count_within (span_beside forward (left_end (not forward) c)) xs

pub merged-told : {S : Type 0} (listing : S → Listing Span) (standing : S → Standing Span) (m : Merging S) → IsTold (merged (map listing m.sources)) (merged_standing listing standing m)
merged-told listing standing m = go (united (map listing m.sources)) m.known
  where
    within : (u : Option (List Span)) (b : Bool) → IfSome u (λ xs. IfSome (if b then Some (merged_gap u m.forward m.current) else None) (λ g. g ≤ length xs))
    within None b = tt
    within (Some xs) true = gap_within m.forward xs m.current
    within (Some xs) false = tt

    shown : (u : Option (List Span)) (b : Bool) → IfSome u (λ xs. IfSome (if b then Some (merged_gap u m.forward m.current) else None) (λ g. (if b then merged_here u m.forward m.current else None) ≡ item_from m.forward xs g))
    shown None b = tt
    shown (Some xs) true = refl
    shown (Some xs) false = tt

    lost : (u : Option (List Span)) (b : Bool) → (if b then Some (merged_gap u m.forward m.current) else None) ≡ None → (if b then merged_here u m.forward m.current else None) ≡ None
    lost u true e = cc
    lost u false e = refl

    go : (u : Option (List Span)) (b : Bool) → IsTold (record (merged (map listing m.sources)) { held = u }) (record (merged_standing listing standing m) { gap = if b then Some (merged_gap u m.forward m.current) else None; here = if b then merged_here u m.forward m.current else None })
    go u b = record { within = within u b; shown = shown u b; lost = lost u b }

pub merged-rise : (ls : List (Listing Span)) → WalksRise (merged ls)
merged-rise ls = record { forward = λ told g h le. omega arith; backward = λ told g h le. omega arith }

pub merged-free : (ls : List (Listing Span)) → IsFree (merged ls)
merged-free ls = record { seek = λ forward cut. refl; walk = λ forward g. refl; turn = λ forward g. refl }
