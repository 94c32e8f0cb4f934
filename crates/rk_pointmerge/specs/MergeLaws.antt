-- The laws of a merge as a source, and how many entries of each source stand before a gap of the union.
use Rattle.std.proofs.Common.{◌≡◌, ℕ, zero, suc, ◌<◌, ◌≤◌, length, get_or, map, Bool, true, false, List, [], ◌∷◌, Option, Some, None, is_some, slice_get, refl, ap, sym, ◌∙◌, arith}
use Rattle.std.specs.Prelude.{IsTrue, IfSome, unwrap_or, if◌then◌else◌}
use Rattle.std.specs.Option.{option_map_or}
use Rattle.std.specs.Ordering.{is_lt}
use Rattle.rk_model.specs.Cuts.{count_before, item_from}
use Rattle.rk_model.specs.Items.{keyed_points}
use Rattle.rk_model.specs.Sources.{ascends, entry_cmp}
use Rattle.rk_model.specs.Standings.{Listing, Standing, IsTold, WalksRise}
use Rattle.rk_model.specs.declared.op.Entry.{Entry}
use Rattle.rk_merge.specs.Unions.{union}
use Rattle.rk_merge.specs.Pools.{total, told_items, all_told}
use Rattle.rk_merge.proofs.Counts.{count_all, union_count, union_length, gap_test, gap_falls, gap_count, gap_more}
use Rattle.rk_merge.proofs.Lists.{and_parts}
use Rattle.rk_model.proofs.Orders.{entry_total}
use Rattle.rk_merge.proofs.Totals.{total_le, total_map}
use Rattle.rk_pointmerge.specs.Merges.{comes_before, whole, united, share, merged, come, shown, seen_from, merged_standing}

pub united-sound : (ls : List (Listing Entry)) (us : List Entry) → united ls ≡ Some us → (all_told ls ≡ true) × (us ≡ whole ls) × (keyed_points us ≡ true)
united-sound ls us = go (all_told ls) (keyed_points (whole ls)) refl
  where
    go : (b c : Bool) → keyed_points (whole ls) ≡ c → (if b then (if c then Some (whole ls) else None) else None) ≡ Some us → (b ≡ true) × (us ≡ whole ls) × (keyed_points us ≡ true)
    go true true q e = let same : us ≡ whole ls = cc in (refl, same, ap keyed_points same ∙ q)
    go true false q e = cc
    go false c q e = cc

pub merged-ordered : (ls : List (Listing Entry)) → IfSome (united ls) (λ xs. IsTrue (keyed_points xs))
merged-ordered ls = go (united ls) refl
  where
    go : (p : Option (List Entry)) → united ls ≡ p → IfSome p (λ xs. IsTrue (keyed_points xs))
    go None e = tt
    go (Some us) e = (united-sound ls us e).2

pub united_told : (ls : List (Listing Entry)) → is_some (united ls) ≡ true → all_told ls ≡ true
united_told ls = go (united ls) refl
  where
    go : (p : Option (List Entry)) → united ls ≡ p → is_some p ≡ true → all_told ls ≡ true
    go None e h = cc
    go (Some us) e h = (united-sound ls us e).0

-- how many stand before a gap
pub share_is : (us : List Entry) (g : ℕ) (xs : List Entry) → share us g xs ≡ count_before (gap_test entry_total us g) xs
share_is us g xs = go (slice_get us g)
  where
    go : (p : Option Entry) → option_map_or (λ u. count_before (λ x. comes_before x u) xs) p (length xs) ≡ count_before (λ x. option_map_or (λ u. is_lt (entry_cmp x u)) p true) xs
    go None = sym (count_all xs)
    go (Some u) = refl

pub share_rise : (us : List Entry) → ascends comes_before us ≡ true → (g h : ℕ) → g ≤ h → (xs : List Entry) → share us g xs ≤ share us h xs
share_rise us up g h le xs = rw (share_is us g xs, share_is us h xs) (gap_more entry_total us up g h le xs)

keyed_ascends : (xs : List Entry) → keyed_points xs ≡ true → ascends comes_before xs ≡ true
keyed_ascends xs e = (and_parts _ _ (and_parts _ _ e).0).1

module _ {S : Type 0} (listing : S → Listing Entry) where
  pub told_at : (ss : List S) (k : ℕ) (d : S) → k < length ss → all_told (map listing ss) ≡ true → is_some (listing (get_or ss k d)).held ≡ true
  told_at [] k d h all = absurd (omega arith)
  told_at (s ∷ ss) zero d h all = (and_parts _ _ all).0
  told_at (s ∷ ss) (suc k) d h all = told_at ss k d (omega arith) (and_parts (is_some (listing s).held) _ all).1

  abbrev pub items : S → List Entry
  items s = told_items (listing s)

  whole_is : (ss : List S) → whole (map listing ss) ≡ union comes_before (map items ss)
  whole_is ss = ap (union comes_before) (maps ss)
    where
      maps : (ss : List S) → map told_items (map listing ss) ≡ map items ss
      maps [] = refl
      maps (s ∷ ss) = ap (λ xss. items s ∷ xss) (maps ss)

  -- the union, where it is told
  pub record Unites (ss : List S) (us : List Entry) : Type 0 where
    pub all : all_told (map listing ss) ≡ true
    pub whole : us ≡ whole (map listing ss)
    pub is : us ≡ union comes_before (map items ss)
    pub up : ascends comes_before us ≡ true

  pub unites : (ss : List S) (us : List Entry) → united (map listing ss) ≡ Some us → Unites ss us
  unites ss us e = let s = united-sound (map listing ss) us e in record { all = s.0; whole = s.1; is = s.1 ∙ whole_is ss; up = keyed_ascends us s.2 }

  module _ (ordered : (s : S) → IfSome (listing s).held (λ xs. IsTrue (keyed_points xs))) where
    pub items_up : (s : S) → ascends comes_before (items s) ≡ true
    items_up s = go (listing s).held (ordered s)
      where
        go : (p : Option (List Entry)) → IfSome p (λ xs. IsTrue (keyed_points xs)) → ascends comes_before (unwrap_or p []) ≡ true
        go None h = refl
        go (Some xs) h = keyed_ascends xs h

    -- together they are as many as stand before the gap
    pub shares_sum : (ss : List S) (us : List Entry) → Unites ss us → (g : ℕ) → g ≤ length us → total (λ s. share us g (items s)) ss ≡ g
    shares_sum ss us u g le = shares ss ∙ sym (union_count entry_total (gap_test entry_total us g) (gap_falls entry_total us g) items items_up ss) ∙ ap (count_before (gap_test entry_total us g)) (sym u.is) ∙ gap_count entry_total us u.up g le
      where
        shares : (ss : List S) → total (λ s. share us g (items s)) ss ≡ total (λ s. count_before (gap_test entry_total us g) (items s)) ss
        shares [] = refl
        shares (s ∷ ss) = let a = share_is us g (items s) in let b = shares ss in rw (a, b) refl

    pub merged-rise : ((s : S) → WalksRise (listing s)) → (ss : List S) → WalksRise (merged (map listing ss))
    merged-rise rise ss = record {
      forward = λ told g h le. let all = united_told (map listing ss) told in on told (λ l g. l.walk_price true g) g h (λ k d short. (rise (get_or ss k d)).forward (told_at ss k d short all) _ _ (up told g h le (items (get_or ss k d))));
      backward = λ told g h le. let all = united_told (map listing ss) told in on told (λ l g. l.walk_price false g) h g (λ k d short. (rise (get_or ss k d)).backward (told_at ss k d short all) _ _ (up told g h le (items (get_or ss k d))));
    }
      where
        us : List Entry
        us = whole (map listing ss)

        up : IsTrue (is_some (united (map listing ss))) → (g h : ℕ) → g ≤ h → (xs : List Entry) → share us g xs ≤ share us h xs
        up told = go (united (map listing ss)) refl told
          where
            go : (p : Option (List Entry)) → united (map listing ss) ≡ p → is_some p ≡ true → (g h : ℕ) → g ≤ h → (xs : List Entry) → share us g xs ≤ share us h xs
            go None e t = cc
            go (Some vs) e t = let u = unites ss vs e in share_rise us (ap (ascends comes_before) (sym u.whole) ∙ u.up)

        on : IsTrue (is_some (united (map listing ss))) → (price : Listing Entry → ℕ → ℕ) (g h : ℕ) → ((k : ℕ) (d : S) → k < length ss → price (listing (get_or ss k d)) (share us g (items (get_or ss k d))) ≤ price (listing (get_or ss k d)) (share us h (items (get_or ss k d))))
            → total (λ l. price l (share us g (told_items l))) (map listing ss) ≤ total (λ l. price l (share us h (told_items l))) (map listing ss)
        on told price g h le = rw (total_map (λ l. price l (share us g (told_items l))) listing ss, total_map (λ l. price l (share us h (told_items l))) listing ss) (total_le _ _ ss ss refl le)

    module _ (standing : S → Standing Entry) (told : (s : S) → IsTold (listing s) (standing s)) where
      pub come_within : (ss : List S) (us : List Entry) → Unites ss us → come standing ss ≤ length us
      come_within ss us u =
          let len = union_length entry_total items items_up ss in
          let le = total_le (λ s. unwrap_or (standing s).gap 0) (λ s. length (items s)) ss ss refl (λ k d h. one (get_or ss k d) (told_at ss k d h u.all)) in
          rw (u.is) (omega (arith, len, le))
        where
          one : (s : S) → is_some (listing s).held ≡ true → unwrap_or (standing s).gap 0 ≤ length (items s)
          one s t = go (listing s).held (standing s).gap t (told s).within
            where
              go : (p : Option (List Entry)) (q : Option ℕ) → is_some p ≡ true → IfSome p (λ xs. IfSome q (λ g. g ≤ length xs)) → unwrap_or q 0 ≤ length (unwrap_or p [])
              go None q t h = cc
              go (Some xs) None t h = omega arith
              go (Some xs) (Some g) t h = h

      pub merged-told : (ss : List S) (at : Option ℕ) (forward known : Bool) → IsTold (merged (map listing ss)) (merged_standing listing standing ss at forward known)
      merged-told ss at forward known = record { within = within known; shown = there (united (map listing ss)) known; lost = lost known }
        where
          within : (b : Bool) → IfSome (united (map listing ss)) (λ xs. IfSome (if b then Some (come standing ss) else None) (λ g. g ≤ length xs))
          within b = go (united (map listing ss)) refl b
            where
              go : (p : Option (List Entry)) → united (map listing ss) ≡ p → (b : Bool) → IfSome p (λ xs. IfSome (if b then Some (come standing ss) else None) (λ g. g ≤ length xs))
              go None e b = tt
              go (Some us) e true = come_within ss us (unites ss us e)
              go (Some us) e false = tt

          there : (p : Option (List Entry)) (b : Bool) → IfSome p (λ xs. IfSome (if b then Some (come standing ss) else None) (λ g. (if b then seen_from p forward (come standing ss) (shown standing ss at) else None) ≡ item_from forward xs g))
          there None b = tt
          there (Some us) true = refl
          there (Some us) false = tt

          lost : (b : Bool) → (if b then Some (come standing ss) else None) ≡ None → (if b then seen_from (united (map listing ss)) forward (come standing ss) (shown standing ss at) else None) ≡ None
          lost true e = cc
          lost false e = refl
