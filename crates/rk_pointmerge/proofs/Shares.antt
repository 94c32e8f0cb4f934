-- Sources that stand at their shares of a gap of the union.
use Rattle.std.proofs.Common.{◌≡◌, ◌≢◌, ℕ, zero, suc, ◌-◌, ◌<◌, ◌≤◌, length, get_or, map, max, min, Bool, true, false, List, [], ◌∷◌, Option, Some, None, is_some, refl, ap, sym, ◌∙◌, ◌⊎◌, inl, inr, arith, add-one, IsTrue, IfSome, unwrap_or}
use Rattle.std.proofs.lemmas.Bool.{cases_lt}
use Rattle.std.proofs.lemmas.Option.{slice_get_within}
use Rattle.rk_model.specs.Cuts.{count_before, item_from, gap_on, gap_past}
use Rattle.rk_model.specs.Items.{keyed_points}
use Rattle.rk_model.specs.Standings.{Listing, Standing, IsTold}
use Rattle.rk_model.specs.declared.op.Entry.{Entry}
use Rattle.rk_model.proofs.Gaps.{behind_untaken}
use Rattle.rk_model.proofs.Orders.{entry_total}
use Rattle.rk_merge.specs.Unions.{Among}
use Rattle.rk_merge.specs.Cuts.{near_cut, is_beyond, is_nearer}
use Rattle.rk_merge.proofs.Counts.{count_agree, count_beyond, from_cut, gap_test, gap_falls, gap_count, gap_at, cut_is_gap}
use Rattle.rk_merge.proofs.Lists.{pick}
use Rattle.rk_merge.proofs.Nears.{Falls, near_is, near_best, near_from, not_nearer}
use Rattle.rk_merge.proofs.Totals.{total_each, total_rest, total_two}
use Rattle.rk_merge.proofs.Unions.{union_from, union_to}
use Rattle.rk_pointmerge.specs.Merges.{comes_before, united, share, come, shown, seen_from, beats, Faces, IsNearest, StandTogether}
use Rattle.rk_pointmerge.specs.MergeLaws.{items, Unites, unites, items_up, shares_sum, share_is, share_rise, told_at, come_within}
use Rattle.rk_pointmerge.proofs.Calls.{some_gives}

-- a source at a gap of a list that is told sees what is there
pub told_shows : (l : Listing Entry) (s : Standing Entry) (g : ℕ) → IsTold l s → is_some l.held ≡ true → s.gap ≡ Some g → s.here ≡ item_from s.forward (unwrap_or l.held []) g
told_shows l s g told t e = let h = some_gives l.held t in rw h.1 (rw (h.1, e) at told.shown)

-- fewer stand before an item that isn't taken
below_seen : (t : Entry → Bool) (xs : List Entry) (n : ℕ) (x : Entry) → item_from false xs n ≡ Some x → t x ≡ false → count_before t xs < n
below_seen t xs zero x is untaken = cc
below_seen t xs (suc n) x is untaken = let le = behind_untaken t xs n x is untaken in omega arith

-- the further of two shares is that of the further gap
pub past_share : (us : List Entry) (forward : Bool) (c g : ℕ) (xs : List Entry) → ((g h : ℕ) → g ≤ h → share us g xs ≤ share us h xs) → gap_past forward (share us c xs) (share us g xs) ≡ share us (gap_past forward c g) xs
past_share us forward c g xs rise = go (cases_lt c g) forward
  where
    go : (c < g) ⊎ (g ≤ c) → (b : Bool) → gap_past b (share us c xs) (share us g xs) ≡ share us (gap_past b c g) xs
    go (inl h) true = let e : max c g ≡ g = omega arith in let le = rise c g (omega arith) in rw e (omega arith)
    go (inl h) false = let e : min c g ≡ c = omega arith in let le = rise c g (omega arith) in rw e (omega arith)
    go (inr h) true = let e : max c g ≡ c = omega arith in let le = rise g c h in rw e (omega arith)
    go (inr h) false = let e : min c g ≡ g = omega arith in let le = rise g c h in rw e (omega arith)

pub if_some : {A : Type 0} (p : Option A) {P : A → Type 0} → ((x : A) → p ≡ Some x → P x) → IfSome p P
if_some None each = tt
if_some (Some x) each = each x refl

pub shown_in : {S : Type 0} (standing : S → Standing Entry) (ss : List S) (k : ℕ) (x : Entry) → shown standing ss (Some k) ≡ Some x → (k < length ss) × ((d : S) → (standing (get_or ss k d)).here ≡ Some x)
shown_in standing [] k x e = cc
shown_in standing (s ∷ ss) zero x e = (omega arith, λ d. e)
shown_in standing (s ∷ ss) (suc k) x e = let found = shown_in standing ss k x e in (omega (arith, found.0), found.1)

shown_at_is : {S : Type 0} (standing : S → Standing Entry) (ss : List S) (at : Option ℕ) (x : Entry) → shown standing ss at ≡ Some x → (k : ℕ) × ((k < length ss) × ((d : S) → (standing (get_or ss k d)).here ≡ Some x))
shown_at_is standing ss None x e = cc
shown_at_is standing ss (Some k) x e = (k, shown_in standing ss k x e)

pub shown_each : {S : Type 0} (standing : S → Standing Entry) (ss : List S) (at : Option ℕ) {P : Entry → Type 0} → ((k : ℕ) (d : S) (x : Entry) → k < length ss → (standing (get_or ss k d)).here ≡ Some x → P x) → IfSome (shown standing ss at) P
shown_each standing ss at each = if_some _ (λ x e. let (k, found) = shown_at_is standing ss at x e in let d = pick ss k found.0 in each k d x found.0 (found.1 d))

module _ {S : Type 0} (listing : S → Listing Entry) (standing : S → Standing Entry) (ordered : (s : S) → IfSome (listing s).held (λ xs. IsTrue (keyed_points xs))) where
  in_union : (ss : List S) (us : List Entry) → Unites listing ss us → (k : ℕ) (d : S) (x : Entry) → k < length ss → Among x (items listing (get_or ss k d)) → Among x us
  in_union ss us u k d x h m = rw (u.is) (union_from comes_before (items listing) ss k d x h m)

  -- what a test takes of a source's entries is their share of the union's cut
  pub count_share : (t : Entry → Bool) → Falls entry_total t → (ss : List S) (us : List Entry) → Unites listing ss us → (k : ℕ) (d : S) → k < length ss
      → count_before t (items listing (get_or ss k d)) ≡ share us (count_before t us) (items listing (get_or ss k d))
  count_share t falls ss us u k d h =
      let xs = items listing (get_or ss k d) in
      count_agree t (gap_test entry_total us (count_before t us)) xs (λ x m. cut_is_gap entry_total t falls us u.up x (in_union ss us u k d x h m)) ∙ sym (share_is us (count_before t us) xs)

  -- each source at its share of a gap
  abbrev pub AtShares : List S → List Entry → ℕ → Type 0
  AtShares ss us g = (k : ℕ) (d : S) → k < length ss → (standing (get_or ss k d)).gap ≡ Some (share us g (items listing (get_or ss k d)))

  pub come_is : (ss : List S) (us : List Entry) → Unites listing ss us → (g : ℕ) → g ≤ length us → AtShares ss us g → come standing ss ≡ g
  come_is ss us u g le at =
      total_each (λ s. unwrap_or (standing s).gap 0) (λ s. share us g (items listing s)) ss (λ k d h. rw (at k d h) refl)
      ∙ shares_sum listing ordered ss us u g le

  module _ (told : (s : S) → IsTold (listing s) (standing s)) where
    -- what is seen from the gap is the nearest of what the sources see
    pub nearest_seen : (ss : List S) (at : Option ℕ) (forward : Bool) (us : List Entry) (g : ℕ) → Unites listing ss us → g ≤ length us → AtShares ss us g → Faces standing forward ss → IsNearest standing forward ss at → item_from forward us g ≡ shown standing ss at
    nearest_seen ss at forward us g u le shares faces nearest =
        ap (item_from forward us) (sym (gap_count entry_total us u.up g le)) ∙ from_cut forward t us
        ∙ near_from entry_total forward t (gap_falls entry_total us g) us u.up (shown standing ss at) own most
      where
        t : Entry → Bool
        t = gap_test entry_total us g

        sees : (k : ℕ) (d : S) → k < length ss → near_cut forward t (items listing (get_or ss k d)) ≡ (standing (get_or ss k d)).here
        sees k d h =
            let s = get_or ss k d in
            let xs = items listing s in
            sym (told_shows (listing s) (standing s) _ (told s) (told_at listing ss k d h u.all) (shares k d h) ∙ ap (λ b. item_from b xs (share us g xs)) (faces k d h).1 ∙ ap (item_from forward xs) (share_is us g xs) ∙ from_cut forward t xs)

        own : (x : Entry) → shown standing ss at ≡ Some x → (is_beyond forward t x ≡ true) × Among x us
        own x e =
            let (k, found) = shown_at_is standing ss at x e in
            let d = pick ss k found.0 in
            let is = near_is forward t (items listing (get_or ss k d)) x (sees k d found.0 ∙ found.1 d) in
            (is.0, in_union ss us u k d x found.0 is.1)

        most : (y : Entry) → Among y us → is_beyond forward t y ≡ true → (x : Entry) × (shown standing ss at ≡ Some x) × (is_nearer forward comes_before y x ≡ false)
        most y m h =
            let (k, within, among) = union_to comes_before (items listing) ss y (rw (u.is) at m) in
            let d = pick ss k within in
            let best = near_best entry_total forward t (gap_falls entry_total us g) (items listing (get_or ss k d)) (items_up listing ordered (get_or ss k d)) y (among d) h in
            go (shown standing ss at) best.0 best.2 (ap (λ p. beats forward p (shown standing ss at)) (sym (sym (sees k d within) ∙ best.1)) ∙ nearest k d within)
          where
            go : (p : Option Entry) (e : Entry) → is_nearer forward comes_before y e ≡ false → beats forward (Some e) p ≡ false → (x : Entry) × (p ≡ Some x) × (is_nearer forward comes_before y x ≡ false)
            go None e a b = cc
            go (Some x) e a b = (x, refl, not_nearer entry_total forward y e x a b)

    -- what is seen is what the source shows that is the nearest
    pub here_is : (ss : List S) (at : Option ℕ) (forward : Bool) → StandTogether listing standing ss at forward → seen_from (united (map listing ss)) forward (come standing ss) (shown standing ss at) ≡ shown standing ss at
    here_is ss at forward stands = go (united (map listing ss)) (λ us e.
        let u = unites listing ss us e in
        nearest_seen ss at forward us (come standing ss) u (come_within listing ordered standing told ss us u) (rw e at stands.shares) stands.faces stands.nearest)
      where
        go : (p : Option (List Entry)) → ((us : List Entry) → p ≡ Some us → item_from forward us (come standing ss) ≡ shown standing ss at) → seen_from p forward (come standing ss) (shown standing ss at) ≡ shown standing ss at
        go None each = refl
        go (Some us) each = each us refl

  -- as the gap goes on by one, the share of one source does, and no other
  one_more : (ss : List S) (us : List Entry) → Unites listing ss us → (g : ℕ) → suc g ≤ length us → (k : ℕ) (d : S) → k < length ss → share us g (items listing (get_or ss k d)) < share us (suc g) (items listing (get_or ss k d))
      → (share us (suc g) (items listing (get_or ss k d)) ≡ suc (share us g (items listing (get_or ss k d)))) × ((j : ℕ) (c : S) → j < length ss → j ≢ k → share us g (items listing (get_or ss j c)) ≡ share us (suc g) (items listing (get_or ss j c)))
  one_more ss us u g le k d h more =
      let f = λ (s : S). share us g (items listing s) in
      let f' = λ (s : S). share us (suc g) (items listing s) in
      let rise = λ (s : S). share_rise us u.up g (suc g) (omega arith) (items listing s) in
      let sum = shares_sum listing ordered ss us u g (omega arith) in
      let next = shares_sum listing ordered ss us u (suc g) le in
      let one = total_rest f f' ss ss k d refl h (λ j c l n. rise (get_or ss j c)) in
      (omega (arith, sum, next, one), λ j c l n. let up = rise (get_or ss j c) in let two = total_two f f' ss j k c d rise l h n in omega (arith, sum, next, two, up))

  -- one item on: the source that has it goes on, and the others stand where they stood
  pub step_shares : (forward : Bool) (ss : List S) (us : List Entry) → Unites listing ss us → (g : ℕ) (x : Entry) → item_from forward us g ≡ Some x → g ≤ length us → (k : ℕ) (d : S) → k < length ss
      → item_from forward (items listing (get_or ss k d)) (share us g (items listing (get_or ss k d))) ≡ Some x
      → (gap_on forward g ≤ length us) × (share us (gap_on forward g) (items listing (get_or ss k d)) ≡ gap_on forward (share us g (items listing (get_or ss k d))))
      × ((j : ℕ) (c : S) → j < length ss → j ≢ k → share us (gap_on forward g) (items listing (get_or ss j c)) ≡ share us g (items listing (get_or ss j c)))
  step_shares true ss us u g x e le k d h own =
      let xs = items listing (get_or ss k d) in
      let within = slice_get_within us g x e in
      let taken = count_beyond entry_total (gap_test entry_total us (suc g)) (gap_falls entry_total us (suc g)) xs (items_up listing ordered (get_or ss k d)) (share us g xs) x own (gap_at entry_total us u.up g x e).1 in
      let all = one_more ss us u g within k d h (rw (share_is us (suc g) xs) taken) in
      let on : gap_on true g ≡ suc g = add-one g in
      rw on (omega arith, all.0 ∙ sym (add-one (share us g xs)), λ j c l n. sym (all.1 j c l n))
  step_shares false ss us u zero x e le k d h own = cc
  step_shares false ss us u (suc g) x e le k d h own =
      let xs = items listing (get_or ss k d) in
      let less = below_seen (gap_test entry_total us g) xs (share us (suc g) xs) x own (gap_at entry_total us u.up g x e).0 in
      let all = one_more ss us u g le k d h (rw (share_is us g xs) less) in
      let one = all.0 in
      let on : suc g - 1 ≡ g = omega arith in
      rw on (omega arith, omega arith, all.1)
