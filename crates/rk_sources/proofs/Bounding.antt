-- Seeks and steps of a source that is cut at bounds.
use Rattle.std.proofs.Common.{◌≡◌, ℕ, zero, suc, ◌+◌, ◌-◌, ◌<◌, ◌≤◌, min, Bool, true, false, not, ◌==◌, List, length, take, drop, Option, Some, None, Result, Ok, Err, refl, sym, ap, ◌∙◌, ◌⊎◌, inl, inr, arith}
use Rattle.std.specs.Bool.{beq}
use Rattle.std.specs.Prelude.{◌&&◌, ◌||◌, IsTrue, IfSome, if◌then◌else◌, is_some, option_map}
use Rattle.std.specs.Option.{option_map_or}
use Rattle.std.specs.List.Sorted.{IsPartitionedBy}
use Rattle.rk_outside.specs.declared.error.SourceError.{SourceError}
use Rattle.rk_model.specs.Cuts.{count_before, item_from, CutsRise}
use Rattle.rk_model.specs.Standings.{Listing, Standing, Leads, Costs, IsTold, names, agree, can_step, step_from, step_to}
use Rattle.rk_model.specs.declared.cut.Cut.{Cut}
use Rattle.rk_model.specs.declared.cut.Cut.TheVariants.{Start, Below, Past, End}
use Rattle.std.proofs.lemmas.Bool.{eqb-true}
use Rattle.rk_outside.specs.Counts.{Counts}
use Rattle.rk_model.proofs.Paying.{costs_told, costs_over}
use Rattle.rk_model.proofs.Clips.{count_rises, count_none, count_take, count_drop}
use Rattle.std.proofs.lemmas.Option.{slice_get_within}
use Rattle.rk_sources.specs.BoundLaws.{length_between, seen_between}
use Rattle.rk_sources.specs.Bounds.{here_between, is_inside, seen_inside, bound_cut, lies_under, lies_over, lies_beyond, clamped, Takes, lows, highs, between, gap_between, bounded, stands_between, IsOnSide, IsBounding}

not_false : (b : Bool) → not b ≡ true → b ≡ false
not_false true e = cc
not_false false e = refl

not_true : (b : Bool) → not b ≡ false → b ≡ true
not_true true e = refl
not_true false e = cc

module _ {A : Type 0} (takes : Takes A) (xs : List A) (rises : (forward : Bool) (x : A) → CutsRise (takes forward) x) where
  -- a cut before the lower bound, and one that isn't
  under : (low : List ℕ) (cut : Cut (List ℕ)) → lies_under low cut ≡ true → count_before (takes true cut) xs ≤ count_before (takes true (Below low)) xs
  under low Start e = let none = count_none (takes true Start) xs (λ x. (rises true x).first) in omega (arith, none)
  under low (Below key) e = count_rises (takes true (Below key)) (takes true (Below low)) xs (λ x t. (rises true x).on key low e ((rises true x).past key t))
  under low (Past key) e = count_rises (takes true (Past key)) (takes true (Below low)) xs (λ x t. (rises true x).on key low e t)
  under low End e = cc

  not_under : (low : List ℕ) (cut : Cut (List ℕ)) → lies_under low cut ≡ false → count_before (takes true (Below low)) xs ≤ count_before (takes true cut) xs
  not_under low Start e = cc
  not_under low (Below key) e = count_rises (takes true (Below low)) (takes true (Below key)) xs (λ x t. (rises true x).back key low e t)
  not_under low (Past key) e = count_rises (takes true (Below low)) (takes true (Past key)) xs (λ x t. (rises true x).past key ((rises true x).back key low e t))
  not_under low End e = count_rises (takes true (Below low)) (takes true End) xs (λ x t. (rises true x).last)

  -- a cut behind the upper bound, and one that isn't
  over : (high : List ℕ) (cut : Cut (List ℕ)) → lies_over high cut ≡ true → count_before (takes false (Below high)) xs ≤ count_before (takes false cut) xs
  over high Start e = cc
  over high (Below key) e = count_rises (takes false (Below high)) (takes false (Below key)) xs (λ x t. (rises false x).on high key e ((rises false x).past high t))
  over high (Past key) e = count_rises (takes false (Below high)) (takes false (Past key)) xs (λ x t. (rises false x).past key ((rises false x).back key high (not_false _ e) t))
  over high End e = count_rises (takes false (Below high)) (takes false End) xs (λ x t. (rises false x).last)

  not_over : (high : List ℕ) (cut : Cut (List ℕ)) → lies_over high cut ≡ false → count_before (takes false cut) xs ≤ count_before (takes false (Below high)) xs
  not_over high Start e = let none = count_none (takes false Start) xs (λ x. (rises false x).first) in omega (arith, none)
  not_over high (Below key) e = count_rises (takes false (Below key)) (takes false (Below high)) xs (λ x t. (rises false x).back high key e t)
  not_over high (Past key) e = count_rises (takes false (Past key)) (takes false (Below high)) xs (λ x t. (rises false x).on key high (not_true _ e) t)
  not_over high End e = cc

  -- where the cut lies beyond the bound, no more stand before it than before the bound
  abbrev Beyond : Bool → (bound cut : ℕ) → Type 0
  Beyond true bound cut = cut ≤ bound
  Beyond false bound cut = bound ≤ cut

  abbrev Sought : Option (List ℕ) → Option (List ℕ) → Bool → Cut (List ℕ) → Bool → Type 0
  Sought lower upper forward cut true = Beyond forward (count_before (takes forward (bound_cut lower upper forward)) xs) (count_before (takes forward cut) xs)
  Sought lower upper forward cut false = Beyond (not forward) (count_before (takes forward (bound_cut lower upper forward)) xs) (count_before (takes forward cut) xs)

  sought : (lower upper : Option (List ℕ)) (forward : Bool) (cut : Cut (List ℕ)) (b : Bool) → lies_beyond lower upper forward cut ≡ b → Sought lower upper forward cut b
  sought None upper true cut true e = cc
  sought None upper true cut false e = let none = count_none (takes true Start) xs (λ x. (rises true x).first) in omega (arith, none)
  sought (Some low) upper true cut true e = under low cut e
  sought (Some low) upper true cut false e = not_under low cut e
  sought lower None false cut true e = cc
  sought lower None false cut false e = count_rises (takes false cut) (takes false End) xs (λ x t. (rises false x).last)
  sought lower (Some high) false cut true e = over high cut e
  sought lower (Some high) false cut false e = not_over high cut e

-- the part before the upper bound, whose first items a cut takes
module _ {A : Type 0} (takes : Takes A) (lower upper : Option (List ℕ)) (xs : List A) (rises : (forward : Bool) (x : A) → CutsRise (takes forward) x)
    (parted : (forward : Bool) (cut : Cut (List ℕ)) → IsPartitionedBy (takes forward cut) (take (highs takes upper xs) xs)) where
  abbrev lo : ℕ
  lo = lows takes lower xs

  abbrev hi : ℕ
  hi = highs takes upper xs

  count_between : (forward : Bool) (cut : Cut (List ℕ)) → count_before (takes forward cut) (between takes lower upper xs) ≡ min (count_before (takes forward cut) xs) hi - lo
  count_between forward cut = count_drop (takes forward cut) lo (take hi xs) (parted forward cut) ∙ ap (λ n. n - lo) (count_take (takes forward cut) hi xs)

  -- a seek goes to the gap of the cut in the part, and is on its side
  pub sought_gap : (forward : Bool) (cut : Cut (List ℕ)) → gap_between takes lower upper xs (count_before (takes forward (clamped lower upper forward cut)) xs) ≡ count_before (takes forward cut) (between takes lower upper xs)
  sought_gap true cut = sym (count_between true cut ∙ go (lies_beyond lower upper true cut) (sought takes xs rises lower upper true cut (lies_beyond lower upper true cut) refl))
    where
      go : (b : Bool) → Sought takes xs rises lower upper true cut b → min (count_before (takes true cut) xs) hi - lo ≡ gap_between takes lower upper xs (count_before (takes true (if b then bound_cut lower upper true else cut)) xs)
      go true le = omega (arith, le)
      go false le = omega (arith, le)
  sought_gap false cut = sym (count_between false cut ∙ go (lies_beyond lower upper false cut) (sought takes xs rises lower upper false cut (lies_beyond lower upper false cut) refl))
    where
      go : (b : Bool) → Sought takes xs rises lower upper false cut b → min (count_before (takes false cut) xs) hi - lo ≡ gap_between takes lower upper xs (count_before (takes false (if b then bound_cut lower upper false else cut)) xs)
      go true le = omega (arith, le)
      go false le = omega (arith, le)

  pub sought_side : (forward : Bool) (cut : Cut (List ℕ)) → IsOnSide forward lo hi (count_before (takes forward (clamped lower upper forward cut)) xs)
  sought_side true cut = go (lies_beyond lower upper true cut) (sought takes xs rises lower upper true cut (lies_beyond lower upper true cut) refl)
    where
      go : (b : Bool) → Sought takes xs rises lower upper true cut b → lo ≤ count_before (takes true (if b then bound_cut lower upper true else cut)) xs
      go true le = omega arith
      go false le = le
  sought_side false cut = go (lies_beyond lower upper false cut) (sought takes xs rises lower upper false cut (lies_beyond lower upper false cut) refl)
    where
      go : (b : Bool) → Sought takes xs rises lower upper false cut b → count_before (takes false (if b then bound_cut lower upper false else cut)) xs ≤ hi
      go true le = omega arith
      go false le = le

-- what is known of a list in order
pub record IsParted {A : Type 0} (takes : Takes A) (upper : Option (List ℕ)) (xs : List A) : Type 0 where
  pub whole : (forward : Bool) (cut : Cut (List ℕ)) → IsPartitionedBy (takes forward cut) xs
  pub front : (forward : Bool) (cut : Cut (List ℕ)) → IsPartitionedBy (takes forward cut) (take (highs takes upper xs) xs)

pub is_parted : {A : Type 0} (takes : Takes A) (upper : Option (List ℕ)) (in_order : List A → Bool) (held : Option (List A))
    → ((forward : Bool) (cut : Cut (List ℕ)) (xs : List A) → IsTrue (in_order xs) → IsPartitionedBy (takes forward cut) xs)
    → ((from to : ℕ) (xs : List A) → IsTrue (in_order xs) → IsTrue (in_order (drop from (take to xs)))) → IfSome held (λ xs. IsTrue (in_order xs)) → IfSome held (IsParted takes upper)
is_parted takes upper in_order None first part sorted = tt
is_parted takes upper in_order (Some xs) first part sorted = record {
  whole = λ forward cut. first forward cut xs sorted;
  front = λ forward cut. first forward cut (take (highs takes upper xs) xs) (part 0 (highs takes upper xs) xs sorted);
}

module _ {A : Type 0} (takes : Takes A) (lower upper : Option (List ℕ)) (rises : (forward : Bool) (x : A) → CutsRise (takes forward) x) where
  pub seek_leads : {T : Type 0} (l l' : Listing A) (s' : Standing A) (forward : Bool) (cut used : Cut (List ℕ)) (result : Result T SourceError) → used ≡ clamped lower upper forward cut → IfSome l.held (IsParted takes upper)
      → Leads l l' s' forward (λ xs. Some (count_before (takes forward used) xs)) result
      → Leads (bounded takes lower upper l) (bounded takes lower upper l') (stands_between takes lower upper (Some forward) l'.held s') forward (λ ys. Some (count_before (takes forward cut) ys)) result
  seek_leads l l' s' forward cut used (Ok v) is parted leads = record {
    same = ap (bounded takes lower upper) leads.same;
    there = there l.held l'.held (ap (λ k. k.held) leads.same) parted leads.there;
    known = known s'.gap leads.known;
    faces = refl;
    lost = tt;
  }
    where
      known : (p : Option ℕ) → is_some p ≡ true → is_some (option_map (λ g. option_map_or (λ xs. gap_between takes lower upper xs g) l'.held g) p) ≡ true
      known None e = e
      known (Some g) e = e

      there : (h h' : Option (List A)) → h' ≡ h → IfSome h (IsParted takes upper) → IfSome h (λ xs. s'.gap ≡ Some (count_before (takes forward used) xs))
          → IfSome (option_map (between takes lower upper) h) (λ ys. option_map (λ g. option_map_or (λ xs. gap_between takes lower upper xs g) h' g) s'.gap ≡ Some (count_before (takes forward cut) ys))
      there None h' e parted at = tt
      there (Some xs) h' e parted at = rw (e, at, is) (ap Some (sought_gap takes lower upper xs rises parted.front forward cut))
  seek_leads l l' s' forward cut used (Err e) is parted leads = record {
    same = ap (bounded takes lower upper) leads.same;
    there = tt;
    known = tt;
    faces = tt;
    lost = rw leads.lost refl;
  }

  pub seek_bounding : {T : Type 0} (l l' : Listing A) (s' : Standing A) (forward : Bool) (cut used : Cut (List ℕ)) (result : Result T SourceError) → used ≡ clamped lower upper forward cut → IfSome l.held (IsParted takes upper)
      → Leads l l' s' forward (λ xs. Some (count_before (takes forward used) xs)) result → IsBounding takes lower upper forward l'.held s'
  seek_bounding l l' s' forward cut used (Ok v) is parted leads = record { faces = faces s'.gap leads.faces; side = side l.held l'.held (ap (λ k. k.held) leads.same) parted leads.there }
    where
      faces : (p : Option ℕ) → s'.forward ≡ forward → IfSome p (λ g. s'.forward ≡ forward)
      faces None e = tt
      faces (Some g) e = e

      side : (h h' : Option (List A)) → h' ≡ h → IfSome h (IsParted takes upper) → IfSome h (λ xs. s'.gap ≡ Some (count_before (takes forward used) xs)) → IfSome h' (λ xs. IfSome s'.gap (IsOnSide forward (lows takes lower xs) (highs takes upper xs)))
      side None h' e parted at = rw e tt
      side (Some xs) h' e parted at = rw (e, at, is) (sought_side takes lower upper xs rises parted.front forward cut)
  seek_bounding l l' s' forward cut used (Err e) is parted leads = record { faces = rw leads.lost tt; side = side l'.held }
    where
      side : (h : Option (List A)) → IfSome h (λ xs. IfSome s'.gap (IsOnSide forward (lows takes lower xs) (highs takes upper xs)))
      side None = tt
      side (Some xs) = rw leads.lost tt

  -- what is seen of the source is what is seen of the part, if it lies inside
  pub here_is : (l : Listing A) (s : Standing A) (forward : Bool) → IfSome l.held (IsParted takes upper) → IsTold l s → IsBounding takes lower upper forward l.held s
      → here_between takes lower upper forward l.held s ≡ seen_inside takes lower upper forward s.here
  here_is l s forward parted told is = go l.held s.gap refl parted told.within told.shown is.faces is.side
    where
      go : (h : Option (List A)) (p : Option ℕ) → s.gap ≡ p → IfSome h (IsParted takes upper) → IfSome h (λ xs. IfSome p (λ g. g ≤ length xs)) → IfSome h (λ xs. IfSome p (λ g. s.here ≡ item_from s.forward xs g))
          → IfSome p (λ g. s.forward ≡ forward) → IfSome h (λ xs. IfSome p (IsOnSide forward (lows takes lower xs) (highs takes upper xs))) → here_between takes lower upper forward h s ≡ seen_inside takes lower upper forward s.here
      go None p e parted within shown faces side = refl
      go (Some xs) None e parted within shown faces side = rw (e, told.lost e) refl
      go (Some xs) (Some g) e parted within shown faces side =
          rw e (sym (ap (seen_inside takes lower upper forward) (shown ∙ ap (λ b. item_from b xs g) faces) ∙ seen_between takes lower upper xs parted.whole forward g within side))

  -- where something is seen, the gaps of the source and of the part tell the same place, which is none at the far end
  record IsInside (xs : List A) (b : Bool) (g : ℕ) : Type 0 where
    at : lows takes lower xs + gap_between takes lower upper xs g ≡ g
    high : b ≡ true → gap_between takes lower upper xs g < length (between takes lower upper xs)
    low : b ≡ false → 1 ≤ gap_between takes lower upper xs g

  inside : (xs : List A) (b : Bool) (g : ℕ) (x : A) → IsOnSide b (lows takes lower xs) (highs takes upper xs) g → item_from b (between takes lower upper xs) (gap_between takes lower upper xs g) ≡ Some x → IsInside xs b g
  inside xs true g x side is =
      let within = slice_get_within (between takes lower upper xs) (gap_between takes lower upper xs g) x is in
      let len = length_between takes lower upper xs in
      record { at = omega (arith, within, len, side); high = λ e. within; low = λ e. cc }
  inside xs false g x side is = record { at = omega (arith, some, side); high = λ e. cc; low = λ e. some }
    where
      at_least : (k : ℕ) → item_from false (between takes lower upper xs) k ≡ Some x → 1 ≤ k
      at_least zero e = cc
      at_least (suc k) e = omega arith

      some : 1 ≤ gap_between takes lower upper xs g
      some = at_least (gap_between takes lower upper xs g) is

  is_not : (a b : ℕ) → (a ≡ b → ⊥) → (a == b) ≡ false
  is_not a b apart = go (a == b) refl
    where
      go : (t : Bool) → (a == b) ≡ t → t ≡ false
      go true e = absurd (apart (eqb-true a b e))
      go false e = refl

  -- from where something is seen, a step reads at the place of the source what it reads at that of the part
  abbrev SamePrices : Listing A → Standing A → Bool → Bool → Type 0
  SamePrices l s b forward =
      (step_from (bounded takes lower upper l) forward (stands_between takes lower upper (Some b) l.held s) ≡ step_from l forward s)
      × (step_to (bounded takes lower upper l) forward (stands_between takes lower upper (Some b) l.held s) ≡ step_to l forward s)

  same_prices : (l : Listing A) (s : Standing A) (b forward : Bool) (xs : List A) (g : ℕ) → l.held ≡ Some xs → s.gap ≡ Some g → s.forward ≡ b → IsInside xs b g → SamePrices l s b forward
  same_prices l s true true xs g held gap faces is =
      let on : lows takes lower xs + (gap_between takes lower upper xs g + 1) ≡ g + 1 = let at = is.at in omega (arith, at) in
      rw (held, gap, faces) (ap (l.walk_price true) is.at, ap (l.walk_price true) on)
  same_prices l s false false xs g held gap faces is =
      let on : lows takes lower xs + (gap_between takes lower upper xs g - 1) ≡ g - 1 = let at = is.at in let low = is.low refl in omega (arith, at, low) in
      rw (held, gap, faces) (ap (l.walk_price false) is.at, ap (l.walk_price false) on)
  same_prices l s false true xs g held gap faces is =
      let low = is.low refl in
      let near = is_not (gap_between takes lower upper xs g) 0 (λ e. omega (arith, low, e)) in
      rw (held, gap, faces, near) (refl, ap (l.turn_price true) is.at)
  same_prices l s true false xs g held gap faces is =
      let high = is.high refl in
      let near = is_not (gap_between takes lower upper xs g) (length (between takes lower upper xs)) (λ e. omega (arith, high, e)) in
      rw (held, gap, faces, near) (refl, ap (l.turn_price false) is.at)

  pub inside_costs : {T : Type 0} (l : Listing A) (s : Standing A) (b forward : Bool) (x : A) (o' : ℕ) (c c' : Counts) (result : Result T SourceError) → IsBounding takes lower upper b l.held s → here_between takes lower upper b l.held s ≡ Some x
      → Costs l s.owed o' c c' (step_from l forward s) (step_to l forward s) result
      → Costs (bounded takes lower upper l) s.owed o' c c' (step_from (bounded takes lower upper l) forward (stands_between takes lower upper (Some b) l.held s)) (step_to (bounded takes lower upper l) forward (stands_between takes lower upper (Some b) l.held s)) result
  inside_costs l s b forward x o' c c' result is sees costs =
      costs_told (bounded takes lower upper l) s.owed o' c c' _ _ _ _ result (λ told. prices l.held s.gap refl refl told is.faces is.side sees)
      (costs_over l (bounded takes lower upper l) s.owed o' c c' _ _ result (named l.held refl) (λ told. was l.held refl told) costs)
    where
      was : (h : Option (List A)) → l.held ≡ h → IsTrue (is_some (option_map (between takes lower upper) l.held)) → IsTrue (is_some l.held)
      was None e told = let none : false ≡ true = rw e at told in cc
      was (Some xs) e told = rw e refl

      named : (h : Option (List A)) → l.held ≡ h → (file at : ℕ) → IsTrue (names l file at) → IsTrue (names (bounded takes lower upper l) file at)
      named None e file at n = rw e (rw e at n)
      named (Some xs) e file at n = let none : false ≡ true = rw e at n in cc

      prices : (h : Option (List A)) (p : Option ℕ) → l.held ≡ h → s.gap ≡ p → IsTrue (is_some (option_map (between takes lower upper) l.held)) → IfSome s.gap (λ g. s.forward ≡ b) → IfSome l.held (λ xs. IfSome s.gap (IsOnSide b (lows takes lower xs) (highs takes upper xs)))
          → here_between takes lower upper b l.held s ≡ Some x
          → step_from (bounded takes lower upper l) forward (stands_between takes lower upper (Some b) l.held s) + step_to l forward s ≤ step_from l forward s + step_to (bounded takes lower upper l) forward (stands_between takes lower upper (Some b) l.held s)
      prices None p e q told faces side sees = let none : false ≡ true = rw e at told in cc
      prices (Some xs) None e q told faces side sees = let none : None ≡ Some x = rw (e, q) at sees in cc
      prices (Some xs) (Some g) e q told faces side sees =
          let faced : s.forward ≡ b = rw q at faces in
          let here : item_from b (between takes lower upper xs) (gap_between takes lower upper xs g) ≡ Some x = rw (e, q) at sees in
          let on : IsOnSide b (lows takes lower xs) (highs takes upper xs) g = rw (e, q) at side in
          let same = same_prices l s b forward xs g e q faced (inside xs b g x on here) in
          omega (arith, same.0, same.1)

  pub seen_if : (forward : Bool) (here : Option A) (x : A) (t : Bool) → Some x ≡ here → t ≡ is_inside takes lower upper forward x → (if t then Some x else None) ≡ seen_inside takes lower upper forward here
  seen_if forward here x t is inside = rw (sym is, inside) refl

-- a step needs that something is seen, but where it turns
pub must_see : {A : Type 0} (b forward known : Bool) (o : Option A) → known && (is_some o || not (agree forward b)) ≡ true → (is_some o ≡ true) ⊎ (not (beq b forward) ≡ false) → (x : A) × (o ≡ Some x)
must_see b forward known (Some x) asked turns = (x, refl)
must_see b forward known None asked (inl sees) = cc
must_see true true true None asked (inr stays) = cc
must_see true true false None asked (inr stays) = cc
must_see false false true None asked (inr stays) = cc
must_see false false false None asked (inr stays) = cc
must_see true false known None asked (inr stays) = cc
must_see false true known None asked (inr stays) = cc

-- and a direction in which it stands
pub must_face : {A : Type 0} (takes : Takes A) (lower upper : Option (List ℕ)) (facing : Option Bool) (forward : Bool) (held : Option (List A)) (s : Standing A) → IsTrue (can_step forward (stands_between takes lower upper facing held s)) → (b : Bool) × (facing ≡ Some b)
must_face takes lower upper (Some b) forward held s asked = (b, refl)
must_face takes lower upper None forward held s asked = let no : false ≡ true = asked in cc
