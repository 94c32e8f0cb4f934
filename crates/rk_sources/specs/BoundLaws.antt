-- The laws of a source that is cut at bounds.
use Rattle.std.proofs.Common.{◌≡◌, ℕ, zero, suc, ◌+◌, ◌-◌, ◌<◌, ◌≤◌, min, Bool, true, false, List, length, take, drop, Option, Some, None, refl, sym, ap, ◌∙◌, ◌⊎◌, inl, inr, arith}
use Rattle.std.specs.Prelude.{IsTrue, IfSome, if◌then◌else◌, is_some, option_map}
use Rattle.std.specs.Option.{option_map_or}
use Rattle.std.specs.List.{slice_get}
use Rattle.std.specs.List.Sorted.{IsPartitionedBy}
use Rattle.std.proofs.lemmas.Bool.{cases_lt}
use Rattle.std.proofs.lemmas.List.{length-take, length-drop}
use Rattle.rk_model.specs.Cuts.{count_before, item_from}
use Rattle.rk_model.specs.Standings.{Listing, Standing, IsTold, WalksRise, IsFree}
use Rattle.rk_model.specs.declared.cut.Cut.{Cut}
use Rattle.rk_model.proofs.Gaps.{cut_within, before_taken, taken_before}
use Rattle.rk_model.proofs.Clips.{get_drop, get_take, none_beyond}
use Rattle.rk_sources.specs.Bounds.{lower_cut, upper_cut, Takes, lows, highs, between, gap_between, skipped, is_far, bounded, seen_inside, here_between, stands_between, IsOnSide}

-- an item beyond a cut isn't taken
untaken_behind : {A : Type 0} (t : A → Bool) (xs : List A) (i : ℕ) (x : A) → IsPartitionedBy t xs → slice_get xs i ≡ Some x → count_before t xs ≤ i → t x ≡ false
untaken_behind t xs i x parted is high = go (t x) refl
  where
    go : (b : Bool) → t x ≡ b → b ≡ false
    go true e = absurd (omega (arith, high, before_taken t xs i x parted is e))
    go false e = refl

pub length_between : {A : Type 0} (takes : Takes A) (lower upper : Option (List ℕ)) (xs : List A) → length (between takes lower upper xs) ≡ highs takes upper xs - lows takes lower xs
length_between takes lower upper xs = length-drop (lows takes lower xs) (take (highs takes upper xs) xs) ∙ ap (λ n. n - lows takes lower xs) (length-take (highs takes upper xs) xs ∙ least)
  where
    least : min (highs takes upper xs) (length xs) ≡ highs takes upper xs
    least = omega (arith, cut_within (takes false (upper_cut upper)) xs)

module _ {A : Type 0} (takes : Takes A) (lower upper : Option (List ℕ)) (xs : List A) (parted : (forward : Bool) (cut : Cut (List ℕ)) → IsPartitionedBy (takes forward cut) xs) where
  abbrev lo : ℕ
  lo = lows takes lower xs

  abbrev hi : ℕ
  hi = highs takes upper xs

  -- the item of the part at a place
  get_between : (i : ℕ) → lo + i < hi → slice_get (between takes lower upper xs) i ≡ slice_get xs (lo + i)
  get_between i low = get_drop lo i (take hi xs) ∙ get_take hi (lo + i) xs low

  none_between : (i : ℕ) → hi ≤ lo + i → slice_get (between takes lower upper xs) i ≡ None
  none_between i high = get_drop lo i (take hi xs) ∙ none_beyond hi (lo + i) xs high

  -- what is seen forward of a gap that isn't before the lower bound
  seen_forward : (g : ℕ) → g ≤ length xs → lo ≤ g → seen_inside takes lower upper true (slice_get xs g) ≡ slice_get (between takes lower upper xs) (gap_between takes lower upper xs g)
  seen_forward g within low = go (cases_lt g hi)
    where
      here : (o : Option A) → slice_get xs g ≡ o → g < hi → seen_inside takes lower upper true o ≡ o
      here None is lt = refl
      here (Some x) is lt = rw (taken_before (takes false (upper_cut upper)) xs g x is lt) refl

      gone : (o : Option A) → slice_get xs g ≡ o → hi ≤ g → seen_inside takes lower upper true o ≡ None
      gone None is high = refl
      gone (Some x) is high = rw (untaken_behind (takes false (upper_cut upper)) xs g x (parted false (upper_cut upper)) is high) refl

      go : (g < hi) ⊎ (hi ≤ g) → seen_inside takes lower upper true (slice_get xs g) ≡ slice_get (between takes lower upper xs) (gap_between takes lower upper xs g)
      go (inl lt) =
          let at : lo + gap_between takes lower upper xs g ≡ g = omega (arith, lt, low) in
          here (slice_get xs g) refl lt ∙ sym (get_between (gap_between takes lower upper xs g) (omega (arith, at, lt)) ∙ ap (slice_get xs) at)
      go (inr high) = gone (slice_get xs g) refl high ∙ sym (none_between (gap_between takes lower upper xs g) (omega (arith, high, low)))

  -- and backward of one that isn't behind the upper bound
  seen_backward : (g : ℕ) → g ≤ length xs → g ≤ hi → seen_inside takes lower upper false (item_from false xs g) ≡ item_from false (between takes lower upper xs) (gap_between takes lower upper xs g)
  seen_backward zero within low = none (gap_between takes lower upper xs 0) (omega arith)
    where
      none : (b : ℕ) → b ≡ 0 → None ≡ item_from false (between takes lower upper xs) b
      none zero e = refl
      none (suc b) e = absurd (omega (arith, e))
  seen_backward (suc g) within low = go (cases_lt g lo)
    where
      gone : (o : Option A) → slice_get xs g ≡ o → g < lo → seen_inside takes lower upper false o ≡ None
      gone None is lt = refl
      gone (Some x) is lt = rw (taken_before (takes true (lower_cut lower)) xs g x is lt) refl

      here : (o : Option A) → slice_get xs g ≡ o → lo ≤ g → seen_inside takes lower upper false o ≡ o
      here None is high = refl
      here (Some x) is high = rw (untaken_behind (takes true (lower_cut lower)) xs g x (parted true (lower_cut lower)) is high) refl

      none : (b : ℕ) → b ≡ 0 → None ≡ item_from false (between takes lower upper xs) b
      none zero e = refl
      none (suc b) e = absurd (omega (arith, e))

      some : (b : ℕ) → lo + b ≡ suc g → lo ≤ g → slice_get xs g ≡ item_from false (between takes lower upper xs) b
      some zero e high = absurd (omega (arith, e, high))
      some (suc b) e high = let at : lo + b ≡ g = omega (arith, e) in sym (get_between b (omega (arith, at, low)) ∙ ap (slice_get xs) at)

      go : (g < lo) ⊎ (lo ≤ g) → seen_inside takes lower upper false (slice_get xs g) ≡ item_from false (between takes lower upper xs) (gap_between takes lower upper xs (suc g))
      go (inl lt) = gone (slice_get xs g) refl lt ∙ none (gap_between takes lower upper xs (suc g)) (omega (arith, lt))
      go (inr high) = here (slice_get xs g) refl high ∙ some (gap_between takes lower upper xs (suc g)) (omega (arith, high, low)) high

  pub seen_between : (forward : Bool) (g : ℕ) → g ≤ length xs → IsOnSide forward lo hi g → seen_inside takes lower upper forward (item_from forward xs g) ≡ item_from forward (between takes lower upper xs) (gap_between takes lower upper xs g)
  seen_between true g within side = seen_forward g within side
  seen_between false g within side = seen_backward g within side

-- what is seen is what the part has there
pub bounded-told : {A : Type 0} (takes : Takes A) (lower upper : Option (List ℕ)) (facing : Option Bool) (l : Listing A) (s : Standing A)
    → IsTold l s → IsTold (bounded takes lower upper l) (stands_between takes lower upper facing l.held s)
bounded-told {A} takes lower upper None l s told = record { within = none (λ ys g. g ≤ length ys) l.held; shown = none (λ ys g. None ≡ item_from true ys g) l.held; lost = λ e. refl }
  where
    none : (F : List A → ℕ → Type 0) (h : Option (List A)) → IfSome (option_map (between takes lower upper) h) (λ ys. IfSome None (F ys))
    none F None = tt
    none F (Some xs) = tt
bounded-told {A} takes lower upper (Some forward) l s told = record { within = within l.held s.gap; shown = shown l.held s.gap refl; lost = lost l.held s.gap refl told.lost }
  where
    within : (h : Option (List A)) (p : Option ℕ) → IfSome (option_map (between takes lower upper) h) (λ ys. IfSome (option_map (λ g. option_map_or (λ xs. gap_between takes lower upper xs g) h g) p) (λ g. g ≤ length ys))
    within None p = tt
    within (Some xs) None = tt
    within (Some xs) (Some g) = let len = length_between takes lower upper xs in omega (arith, len)

    shown : (h : Option (List A)) (p : Option ℕ) → s.gap ≡ p → IfSome (option_map (between takes lower upper) h) (λ ys. IfSome (option_map (λ g. option_map_or (λ xs. gap_between takes lower upper xs g) h g) p) (λ g. here_between takes lower upper forward h s ≡ item_from forward ys g))
    shown None p e = tt
    shown (Some xs) None e = tt
    shown (Some xs) (Some g) e = rw e refl

    lost : (h : Option (List A)) (p : Option ℕ) → s.gap ≡ p → (s.gap ≡ None → s.here ≡ None) → option_map (λ g. option_map_or (λ xs. gap_between takes lower upper xs g) h g) p ≡ None → here_between takes lower upper forward h s ≡ None
    lost None None e none is = rw (none e) refl
    lost (Some xs) None e none is = rw e refl
    lost h (Some g) e none is = cc

pub bounded-rise : {A : Type 0} (takes : Takes A) (lower upper : Option (List ℕ)) (l : Listing A) → WalksRise l → WalksRise (bounded takes lower upper l)
bounded-rise {A} takes lower upper l rise = record {
  forward = λ told g h le. rise.forward (was l.held told) (skipped takes lower l + g) (skipped takes lower l + h) (omega (arith, le));
  backward = λ told g h le. rise.backward (was l.held told) (skipped takes lower l + g) (skipped takes lower l + h) (omega (arith, le));
}
  where
    was : (h : Option (List A)) → IsTrue (is_some (option_map (between takes lower upper) h)) → IsTrue (is_some h)
    was None told = told
    was (Some xs) told = told

pub bounded-free : {A : Type 0} (takes : Takes A) (lower upper : Option (List ℕ)) (l : Listing A) → IsFree l → IsFree (bounded takes lower upper l)
bounded-free takes lower upper l free = record {
  seek = λ forward cut. free.seek forward _;
  walk = λ forward g. free.walk forward _;
  turn = λ forward g. either (is_far takes lower upper l forward g) (free.seek forward _) (free.turn forward _);
}
  where
    either : (b : Bool) {m n : ℕ} → m ≡ 0 → n ≡ 0 → (if b then m else n) ≡ 0
    either true e f = e
    either false e f = f

pub bounded-ordered : {A : Type 0} (takes : Takes A) (lower upper : Option (List ℕ)) (in_order : List A → Bool) (held : Option (List A))
    → ((from to : ℕ) (xs : List A) → IsTrue (in_order xs) → IsTrue (in_order (drop from (take to xs)))) → IfSome held (λ xs. IsTrue (in_order xs))
    → IfSome (option_map (between takes lower upper) held) (λ xs. IsTrue (in_order xs))
bounded-ordered takes lower upper in_order None part sorted = tt
bounded-ordered takes lower upper in_order (Some xs) part sorted = part (lows takes lower xs) (highs takes upper xs) xs sorted
