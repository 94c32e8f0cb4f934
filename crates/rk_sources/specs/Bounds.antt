-- A source cut at bounds: of its list the part from the lower bound up to the upper one.
use Rattle.std.specs.Prelude.{◌≡◌, ℕ, ◌+◌, ◌-◌, ◌≤◌, min, Bool, true, false, not, ◌==◌, List, length, take, drop, if◌then◌else◌, Option, Some, None, IfSome, option_map, option_and_then, unwrap_or}
use Rattle.std.specs.Option.{option_map_or}
use Rattle.std.specs.Ordering.{is_lt}
use Rattle.rk_key.specs.Keys.{key_cmp}
use Rattle.rk_model.specs.Cuts.{count_before, item_from}
use Rattle.rk_model.specs.Standings.{Listing, Standing}
use Rattle.rk_model.specs.declared.cut.Cut.{Cut}
use Rattle.rk_model.specs.declared.cut.Cut.TheVariants.{Start, Below, Past, End}

-- the cuts at the bounds; a bound that is missing cuts nothing
abbrev pub lower_cut : Option (List ℕ) → Cut (List ℕ)
lower_cut None = Start
lower_cut (Some key) = Below key

abbrev pub upper_cut : Option (List ℕ) → Cut (List ℕ)
upper_cut None = End
upper_cut (Some key) = Below key

-- the bound from which one goes in a direction
abbrev pub bound_cut : Option (List ℕ) → Option (List ℕ) → Bool → Cut (List ℕ)
bound_cut lower upper forward = if forward then lower_cut lower else upper_cut upper

-- a cut lies before the lower bound, or behind the upper one
abbrev pub lies_under : List ℕ → Cut (List ℕ) → Bool
lies_under low Start = true
lies_under low (Below key) = is_lt (key_cmp key low)
lies_under low (Past key) = is_lt (key_cmp key low)
lies_under low End = false

abbrev pub lies_over : List ℕ → Cut (List ℕ) → Bool
lies_over high Start = false
lies_over high (Below key) = is_lt (key_cmp high key)
lies_over high (Past key) = not (is_lt (key_cmp key high))
lies_over high End = true

-- the cut that is sought: the bound from which one goes, where the cut lies beyond it
abbrev pub lies_beyond : Option (List ℕ) → Option (List ℕ) → Bool → Cut (List ℕ) → Bool
lies_beyond lower upper forward cut = if forward then option_map_or (λ low. lies_under low cut) lower false else option_map_or (λ high. lies_over high cut) upper false

abbrev pub clamped : Option (List ℕ) → Option (List ℕ) → Bool → Cut (List ℕ) → Cut (List ℕ)
clamped lower upper forward cut = if lies_beyond lower upper forward cut then bound_cut lower upper forward else cut

-- what stands before a cut, sought in a direction
abbrev pub Takes : Type 0 → Type 0
Takes A = Bool → Cut (List ℕ) → A → Bool

-- how many items end before the lower bound, and how many begin before the upper one
abbrev pub lows : {A : Type 0} → Takes A → Option (List ℕ) → List A → ℕ
lows takes lower xs = count_before (takes true (lower_cut lower)) xs

abbrev pub highs : {A : Type 0} → Takes A → Option (List ℕ) → List A → ℕ
highs takes upper xs = count_before (takes false (upper_cut upper)) xs

abbrev pub between : {A : Type 0} → Takes A → Option (List ℕ) → Option (List ℕ) → List A → List A
between takes lower upper xs = drop (lows takes lower xs) (take (highs takes upper xs) xs)

-- a gap of the list, as one of the part
abbrev pub gap_between : {A : Type 0} → Takes A → Option (List ℕ) → Option (List ℕ) → List A → ℕ → ℕ
gap_between takes lower upper xs g = min (g - lows takes lower xs) (highs takes upper xs - lows takes lower xs)

-- how many items of the list stand before the part, where it is told
abbrev pub skipped : {A : Type 0} → Takes A → Option (List ℕ) → Listing A → ℕ
skipped takes lower l = option_map_or (lows takes lower) l.held 0

-- the gap of the part at which the other direction has come to its end
abbrev pub is_far : {A : Type 0} → Takes A → Option (List ℕ) → Option (List ℕ) → Listing A → Bool → ℕ → Bool
is_far takes lower upper l forward g = if forward then g == 0 else option_map_or (λ xs. g == length (between takes lower upper xs)) l.held false

-- A seek goes to the bound where the cut is beyond it. A turn from beyond a bound is a seek of the bound.
abbrev pub bounded : {A : Type 0} → Takes A → Option (List ℕ) → Option (List ℕ) → Listing A → Listing A
bounded takes lower upper l = record {
  held = option_map (between takes lower upper) l.held;
  bad = l.bad;
  seek_price = λ forward cut. l.seek_price forward (clamped lower upper forward cut);
  walk_price = λ forward g. l.walk_price forward (skipped takes lower l + g);
  turn_price = λ forward g. if is_far takes lower upper l forward g then l.seek_price forward (bound_cut lower upper forward) else l.turn_price forward (skipped takes lower l + g);
}

-- the source, the bounds, and the direction in which it stands, or none where it is lost
pub record Bounding (S : Type 0) : Type 0 where
  pub source : S
  pub lower : Option (List ℕ)
  pub upper : Option (List ℕ)
  pub facing : Option Bool

-- what no call changes: the list of the source, and the bounds
pub record Keeps {A S : Type 0} (listing : S → Listing A) (b b' : Bounding S) : Type 0 where
  pub same : listing b'.source ≡ listing b.source
  pub lower : b'.lower ≡ b.lower
  pub upper : b'.upper ≡ b.upper

-- an item that is seen in a direction lies between the bounds
abbrev pub is_inside : {A : Type 0} → Takes A → Option (List ℕ) → Option (List ℕ) → Bool → A → Bool
is_inside takes lower upper forward x = if forward then takes false (upper_cut upper) x else not (takes true (lower_cut lower) x)

abbrev pub seen_inside : {A : Type 0} → Takes A → Option (List ℕ) → Option (List ℕ) → Bool → Option A → Option A
seen_inside takes lower upper forward here = option_and_then (λ x. if is_inside takes lower upper forward x then Some x else None) here

-- what is seen is what the part has, where the list is told
abbrev pub here_between : {A : Type 0} → Takes A → Option (List ℕ) → Option (List ℕ) → Bool → Option (List A) → Standing A → Option A
here_between takes lower upper forward (Some xs) s = option_and_then (λ g. item_from forward (between takes lower upper xs) (gap_between takes lower upper xs g)) s.gap
here_between takes lower upper forward None s = seen_inside takes lower upper forward s.here

-- it stands at a gap of the part where it faces a direction, and else at none
abbrev pub stands_between : {A : Type 0} → Takes A → Option (List ℕ) → Option (List ℕ) → Option Bool → Option (List A) → Standing A → Standing A
stands_between takes lower upper facing held s = record {
  gap = option_and_then (λ forward. option_map (λ g. option_map_or (λ xs. gap_between takes lower upper xs g) held g) s.gap) facing;
  forward = unwrap_or facing true;
  here = option_and_then (λ forward. here_between takes lower upper forward held s) facing;
  owed = s.owed;
  left = s.left;
}

-- what a source cut at bounds lists, and where it stands
abbrev pub lists : {A S : Type 0} → Takes A → (S → Listing A) → Bounding S → Listing A
lists takes listing b = bounded takes b.lower b.upper (listing b.source)

abbrev pub stands : {A S : Type 0} → Takes A → (S → Listing A) → (S → Standing A) → Bounding S → Standing A
stands takes listing standing b = stands_between takes b.lower b.upper b.facing (listing b.source).held (standing b.source)

-- forward a gap is not before the lower bound, and backward it is not behind the upper one
abbrev pub IsOnSide : Bool → (low high g : ℕ) → Type 0
IsOnSide true low high g = low ≤ g
IsOnSide false low high g = g ≤ high

-- The source faces the same way. It has not come beyond the bound from which it goes.
pub record IsBounding {A : Type 0} (takes : Takes A) (lower upper : Option (List ℕ)) (forward : Bool) (held : Option (List A)) (s : Standing A) : Type 0 where
  pub faces : IfSome s.gap (λ g. s.forward ≡ forward)
  pub side : IfSome held (λ xs. IfSome s.gap (IsOnSide forward (lows takes lower xs) (highs takes upper xs)))
