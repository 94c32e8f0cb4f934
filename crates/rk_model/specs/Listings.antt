-- A list in memory, as a source.
use Rattle.std.specs.Prelude.{ℕ, ◌-◌, min, Bool, List, length, if◌then◌else◌, Option}
use Rattle.std.specs.Option.{option_map, option_map_or, option_and_then}
use Rattle.rk_model.specs.Cuts.{item_from}
use Rattle.rk_model.specs.Standings.{Standing}

-- what lends a list, a gap of it, if it is known, and a direction
pub record Placing (L : Type 0) : Type 0 where
  pub list : L
  pub gap : Option ℕ
  pub forward : Bool

-- so many items lie between a gap and the end
abbrev pub left_from : Bool → ℕ → ℕ → ℕ
left_from forward len g = if forward then len - g else g

-- what stands at a gap of items in memory
abbrev pub stands : {A : Type 0} → List A → Option ℕ → Bool → Standing A
stands items gap forward = record {
  gap = gap;
  forward = forward;
  here = option_and_then (item_from forward items) gap;
  owed = 0;
  left = option_map_or (left_from forward (length items)) gap 0;
}

-- the same, where a gap behind the end is the one at the end
abbrev pub stands_within : {A : Type 0} → List A → Option ℕ → Bool → Standing A
stands_within items gap forward = stands items (option_map (min (length items)) gap) forward
