-- Reading a source out, from a gap in a direction.
use Rattle.std.specs.Prelude.{ℕ, Bool, List, length, take, drop, reverse, if◌then◌else◌}
use Rattle.std.specs.Option.{option_map_or}
use Rattle.rk_model.specs.Standings.{Listing}

-- the items behind a gap, or those before it, the last first
abbrev pub read_from : {A : Type 0} → Bool → ℕ → List A → List A
read_from forward g xs = if forward then drop g xs else reverse (take g xs)

-- the last gap in a direction
abbrev pub end_gap : {A : Type 0} → Bool → List A → ℕ
end_gap forward xs = if forward then length xs else 0

-- up to which reads a walk comes at a gap of the list
abbrev pub walk_at : {A : Type 0} → Listing A → Bool → (List A → ℕ) → ℕ
walk_at l forward at = option_map_or (λ xs. l.walk_price forward (at xs)) l.held 0
