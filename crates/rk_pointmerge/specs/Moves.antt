-- How the sources of a merge move.
use Rattle.std.specs.Prelude.{◌≡◌, ◌≢◌, ℕ, ◌<◌, ◌≤◌, Bool, true, false, List, length, map, Option, is_some, IfSome, IsTrue, Result, OnOk, IfOk, slice_index_or}
use Rattle.std.specs.Option.{option_map, option_map_or}
use Rattle.rk_outside.specs.Counts.{Counts}
use Rattle.rk_outside.specs.declared.error.SourceError.{SourceError}
use Rattle.rk_model.specs.Cuts.{count_before, gap_on, gap_past, is_passed}
use Rattle.rk_model.specs.Standings.{Listing, Standing, Costs, walked}
use Rattle.rk_model.specs.declared.op.Entry.{Entry}
use Rattle.rk_merge.specs.Pools.{total}
use Rattle.rk_pointmerge.specs.Merges.{united, merged, come, owes, StandTogether}

-- a source has come to a gap of its list, where that is told
pub record Reaches (l : Listing Entry) (s : Standing Entry) (forward : Bool) (to : List Entry → Option ℕ) : Type 0 where
  pub there : IfSome l.held (λ xs. s.gap ≡ to xs)
  pub known : is_some s.gap ≡ true
  pub faces : s.forward ≡ forward

-- and it has passed what a test passes
pub record PassesCut (l : Listing Entry) (s s' : Standing Entry) (forward : Bool) (takes : Entry → Bool) : Type 0 where
  pub reaches : Reaches l s' forward (λ xs. option_map (gap_past forward (count_before takes xs)) s.gap)
  pub beyond : IfSome s'.here (λ x. is_passed forward (takes x) ≡ false)
  pub left : s'.left ≤ s.left
  pub fewer : IfSome s.here (λ x. IsTrue (is_passed forward (takes x)) → s'.left < s.left)

-- Each source has moved, from one price to another.
pub record AllMove {S T : Type 0} (listing : S → Listing Entry) (standing : S → Standing Entry) (Moves : S → S → Type 0) (from to : S → ℕ) (olds news : List S) (c c' : Counts) (result : Result T SourceError) : Type 0 where
  pub ok : OnOk result ((k : ℕ) (d : S) → k < length olds → Moves (slice_index_or olds k d) (slice_index_or news k d))
  pub same : map listing news ≡ map listing olds
  pub costs : Costs (merged (map listing olds)) (owes standing olds) (owes standing news) c c' (total from olds) (total to olds) result

-- The sources have come to stand at a gap of the union, and one shows the nearest entry.
pub record Arrives {S : Type 0} (listing : S → Listing Entry) (standing : S → Standing Entry) (olds news : List S) (forward : Bool) (to : List Entry → ℕ) (c c' : Counts) (from_price to_price : ℕ) (result : Result (Option ℕ) SourceError) : Type 0 where
  pub stands : IfOk result (λ at. StandTogether listing standing news at forward)
  pub there : OnOk result (IfSome (united (map listing olds)) (λ us. come standing news ≡ to us))
  pub same : map listing news ≡ map listing olds
  pub costs : Costs (merged (map listing olds)) (owes standing olds) (owes standing news) c c' from_price to_price result

-- One of the sources has stepped in its direction, and the others are as they were.
pub record OneMoves {S T : Type 0} (listing : S → Listing Entry) (standing : S → Standing Entry) (olds news : List S) (at : ℕ) (forward : Bool) (c c' : Counts) (result : Result T SourceError) : Type 0 where
  pub ok : OnOk result ((d : S) → Reaches (listing (slice_index_or olds at d)) (standing (slice_index_or news at d)) forward (λ xs. option_map (gap_on forward) (standing (slice_index_or olds at d)).gap))
  pub fewer : OnOk result ((d : S) → (standing (slice_index_or news at d)).left < (standing (slice_index_or olds at d)).left)
  pub others : (k : ℕ) (d : S) → k ≢ at → slice_index_or news k d ≡ slice_index_or olds k d
  pub same : map listing news ≡ map listing olds
  pub costs : (d : S) → Costs (merged (map listing olds)) (owes standing olds) (owes standing news) c c' (walked (listing (slice_index_or olds at d)) forward (standing (slice_index_or olds at d)).gap)
      (option_map_or (λ g. (listing (slice_index_or olds at d)).walk_price forward (gap_on forward g)) (standing (slice_index_or olds at d)).gap 0) result
