-- Sources: a sorted list, and a gap of it, seen in a direction.
use Rattle.std.specs.Prelude.{◌≡◌, ℕ, ◌+◌, ◌≤◌, Bool, true, false, ◌&&◌, ◌||◌, not, List, length, if◌then◌else◌, Option, None, is_some, IsTrue, IfSome, Result, OnOk, OnErr}
use Rattle.std.specs.Option.{option_map_or}
use Rattle.rk_outside.specs.Causes.{HasSourceCause}
use Rattle.rk_outside.specs.Counts.{Counts}
use Rattle.rk_outside.specs.declared.error.SourceError.{SourceError}
use Rattle.rk_model.specs.Cuts.{item_from, gap_on, gap_past, count_before}
use Rattle.rk_model.specs.declared.cut.Cut.{Cut}

-- What no call changes: the list, where it is told, and else which places of which files may be named as no table's;
-- then what may be read: by a seek of a cut in a direction, by a walk in a direction from its beginning up to a gap,
-- and by a turn to a direction at a gap.
pub record Listing (A : Type 0) : Type 0 where
  pub held : Option (List A)
  pub bad : ℕ → ℕ → Bool
  pub seek_price : Bool → Cut (List ℕ) → ℕ
  pub walk_price : Bool → ℕ → ℕ
  pub turn_price : Bool → ℕ → ℕ

-- The gap, if it is known, the direction, and the item that is seen; the reads that are owed once and then kept; and
-- how many items are left at most, whether the list is told or not.
pub record Standing (A : Type 0) : Type 0 where
  pub gap : Option ℕ
  pub forward : Bool
  pub here : Option A
  pub owed : ℕ
  pub left : ℕ

-- no bad table is named where the list is told
abbrev pub names : {A : Type 0} → Listing A → ℕ → ℕ → Bool
names l = λ file at. not (is_some l.held) && l.bad file at

-- two directions are one
abbrev pub agree : Bool → Bool → Bool
agree a b = if a then b else not b

-- a step that goes on has an item to pass, and one that turns has a gap to turn at
abbrev pub can_step : {A : Type 0} → Bool → Standing A → Bool
can_step forward s = is_some s.gap && (is_some s.here || not (agree forward s.forward))

-- the gap of a step: the next one, and the same one where it turns
abbrev pub step_gap : {A : Type 0} → Bool → Standing A → ℕ → ℕ
step_gap forward s g = if agree forward s.forward then gap_on forward g else g

-- Up to which reads a walk from a known gap has come, and up to which a call from it comes.
abbrev pub walked : {A : Type 0} → Listing A → Bool → Option ℕ → ℕ
walked l forward gap = option_map_or (l.walk_price forward) gap 0

abbrev pub step_from : {A : Type 0} → Listing A → Bool → Standing A → ℕ
step_from l forward s = if agree forward s.forward then walked l forward s.gap else 0

abbrev pub step_to : {A : Type 0} → Listing A → Bool → Standing A → ℕ
step_to l forward s = if agree forward s.forward then option_map_or (λ g. l.walk_price forward (gap_on forward g)) s.gap 0 else option_map_or (l.turn_price forward) s.gap 0

abbrev pub pass_to : {A : Type 0} → Listing A → Bool → (A → Bool) → Standing A → ℕ
pass_to l forward takes s = option_map_or (λ xs. option_map_or (λ g. l.walk_price forward (gap_past forward (count_before takes xs) g)) s.gap 0) l.held 0

-- What a call did to the counts of a reader, and to what is owed. A refusal has its cause, and no fault is passed
-- over. Where the list is told, the reads and what is owed rose together by no more than from one price to another;
-- where the call is refused, the reads alone rose by no more than that and what was owed.
pub record Costs {A T : Type 0} (l : Listing A) (owed owed' : ℕ) (before now : Counts) (from to : ℕ) (result : Result T SourceError) : Type 0 where
  pub cause : HasSourceCause (names l) before.faults now.faults result
  pub later : before.reads ≤ now.reads
  pub fewer : owed' ≤ owed
  pub paid : IsTrue (is_some l.held) → OnOk result (now.reads + owed' + from ≤ before.reads + owed + to)
  pub spent : IsTrue (is_some l.held) → OnErr result (now.reads + from ≤ before.reads + owed + to)

-- A call that goes to a gap of the list in a direction, or is lost where it is refused.
pub record Leads {A T : Type 0} (l l' : Listing A) (s' : Standing A) (forward : Bool) (to : List A → Option ℕ) (result : Result T SourceError) : Type 0 where
  pub same : l' ≡ l
  pub there : OnOk result (IfSome l.held (λ xs. s'.gap ≡ to xs))
  pub known : OnOk result (is_some s'.gap ≡ true)
  pub faces : OnOk result (s'.forward ≡ forward)
  pub lost : OnErr result (s'.gap ≡ None)

-- the gap lies in the list, and what is seen is the item there
pub record IsTold {A : Type 0} (l : Listing A) (s : Standing A) : Type 0 where
  pub within : IfSome l.held (λ xs. IfSome s.gap (λ g. g ≤ length xs))
  pub shown : IfSome l.held (λ xs. IfSome s.gap (λ g. s.here ≡ item_from s.forward xs g))
  pub lost : s.gap ≡ None → s.here ≡ None

-- a longer walk over a list that is told reads no less
pub record WalksRise {A : Type 0} (l : Listing A) : Type 0 where
  pub forward : IsTrue (is_some l.held) → (g h : ℕ) → g ≤ h → l.walk_price true g ≤ l.walk_price true h
  pub backward : IsTrue (is_some l.held) → (g h : ℕ) → g ≤ h → l.walk_price false h ≤ l.walk_price false g

-- nothing has a price
pub record IsFree {A : Type 0} (l : Listing A) : Type 0 where
  pub seek : (forward : Bool) (cut : Cut (List ℕ)) → l.seek_price forward cut ≡ 0
  pub walk : (forward : Bool) (g : ℕ) → l.walk_price forward g ≡ 0
  pub turn : (forward : Bool) (g : ℕ) → l.turn_price forward g ≡ 0

-- a list in memory, where it passes a test: nothing is read, and nothing owed
abbrev pub free_listing : {A : Type 0} → Option (List A) → Listing A
free_listing held = record {
  held = held;
  bad = λ file at. false;
  seek_price = λ forward cut. 0;
  walk_price = λ forward g. 0;
  turn_price = λ forward g. 0;
}
