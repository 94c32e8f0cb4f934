-- Cuts of sorted lists, and the gaps between their items. A list of n items has the gaps 0 to n, and gap g stands
-- before item g.
use Rattle.std.specs.Prelude.{◌≡◌, ℕ, zero, suc, ◌+◌, ◌-◌, max, min, Bool, true, false, not, List, [], ◌∷◌, if◌then◌else◌, Option, None}
use denote.Ref.{Bor}
use Rattle.std.specs.List.{slice_get}
use Rattle.std.specs.Ordering.{is_lt}
use Rattle.rk_key.specs.Keys.{key_cmp}
use Rattle.rk_model.specs.declared.cut.Cut.{Cut}
use Rattle.rk_model.specs.declared.cut.Cut.TheVariants.{Start, Below, Past, End}

-- a cut whose key is lent, as a cut at that key
abbrev pub cut_copied : {K : Type 0} → Cut (Bor K) → Cut K
cut_copied Start = Start
cut_copied (Below key) = Below key.now
cut_copied (Past key) = Past key.now
cut_copied End = End

-- how many stand before the first item that a test doesn't take
abbrev pub count_before : {A : Type 0} → (A → Bool) → List A → ℕ
count_before takes [] = 0
count_before takes (x ∷ xs) = if takes x then count_before takes xs + 1 else 0

-- the item that is seen from a gap: the one behind it on the way forward, and the one before it on the way backward
abbrev pub item_from : {A : Type 0} → Bool → List A → ℕ → Option A
item_from true xs g = slice_get xs g
item_from false xs zero = None
item_from false xs (suc g) = slice_get xs g

-- the gap behind that item
abbrev pub gap_on : Bool → ℕ → ℕ
gap_on forward g = if forward then g + 1 else g - 1

-- the gap of a cut, or the one where one stands if that is beyond it
abbrev pub gap_past : Bool → ℕ → ℕ → ℕ
gap_past forward cut g = if forward then max cut g else min cut g

-- an item is passed where the cut is sought in a direction
abbrev pub is_passed : Bool → Bool → Bool
is_passed forward taken = if forward then taken else not taken

-- what stands before a cut stands before each later one
pub record CutsRise {A : Type 0} (takes : Cut (List ℕ) → A → Bool) (x : A) : Type 0 where
  pub first : takes Start x ≡ false
  pub last : takes End x ≡ true
  pub past : (k : List ℕ) → takes (Below k) x ≡ true → takes (Past k) x ≡ true
  pub on : (k l : List ℕ) → is_lt (key_cmp k l) ≡ true → takes (Past k) x ≡ true → takes (Below l) x ≡ true
  pub back : (k l : List ℕ) → is_lt (key_cmp k l) ≡ false → takes (Below l) x ≡ true → takes (Below k) x ≡ true
