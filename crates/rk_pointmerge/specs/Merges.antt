-- What a merge of points lists, and where it stands.
use Rattle.std.specs.Prelude.{◌≡◌, ℕ, Bool, true, false, List, length, map, All, if◌then◌else◌, Option, Some, None, is_some, unwrap_or, option_and_then, IfSome, IsTrue}
use Rattle.std.specs.List.{slice_get}
use Rattle.std.specs.Option.{option_map_or}
use Rattle.std.specs.Ordering.{is_lt}
use Rattle.rk_model.specs.Cuts.{count_before, item_from}
use Rattle.rk_model.specs.Items.{keyed_points, sound}
use Rattle.rk_model.specs.Sources.{entry_cmp}
use Rattle.rk_model.specs.Standings.{Listing, Standing}
use Rattle.rk_model.specs.declared.op.Entry.{Entry}
use Rattle.rk_merge.specs.Unions.{union}
use Rattle.rk_merge.specs.Pools.{total, told_items, all_told, some_names}
use Rattle.rk_merge.specs.Cuts.{is_nearer}

abbrev pub comes_before : Entry → Entry → Bool
comes_before e f = is_lt (entry_cmp e f)

abbrev pub whole : List (Listing Entry) → List Entry
whole ls = union comes_before (map told_items ls)

-- the union of what the sources list, where each is told, and no two entries over one key have one number
abbrev pub united : List (Listing Entry) → Option (List Entry)
united ls = if all_told ls then sound keyed_points (whole ls) else None

-- how many of a source's entries stand before a gap of the union
abbrev pub share : List Entry → ℕ → List Entry → ℕ
share us g xs = option_map_or (λ u. count_before (λ x. comes_before x u) xs) (slice_get us g) (length xs)

abbrev pub merged : List (Listing Entry) → Listing Entry
merged ls = record {
  held = united ls;
  bad = some_names ls;
  seek_price = λ forward cut. total (λ l. l.seek_price forward cut) ls;
  walk_price = λ forward g. total (λ l. l.walk_price forward (share (whole ls) g (told_items l))) ls;
  turn_price = λ forward g. total (λ l. l.turn_price forward (share (whole ls) g (told_items l))) ls;
}

-- the gaps of the sources together, what they owe, and what is left of them
abbrev pub come : {S : Type 0} → (S → Standing Entry) → List S → ℕ
come standing ss = total (λ s. unwrap_or (standing s).gap 0) ss

abbrev pub owes : {S : Type 0} → (S → Standing Entry) → List S → ℕ
owes standing ss = total (λ s. (standing s).owed) ss

abbrev pub still : {S : Type 0} → (S → Standing Entry) → List S → ℕ
still standing ss = total (λ s. (standing s).left) ss

-- what one of the sources shows
abbrev pub shown : {S : Type 0} → (S → Standing Entry) → List S → Option ℕ → Option Entry
shown standing ss at = option_and_then (λ i. option_and_then (λ s. (standing s).here) (slice_get ss i)) at

-- what is seen from a gap of the union, and what is shown where that isn't told
abbrev pub seen_from : Option (List Entry) → Bool → ℕ → Option Entry → Option Entry
seen_from (Some us) forward g e = item_from forward us g
seen_from None forward g e = e

abbrev pub merged_standing : {S : Type 0} → (S → Listing Entry) → (S → Standing Entry) → List S → Option ℕ → Bool → Bool → Standing Entry
merged_standing listing standing ss at forward known = record {
  gap = if known then Some (come standing ss) else None;
  forward = forward;
  here = if known then seen_from (united (map listing ss)) forward (come standing ss) (shown standing ss at) else None;
  owed = owes standing ss;
  left = still standing ss;
}

-- the sources, that of them which shows the entry, the direction, and whether the gaps are known
pub record Merging (S : Type 0) : Type 0 where
  pub sources : List S
  pub at : Option ℕ
  pub forward : Bool
  pub known : Bool

abbrev pub merging : {S : Type 0} → (S → Listing Entry) → (S → Standing Entry) → Merging S → Standing Entry
merging listing standing m = merged_standing listing standing m.sources m.at m.forward m.known

-- an entry is nearer than the nearest so far, which there may not be
abbrev pub beats : Bool → Option Entry → Option Entry → Bool
beats forward None f = false
beats forward (Some e) None = true
beats forward (Some e) (Some f) = is_nearer forward comes_before e f

-- each source has a gap, and faces the same way
abbrev pub Faces : {S : Type 0} → (S → Standing Entry) → Bool → List S → Type 0
Faces standing forward ss = All (λ s. (is_some (standing s).gap ≡ true) × ((standing s).forward ≡ forward)) ss

-- no source shows an entry that is nearer than that of this one
abbrev pub IsNearest : {S : Type 0} → (S → Standing Entry) → Bool → List S → Option ℕ → Type 0
IsNearest standing forward ss at = All (λ s. beats forward (standing s).here (shown standing ss at) ≡ false) ss

-- each source stands at its share of a gap of the union
abbrev pub InShares : {S : Type 0} → (S → Listing Entry) → (S → Standing Entry) → List S → Type 0
InShares listing standing ss = IfSome (united (map listing ss)) (λ us. All (λ s. (standing s).gap ≡ Some (share us (come standing ss) (told_items (listing s)))) ss)

-- and one shows the nearest entry
pub record StandTogether {S : Type 0} (listing : S → Listing Entry) (standing : S → Standing Entry) (ss : List S) (at : Option ℕ) (forward : Bool) : Type 0 where
  pub faces : Faces standing forward ss
  pub nearest : IsNearest standing forward ss at
  pub shares : InShares listing standing ss

-- a merge that is lost shows nothing
pub record Rests {S : Type 0} (listing : S → Listing Entry) (standing : S → Standing Entry) (m : Merging S) : Type 0 where
  pub stands : IsTrue m.known → StandTogether listing standing m.sources m.at m.forward
  pub lost : m.known ≡ false → m.at ≡ None
