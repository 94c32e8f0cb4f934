-- How the sources of a merge are moved, and what is read off them.
use Rattle.std.specs.Prelude.{◌≡◌, ℕ, ◌<◌, Bool, true, false, not, List, [], ◌∷◌, length, map, All, if◌then◌else◌, Option, Some, None, is_some, option_map, slice_index_or, IfSome, MatchOption, Result, ◌⊎◌}
use Rattle.std.specs.Ordering.{is_lt}
use Rattle.rk_key.specs.Keys.{key_cmp}
use Rattle.rk_model.specs.Lists.{none_of}
use Rattle.rk_model.specs.Cuts.{count_before, gap_past}
use Rattle.rk_model.specs.Items.{span_beside}
use Rattle.rk_model.specs.Standings.{Listing, Standing, Costs}
use Rattle.rk_model.specs.declared.span.RangeKey.{RangeKey}
use Rattle.rk_model.specs.declared.span.Span.{Span}
use Rattle.rk_outside.specs.Counts.{Counts}
use Rattle.rk_outside.specs.declared.error.SourceError.{SourceError}
use Rattle.rk_fragment.specs.Fragments.{insert_newest}
use Rattle.rk_merge.specs.Unions.{Among}
use Rattle.rk_merge.specs.Pools.{total}
use Rattle.rk_spanmerge.specs.Merges.{Merging, left_end, span_ends, keys_at, united, merged}

abbrev pub lt : List ℕ → List ℕ → Bool
lt x y = is_lt (key_cmp x y)

-- a span that stands before a key: forward one that ends at or below it, backward one that begins below it
abbrev pub takes : Bool → List ℕ → Span → Bool
takes forward x s = span_beside forward x s

-- a span goes on beyond a key: forward it ends above it, backward it begins below it
abbrev pub outlasts : Bool → List ℕ → Span → Bool
outlasts forward x s = if forward then lt x s.end else lt s.start x

-- the source stands at the gap of a test, and faces a direction
abbrev pub StandsAt : (Span → Bool) → Listing Span → Standing Span → Type 0
StandsAt test l s = IfSome l.held (λ ss. s.gap ≡ Some (count_before test ss))

pub record IsFacing (forward : Bool) (s : Standing Span) : Type 0 where
  pub known : is_some s.gap ≡ true
  pub faces : s.forward ≡ forward

-- the span that a source sees goes on beyond a key
abbrev pub Outlasts : Bool → List ℕ → Option Span → Type 0
Outlasts forward x here = IfSome here (λ t. outlasts forward x t ≡ true)

-- A source has gone past a key: it stays where what it sees goes on beyond that, and else has less left.
pub record Passed (forward : Bool) (x : List ℕ) (l : Listing Span) (s s' : Standing Span) : Type 0 where
  pub gap : IfSome l.held (λ ss. s'.gap ≡ option_map (gap_past forward (count_before (takes forward x) ss)) s.gap)
  pub faces : IsFacing forward s'
  pub beyond : Outlasts forward x s'.here
  pub moved : ((s'.here ≡ s.here) × (s'.left ≡ s.left)) ⊎ (s'.left < s.left)

-- an end is above the key, or below it, and one end is nearer to it than another
abbrev pub is_past : Bool → List ℕ → List ℕ → Bool
is_past forward x k = if forward then lt x k else lt k x

abbrev pub is_end_nearer : Bool → List ℕ → List ℕ → Bool
is_end_nearer forward j k = if forward then lt j k else lt k j

-- which end of the span that it sees is the nearest one of its source
abbrev pub end_seen : Bool → List ℕ → Span → List ℕ
end_seen true x s = if lt x s.start then s.start else s.end
end_seen false x s = if lt s.end x then s.end else s.start

-- the nearer one of what was found and an end
abbrev pub nearer_of : Bool → Option (List ℕ) → List ℕ → List ℕ
nearer_of forward None e = e
nearer_of forward (Some k) e = if is_end_nearer forward e k then e else k

-- the same with an end of the span that a source sees, if it sees one, and that end counts
abbrev pub with_seen : Bool → (List ℕ → Bool) → (Span → List ℕ) → Option (List ℕ) → Option Span → Option (List ℕ)
with_seen forward counts end found None = found
with_seen forward counts end found (Some s) = if counts (end s) then Some (nearer_of forward found (end s)) else found

-- with its nearest end, where that is beyond the key, and with the end at which it begins in a direction
abbrev pub with_end : Bool → List ℕ → Option (List ℕ) → Option Span → Option (List ℕ)
with_end forward x found here = with_seen forward (is_past forward x) (end_seen forward x) found here

abbrev pub counts_any : List ℕ → Bool
counts_any k = true

abbrev pub with_outer : Bool → Option (List ℕ) → Option Span → Option (List ℕ)
with_outer forward found here = with_seen forward counts_any (left_end (not forward)) found here

-- no end that counts is nearer than the one that was found
abbrev pub NoneNearer : Bool → (List ℕ → Bool) → Option (List ℕ) → List ℕ → Type 0
NoneNearer forward counts found k = MatchOption found (counts k ≡ false) (λ e. counts k ≡ true → is_end_nearer forward k e ≡ false)

-- the nearest of the ends that count: of those above a key, or below it, and of all
pub record IsNearestOf (forward : Bool) (counts : List ℕ → Bool) (ends : List (List ℕ)) (found : Option (List ℕ)) : Type 0 where
  pub among : IfSome found (λ e. Among e ends × (counts e ≡ true))
  pub nearest : (k : List ℕ) → Among k ends → NoneNearer forward counts found k

abbrev pub IsNearestEnd : Bool → List ℕ → List (List ℕ) → Option (List ℕ) → Type 0
IsNearestEnd forward x ends found = IsNearestOf forward (is_past forward x) ends found

abbrev pub IsOutermost : Bool → List (List ℕ) → Option (List ℕ) → Type 0
IsOutermost forward ends found = IsNearestOf forward counts_any ends found

-- what stands before the end of a list that a direction begins from
abbrev pub outside : Bool → Span → Bool
outside forward t = not forward

-- what a step in a direction leaves behind: the span that it leaves, or nothing yet where it turns at an end
abbrev pub leaves : Bool → Option Span → Span → Bool
leaves forward None = outside forward
leaves forward (Some c) = takes forward (left_end forward c)

-- an end beyond a key is that of a span that some source sees
pub record IsSeenEnd {S : Type 0} (standing : S → Standing Span) (ss : List S) (forward : Bool) (x e : List ℕ) : Type 0 where
  pub source : ℕ
  pub within : source < length ss
  pub span : Span
  pub here : (d : S) → (standing (slice_index_or ss source d)).here ≡ Some span
  pub end : end_seen forward x span ≡ e
  pub past : is_past forward x e ≡ true

-- a list with keys put into it, the last one first
abbrev pub insert_all : List RangeKey → List RangeKey → List RangeKey
insert_all [] keys = keys
insert_all (k ∷ ks) keys = insert_newest k (insert_all ks keys)

-- a span that doesn't reach the key: forward one that begins above it, backward one that ends below it
abbrev pub misses : Bool → List ℕ → Span → Bool
misses true x s = lt x s.start
misses false x s = lt s.end x

-- the range keys next to the key of the span that a source sees
abbrev pub keys_met : Bool → List ℕ → Option Span → List RangeKey
keys_met forward x None = []
keys_met forward x (Some s) = if misses forward x s then [] else s.keys

-- where the span between a key and the nearest end begins
abbrev pub first_end : Bool → List ℕ → List ℕ → List ℕ
first_end forward x e = if forward then x else e

-- the pool of spans has no range keys between a key and the nearest end
pub record IsBare (forward : Bool) (pool : List Span) (x : List ℕ) : Type 0 where
  pub end : List ℕ
  pub nearest : IsNearestEnd forward x (span_ends pool) (Some end)
  pub bare : none_of (keys_at pool (first_end forward x end)) ≡ true

-- the span of the pool between a key and the nearest end
pub record IsBetween (forward : Bool) (pool : List Span) (x : List ℕ) (c : Span) : Type 0 where
  pub from : left_end (not forward) c ≡ x
  pub nearest : IsNearestEnd forward x (span_ends pool) (Some (left_end forward c))
  pub keys : c.keys ≡ keys_at pool c.start
  pub some : none_of c.keys ≡ false

abbrev pub Shows : Bool → List Span → List ℕ → Option Span → Type 0
Shows forward pool x shown = MatchOption shown (IsNearestEnd forward x (span_ends pool) None ⊎ IsBare forward pool x) (IsBetween forward pool x)

-- all sources stand at the gap of a test, where the merge is told
abbrev pub AllStand : {S : Type 0} → (S → Listing Span) → (S → Standing Span) → List S → (Span → Bool) → Type 0
AllStand listing standing ss test = IfSome (united (map listing ss)) (λ xs. All (λ s. StandsAt test (listing s) (standing s)) ss)

abbrev pub AllFace : {S : Type 0} → (S → Standing Span) → List S → Bool → Type 0
AllFace standing ss forward = All (λ s. IsFacing forward (standing s)) ss

-- a span that begins, in a direction, at a key or beyond it, and reaches to an end that some source sees
pub record ReachesTo {S : Type 0} (standing : S → Standing Span) (ss : List S) (forward : Bool) (x : List ℕ) (c : Span) : Type 0 where
  pub from : is_past forward (left_end (not forward) c) x ≡ false
  pub end : IsSeenEnd standing ss forward (left_end (not forward) c) (left_end forward c)

-- the sources have come to a span: they stand next to it
pub record SettlesOn {S : Type 0} (listing : S → Listing Span) (standing : S → Standing Span) (ss : List S) (forward : Bool) (c : Span) : Type 0 where
  pub faces : AllFace standing ss forward
  pub stands : AllStand listing standing ss (takes forward (left_end (not forward) c))
  pub end : IsSeenEnd standing ss forward (left_end (not forward) c) (left_end forward c)

-- the span that is lent is one of the list, where it is told, and the sources stand next to it
pub record IsMerging {S : Type 0} (listing : S → Listing Span) (standing : S → Standing Span) (m : Merging S) : Type 0 where
  pub among : IfSome (united (map listing m.sources)) (λ xs. IfSome m.current (λ c. Among c xs))
  pub known : IfSome m.current (λ c. m.known ≡ true)
  pub arrives : IfSome m.current (SettlesOn listing standing m.sources m.forward)

-- what calls of the sources are as one call of the merge: nothing is read but what is owed
abbrev pub Pays : {S T : Type 0} → (S → Listing Span) → (S → Standing Span) → List S → List S → Counts → Counts → Result T SourceError → Type 0
Pays listing standing olds news before now result = Costs (merged (map listing olds)) (total (λ s. (standing s).owed) olds) (total (λ s. (standing s).owed) news) before now 0 0 result
