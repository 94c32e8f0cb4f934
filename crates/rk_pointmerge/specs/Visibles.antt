-- What is seen of points at a number: of each key its newest entry that is numbered at most so, where that is a put.
use Rattle.std.specs.Prelude.{◌≡◌, ℕ, zero, suc, ◌+◌, ◌-◌, ◌<◌, ◌≤◌, nat_lt, nat_le, Bool, true, false, ◌&&◌, ◌||◌, not, List, [], ◌∷◌, length, take, filter, Option, Some, None, is_some, IfSome, if◌then◌else◌, option_map, option_and_then, unwrap_or, ◌⊎◌, slice_get, Result, OnOk}
use Rattle.std.specs.List.{list_any}
use Rattle.std.specs.Option.{option_map_or}
use Rattle.std.specs.Ordering.{is_eq}
use Rattle.rk_key.specs.Keys.{key_cmp, IsKey}
use Rattle.rk_model.specs.Cuts.{count_before, item_from}
use Rattle.rk_model.specs.Items.{point_takes}
use Rattle.rk_model.specs.Sources.{op_key}
use Rattle.rk_model.specs.Standings.{Listing, Standing}
use Rattle.rk_model.specs.declared.op.Op.{Op}
use Rattle.rk_model.specs.declared.op.Op.TheVariants.{Put, Del, RangeSet, RangeUnset, RangeDel}
use Rattle.rk_model.specs.declared.op.Entry.{Entry}

abbrev pub is_put : Op → Bool
is_put (Put key value) = true
is_put (Del key) = false
is_put (RangeSet start end suffix value) = false
is_put (RangeUnset start end suffix) = false
is_put (RangeDel start end) = false

-- two entries are over one key
abbrev pub one_key : Entry → Entry → Bool
one_key f e = is_eq (key_cmp (op_key f.op) (op_key e.op))

-- the first is over the key of the second, numbered at most n, and newer
abbrev pub outdates : ℕ → Entry → Entry → Bool
outdates n f e = one_key f e && nat_le f.seq n && nat_lt e.seq f.seq

abbrev pub is_visible : ℕ → List Entry → Entry → Bool
is_visible n es e = is_put e.op && nat_le e.seq n && not (list_any (λ f. outdates n f e) es)

abbrev pub visible : ℕ → List Entry → List Entry
visible n es = filter (is_visible n es) es

-- where the item stands that has so many before it of those that pass a test, and the length where there is none
abbrev pub place_of : {A : Type 0} → (A → Bool) → List A → ℕ → ℕ
place_of p [] v = 0
place_of p (x ∷ xs) zero = if p x then 0 else suc (place_of p xs 0)
place_of p (x ∷ xs) (suc v) = suc (if p x then place_of p xs v else place_of p xs (suc v))

-- how many of the first items pass a test
abbrev pub count_to : {A : Type 0} → (A → Bool) → List A → ℕ → ℕ
count_to p xs g = length (filter p (take g xs))

-- where the visible entry behind a gap between the visible ones stands, and the end behind the last
abbrev pub shown_at : ℕ → List Entry → ℕ → ℕ
shown_at n es v = place_of (is_visible n es) es v

-- where the entry that is seen from a gap between the visible ones stands, and the end where there is none
abbrev pub stood_at : Bool → ℕ → List Entry → ℕ → ℕ
stood_at true n es v = shown_at n es v
stood_at false n es zero = 0
stood_at false n es (suc v) = shown_at n es v

-- what is read from one price of a walk to another
abbrev pub read_on : Listing Entry → Bool → ℕ → ℕ → ℕ
read_on l forward g h = l.walk_price forward h - l.walk_price forward g

-- A seek goes on to where the entry stands that is seen; a turn goes on from where the one stands that was seen.
abbrev pub viewed : ℕ → Listing Entry → Listing Entry
viewed n l = record {
  held = option_map (visible n) l.held;
  bad = l.bad;
  seek_price = λ forward cut. option_map_or (λ es. l.seek_price forward cut + read_on l forward (count_before (point_takes cut) es) (stood_at forward n es (count_before (point_takes cut) (visible n es)))) l.held 0;
  walk_price = λ forward v. option_map_or (λ es. l.walk_price forward (stood_at forward n es v)) l.held 0;
  turn_price = λ forward v. option_map_or (λ es. l.turn_price forward (stood_at (not forward) n es v) + read_on l forward (stood_at (not forward) n es v) (stood_at forward n es v)) l.held 0;
}

-- The source below, the number, the entry that is seen backward, and the direction, or none where it is lost.
pub record Viewing (S : Type 0) : Type 0 where
  pub merge : S
  pub n : ℕ
  pub kept : Option Entry
  pub facing : Option Bool

-- what is kept stands behind the gap of the source
abbrev pub gap_seen : Bool → Option Entry → ℕ → ℕ
gap_seen forward kept g = if forward then g else (if is_some kept then suc g else g)

-- the visible entries before that
abbrev pub sees : Bool → ℕ → List Entry → Option Entry → ℕ → ℕ
sees forward n es kept g = count_to (is_visible n es) es (gap_seen forward kept g)

abbrev pub viewed_gap : Bool → ℕ → Option Entry → Listing Entry → Standing Entry → Option ℕ
viewed_gap forward n kept l s = option_map (λ g. option_map_or (λ es. sees forward n es kept g) l.held g) s.gap

abbrev pub viewed_here : Bool → ℕ → Option Entry → Listing Entry → Standing Entry → Option Entry
viewed_here forward n kept l s = option_and_then (λ g. option_map_or (λ es. item_from forward (visible n es) (sees forward n es kept g)) l.held (if forward then s.here else kept)) s.gap

abbrev pub viewed_left : Bool → Option Entry → Standing Entry → ℕ
viewed_left forward kept s = if forward then s.left else option_map_or (λ e. s.left + 1) kept 0

abbrev pub viewed_from : ℕ → Option Entry → Option Bool → Listing Entry → Standing Entry → Standing Entry
viewed_from n kept facing l s = record {
  gap = option_and_then (λ forward. viewed_gap forward n kept l s) facing;
  forward = unwrap_or facing true;
  here = option_and_then (λ forward. viewed_here forward n kept l s) facing;
  owed = s.owed;
  left = option_map_or (λ forward. viewed_left forward kept s) facing 0;
}

abbrev pub viewing_listing : {S : Type 0} → (S → Listing Entry) → Viewing S → Listing Entry
viewing_listing listing v = viewed v.n (listing v.merge)

abbrev pub viewing_standing : {S : Type 0} → (S → Listing Entry) → (S → Standing Entry) → Viewing S → Standing Entry
viewing_standing listing standing v = viewed_from v.n v.kept v.facing (listing v.merge) (standing v.merge)

-- forward the source stands at a visible entry or at the end, and backward before the one that is kept or at the start
abbrev pub IsShown : Bool → ℕ → List Entry → Option Entry → ℕ → Type 0
IsShown true n es kept g = IfSome (slice_get es g) (λ e. is_visible n es e ≡ true)
IsShown false n es None g = g ≡ 0
IsShown false n es (Some e) g = (slice_get es g ≡ Some e) × (is_visible n es e ≡ true)

-- a visible entry stands behind the gap
abbrev pub IsAtVisible : ℕ → List Entry → ℕ → Type 0
IsAtVisible n es g = (e : Entry) × (slice_get es g ≡ Some e) × (is_visible n es e ≡ true)

pub record IsViewing (forward : Bool) (n : ℕ) (kept : Option Entry) (l : Listing Entry) (s : Standing Entry) : Type 0 where
  pub known : is_some s.gap ≡ true
  pub faces : s.forward ≡ forward
  pub told : IfSome l.held (λ es. IfSome s.gap (IsShown forward n es kept))

-- a key that is kept, if one is
abbrev pub kept_key : List ℕ → Option (List ℕ)
kept_key [] = None
kept_key (b ∷ bs) = Some (b ∷ bs)

abbrev pub IsKeyOrNone : List ℕ → Type 0
IsKeyOrNone bytes = (bytes ≡ []) ⊎ IsKey bytes

abbrev pub is_kept : Option (List ℕ) → List ℕ → Bool
is_kept None key = false
is_kept (Some kept) key = is_eq (key_cmp key kept)

-- an entry is passed on the way forward: it is too new, or of the key that is kept, or a delete, whose key is kept from now on
abbrev pub LooksPast : ℕ → Entry → Option (List ℕ) → Option (List ℕ) → Bool → Type 0
LooksPast n e key key' true = ((key' ≡ key) × ((n < e.seq) ⊎ (is_kept key (op_key e.op) ≡ true))) ⊎ ((key' ≡ Some (op_key e.op)) × (is_put e.op ≡ false) × (e.seq ≤ n))
LooksPast n e key key' false = (key' ≡ key) × (is_kept key (op_key e.op) ≡ false) × (is_put e.op ≡ true) × (e.seq ≤ n)

-- The key that is kept is of an entry before the gap that is numbered at most n; and it is that of the entry behind
-- the gap, where one before it is over the same key.
pub record Skips (n : ℕ) (es : List Entry) (key : Option (List ℕ)) (g : ℕ) : Type 0 where
  pub kept : IfSome key (λ k. (j : ℕ) × (d : Entry) × (j < g) × (slice_get es j ≡ Some d) × (op_key d.op ≡ k) × (d.seq ≤ n))
  pub split : (j : ℕ) (d e : Entry) → j < g → slice_get es j ≡ Some d → slice_get es g ≡ Some e → d.seq ≤ n → one_key d e ≡ true → is_kept key (op_key e.op) ≡ true

abbrev pub MaySkip : ℕ → Option (List ℕ) → Listing Entry → Standing Entry → Type 0
MaySkip n key l s = IfSome l.held (λ es. IfSome s.gap (Skips n es key))

-- up to which reads a way on from a known gap comes
abbrev pub look_to : Bool → ℕ → Listing Entry → Option ℕ → ℕ
look_to forward n l gap = option_map_or (λ es. option_map_or (λ g. l.walk_price forward (stood_at forward n es (count_to (is_visible n es) es g))) gap 0) l.held 0

-- From a gap of the source on to what is seen in a direction, with as many visible entries before it.
pub record Looks {T E : Type 0} (forward : Bool) (n : ℕ) (kept' : Option Entry) (l l' : Listing Entry) (gap : Option ℕ) (s' : Standing Entry) (result : Result T E) : Type 0 where
  pub same : l' ≡ l
  pub stands : OnOk result (IsViewing forward n kept' l s')
  pub there : OnOk result (IfSome l.held (λ es. option_map (sees forward n es kept') s'.gap ≡ option_map (count_to (is_visible n es) es) gap))

-- from what is seen on the way is looked on from behind it, which backward is where the source stands
abbrev pub left_gap : Bool → Option ℕ → Option ℕ
left_gap forward gap = if forward then option_map (λ g. suc g) gap else gap

-- a turn goes on from where what was seen stands
abbrev pub turn_to : Bool → ℕ → Option Entry → Listing Entry → Option ℕ → ℕ
turn_to forward n kept l gap = option_map_or (λ es. option_map_or (λ g. l.turn_price forward g + read_on l forward g (stood_at forward n es (sees (not forward) n es kept g))) gap 0) l.held 0

-- From what is seen to a gap between the visible entries.
pub record GoesToGap {T E : Type 0} (forward : Bool) (n : ℕ) (kept' : Option Entry) (l l' : Listing Entry) (s' : Standing Entry) (to : List Entry → Option ℕ) (result : Result T E) : Type 0 where
  pub same : l' ≡ l
  pub stands : OnOk result (IsViewing forward n kept' l s')
  pub there : OnOk result (IfSome l.held (λ es. option_map (sees forward n es kept') s'.gap ≡ to es))

-- on the way backward: what is kept of an entry that is passed, and whether the entry before what is kept is another
abbrev pub kept_from : ℕ → Entry → Option Entry
kept_from n e = if nat_le e.seq n && is_put e.op then Some e else None

abbrev pub is_settled : ℕ → Option Entry → Entry → Bool
is_settled n None d = false
is_settled n (Some e) d = nat_lt n d.seq || not (one_key d e)
