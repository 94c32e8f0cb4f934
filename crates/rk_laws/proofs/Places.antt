-- Positions, and where moves lead.
use Rattle.std.proofs.Common.{◌≡◌, ℕ, Bool, true, false, not, ◌&&◌, List, [], ◌∷◌, ◌++◌, filter, Option, Some, None, is_some, refl, ap, sym, ◌∙◌, ◌⊎◌, inl, inr, flat_map, if◌then◌else◌}
use Rattle.std.specs.Ordering.{is_lt}
use Rattle.std.proofs.lemmas.Bool.{and_parts}
use Rattle.rk_key.specs.Keys.{key_cmp}
use Rattle.rk_model.specs.Covers.{cover}
use Rattle.rk_model.specs.Lists.{first_of, last_of, none_of, Among}
use Rattle.rk_model.specs.Spans.{in_bounds, written_ends, KeysRise}
use Rattle.rk_model.specs.Positions.{shown, put_key, begins_span, positions}
use Rattle.rk_model.specs.Moves.{Move, First, Last, Next, Prev, SeekGe, SeekLt, at_or, least, greatest, raised, lowered, sought, moved}
use Rattle.rk_model.specs.declared.op.Entry.{Entry}
use Rattle.rk_model.specs.declared.options.IterOptions.{IterOptions}
use Rattle.rk_model.specs.declared.cursor.Cursor.{Cursor}
use Rattle.rk_model.specs.declared.cursor.Cursor.TheVariants.{Fresh, Start, At, End}
use Rattle.rk_laws.specs.Neighbours.{PositionsRise, CursorWithinBounds}
use Rattle.rk_model.proofs.Members.{Ascending, among_append, filter_among, first_among}
use Rattle.rk_model.proofs.SortedKeys.{sorted_among}
use Rattle.rk_laws.proofs.Ends.{lt, sorted_ascends}

-- the puts with a shown point
abbrev pub shown_puts : List Entry → IterOptions → List (List ℕ)
shown_puts es o = filter (λ x. in_bounds o x && is_some (shown es o x)) (flat_map (λ e. put_key e.op) es)

-- the written ends at which spans begin
abbrev pub span_ends : List Entry → IterOptions → List (List ℕ)
span_ends es o = filter (λ x. in_bounds o x && begins_span es o x) (written_ends es o)

rises : (l : List (List ℕ)) → Ascending lt l → KeysRise l
rises [] h = tt
rises (x ∷ xs) h = (h.0, rises xs h.1)

pub positions_rise : PositionsRise
positions_rise es o = rises (positions es o) (sorted_ascends (shown_puts es o ++ span_ends es o))

pub position_inside : (es : List Entry) (o : IterOptions) (x : List ℕ) → Among x (positions es o) → in_bounds o x ≡ true
position_inside es o x m = go (among_append (shown_puts es o) (span_ends es o) x (sorted_among (shown_puts es o ++ span_ends es o) x m))
  where
    go : Among x (shown_puts es o) ⊎ Among x (span_ends es o) → in_bounds o x ≡ true
    go (inl n) = (and_parts (in_bounds o x) (is_some (shown es o x)) (filter_among (λ x. in_bounds o x && is_some (shown es o x)) (flat_map (λ e. put_key e.op) es) x n).1).0
    go (inr n) = (and_parts (in_bounds o x) (begins_span es o x) (filter_among (λ x. in_bounds o x && begins_span es o x) (written_ends es o) x n).1).0

pub last_among : {X : Type 0} (xs : List X) (a : X) → last_of xs ≡ Some a → Among a xs
last_among [] a h = cc
last_among (x ∷ []) a h = inl cc
last_among (x ∷ y ∷ ys) a h = inr (last_among (y ∷ ys) a h)

at_key : (k : Cursor) (found : Option (List ℕ)) (x : List ℕ) → (k ≡ At x → ⊥) → at_or k found ≡ At x → found ≡ Some x
at_key k None x h e = absurd (h e)
at_key k (Some y) x h e = cc

pub least_among : (keys : List (List ℕ)) (x : List ℕ) → least keys ≡ At x → Among x keys
least_among keys x h = first_among keys x (at_key End (first_of keys) x (λ e. cc) h)

pub greatest_among : (keys : List (List ℕ)) (x : List ℕ) → greatest keys ≡ At x → Among x keys
greatest_among keys x h = last_among keys x (at_key Start (last_of keys) x (λ e. cc) h)

-- the key that a move seeks, where it is within the bounds
abbrev pub Sought : IterOptions → Move → List ℕ → Type 0
Sought o First x = ⊥
Sought o Last x = ⊥
Sought o Next x = ⊥
Sought o Prev x = ⊥
Sought o (SeekGe k) x = (raised o.lower k ≡ x) × (in_bounds o x ≡ true)
Sought o (SeekLt k) x = ⊥

module _ (es : List Entry) (o : IterOptions) where
  least_inside : (t : List ℕ → Bool) (x : List ℕ) → least (filter t (positions es o)) ≡ At x → Among x (positions es o)
  least_inside t x h = (filter_among t (positions es o) x (least_among (filter t (positions es o)) x h)).0

  greatest_inside : (t : List ℕ → Bool) (x : List ℕ) → greatest (filter t (positions es o)) ≡ At x → Among x (positions es o)
  greatest_inside t x h = (filter_among t (positions es o) x (greatest_among (filter t (positions es o)) x h)).0

  -- a key found by seeking: the key sought, where it has a cover, or a position
  pub sought_is : (k x : List ℕ) → sought es o k ≡ At x → ((k ≡ x) × (in_bounds o x ≡ true)) ⊎ Among x (positions es o)
  sought_is k x h = go (in_bounds o k) refl (none_of (cover es k)) h
    where
      go : (a : Bool) → in_bounds o k ≡ a → (b : Bool) → (if not a then End else (if b then least (filter (λ p. not (is_lt (key_cmp p k))) (positions es o)) else At k)) ≡ At x → ((k ≡ x) × (in_bounds o x ≡ true)) ⊎ Among x (positions es o)
      go false e b h = cc
      go true e true h = inr (least_inside (λ p. not (is_lt (key_cmp p k))) x h)
      go true e false h = let f : k ≡ x = cc in inl (f, sym (ap (in_bounds o) f) ∙ e)

  -- a cursor at a key is at the key that was sought, or at a position
  pub moved_is : (c : Cursor) (move : Move) (x : List ℕ) → moved es o c move ≡ At x → Among x (positions es o) ⊎ Sought o move x
  moved_is c First x h = inl (least_among (positions es o) x h)
  moved_is c Last x h = inl (greatest_among (positions es o) x h)
  moved_is Fresh Next x h = inl (least_among (positions es o) x h)
  moved_is Start Next x h = inl (least_among (positions es o) x h)
  moved_is (At y) Next x h = inl (least_inside (λ p. is_lt (key_cmp y p)) x h)
  moved_is End Next x h = cc
  moved_is Fresh Prev x h = inl (greatest_among (positions es o) x h)
  moved_is Start Prev x h = cc
  moved_is (At y) Prev x h = inl (greatest_inside (λ p. is_lt (key_cmp p y)) x h)
  moved_is End Prev x h = inl (greatest_among (positions es o) x h)
  moved_is c (SeekGe k) x h = elim (sought_is (raised o.lower k) x h) [ inl e ↦ inr e | inr m ↦ inl m ]
  moved_is c (SeekLt k) x h = inl (greatest_inside (λ p. is_lt (key_cmp p (lowered o.upper k))) x h)

sought_inside : (o : IterOptions) (move : Move) (x : List ℕ) → Sought o move x → in_bounds o x ≡ true
sought_inside o First x h = absurd h
sought_inside o Last x h = absurd h
sought_inside o Next x h = absurd h
sought_inside o Prev x h = absurd h
sought_inside o (SeekGe k) x h = h.1
sought_inside o (SeekLt k) x h = absurd h

pub cursor_within_bounds : CursorWithinBounds
cursor_within_bounds es o c move x h = elim (moved_is es o c move x h) [ inl m ↦ position_inside es o x m | inr k ↦ sought_inside o move x k ]
