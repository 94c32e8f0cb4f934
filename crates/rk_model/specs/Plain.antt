-- What the plain evaluator keeps, and its moves over a list of positions.
use Rattle.std.specs.Prelude.{◌≡◌, ℕ, ◌&&◌, ◌||◌, not, List, [], ◌∷◌, map, filter, if◌then◌else◌, Option, None, is_some}
use Rattle.std.specs.List.{list_all, flat_map}
use Rattle.std.specs.Option.{option_and_then, option_map}
use Rattle.std.specs.Ordering.{is_lt}
use Rattle.rk_key.specs.Keys.{key_cmp}
use Rattle.rk_model.specs.Covers.{cover}
use Rattle.rk_model.specs.Lists.{first_of, none_of}
use Rattle.rk_model.specs.Spans.{in_bounds, below, same_cover, insert_key, written_ends, WidestSpan}
use Rattle.rk_model.specs.Positions.{positions, shown, put_key, begins_span}
use Rattle.rk_model.specs.Moves.{least, greatest, lowered, key_at, span_of, span_changed, View}
use Rattle.rk_model.specs.declared.op.Entry.{Entry}
use Rattle.rk_model.specs.declared.span.SuffixValue.{SuffixValue}
use Rattle.rk_model.specs.declared.options.IterOptions.{IterOptions}
use Rattle.rk_model.specs.declared.cursor.Cursor.{Cursor}
use Rattle.rk_model.specs.declared.cursor.Cursor.TheVariants.{Fresh, Start, At, End}
use Rattle.rk_model.specs.declared.plain.ends.EndCover.{EndCover}

-- each written end, and the cover there
abbrev pub covered_ends : List Entry → IterOptions → List EndCover
covered_ends es o = map (λ a. record { key = a; cover = cover es a }) (written_ends es o)

-- the start and the end of the span of a key, found among ends with their covers
abbrev pub start_among : List EndCover → List ℕ → List SuffixValue → Option EndCover
start_among all x pairs =
    let ends = filter (λ a. not (is_lt (key_cmp x a.key))) all in
    first_of (filter (λ a. list_all (λ b. is_lt (key_cmp b.key a.key) || same_cover b.cover pairs) ends) ends)

abbrev pub end_among : IterOptions → List EndCover → List ℕ → List SuffixValue → Option EndCover
end_among o all x pairs =
    first_of (filter (λ a. is_lt (key_cmp x a.key) && (not (below o.upper a.key) || not (same_cover a.cover pairs))) all)

abbrev pub span_among : IterOptions → List EndCover → List ℕ → List SuffixValue → Option WidestSpan
span_among o all x pairs =
    if none_of pairs
    then None
    else option_and_then (λ s. option_map (λ e. record { start = s.key; end = e.key; cover = pairs }) (end_among o all x pairs)) (start_among all x pairs)

-- the keys within the bounds with a shown point, and the starts of spans, before they are sorted
abbrev pub shown_points : List Entry → IterOptions → List Entry → List (List ℕ)
shown_points es o part = filter (λ x. in_bounds o x && is_some (shown es o x)) (flat_map (λ e. put_key e.op) part)

abbrev pub starts_among : List Entry → IterOptions → List (List ℕ) → List (List ℕ)
starts_among es o ends = filter (λ x. in_bounds o x && begins_span es o x) ends

-- a list of keys with others put in
abbrev pub put_in : List (List ℕ) → List (List ℕ) → List (List ℕ)
put_in [] keys = keys
put_in (x ∷ xs) keys = insert_key x (put_in xs keys)

-- `Next` and `Prev` over the positions
abbrev pub next_in : List (List ℕ) → Cursor → Cursor
next_in keys Fresh = least keys
next_in keys Start = least keys
next_in keys (At x) = least (filter (λ p. is_lt (key_cmp x p)) keys)
next_in keys End = End

abbrev pub prev_in : List (List ℕ) → Cursor → Cursor
prev_in keys Fresh = greatest keys
prev_in keys Start = Start
prev_in keys (At x) = greatest (filter (λ p. is_lt (key_cmp p x)) keys)
prev_in keys End = greatest keys

-- `SeekLt` over the positions, under an upper bound
abbrev pub below_in : List (List ℕ) → Option (List ℕ) → List ℕ → Cursor
below_in keys upper k = greatest (filter (λ p. is_lt (key_cmp p (lowered upper k))) keys)

-- the view with its cursor moved
abbrev pub at_cursor : View → Cursor → View
at_cursor v c = record { sees = v.sees; options = v.options; cursor = c; changed = span_changed v.sees v.options v.cursor c }

-- the value that a cursor reports
abbrev pub value_of : List Entry → IterOptions → Cursor → Option (List ℕ)
value_of es o c = option_and_then (shown es o) (key_at c)

-- the lists that are made once, and what the cursor reports
pub record IsPlain (es : List Entry) (o : IterOptions) (ends : List EndCover) (keys : List (List ℕ)) (c : Cursor) (value : Option (List ℕ)) (span : Option WidestSpan) : Type 0 where
  pub all_ends : ends ≡ covered_ends es o
  pub all_positions : keys ≡ positions es o
  pub value_there : value ≡ value_of es o c
  pub span_there : span ≡ span_of es o c
