-- How the cursor of an iterator moves, and what the iterator then shows.
use Rattle.std.specs.Prelude.{ℕ, Bool, true, false, ◌&&◌, not, List, [], filter, if◌then◌else◌, Option, Some, None}
use Rattle.std.specs.Option.{option_map, option_map_or, option_and_then}
use Rattle.std.specs.Ordering.{is_lt}
use Rattle.rk_key.specs.Keys.{key_cmp}
use Rattle.rk_model.specs.Lists.{first_of, last_of, none_of}
use Rattle.rk_model.specs.Covers.{cover}
use Rattle.rk_model.specs.Spans.{in_bounds, same_bytes, same_cover, WidestSpan, widest_span}
use Rattle.rk_model.specs.Positions.{positions, Report, report}
use Rattle.rk_model.specs.declared.op.Entry.{Entry}
use Rattle.rk_model.specs.declared.span.SuffixValue.{SuffixValue}
use Rattle.rk_model.specs.declared.options.IterOptions.{IterOptions}
use Rattle.rk_model.specs.declared.cursor.Cursor.{Cursor}
use Rattle.rk_model.specs.declared.cursor.Cursor.TheVariants.{Fresh, Start, At, End}

pub data Move : Type 0 where
  First : Move
  Last : Move
  Next : Move
  Prev : Move
  SeekGe : (key : List ℕ) → Move
  SeekLt : (key : List ℕ) → Move

abbrev pub at_or : Cursor → Option (List ℕ) → Cursor
at_or c found = option_map_or At found c

abbrev pub least : List (List ℕ) → Cursor
least keys = at_or End (first_of keys)

abbrev pub greatest : List (List ℕ) → Cursor
greatest keys = at_or Start (last_of keys)

-- a key below the lower bound is raised to it
abbrev pub raised : Option (List ℕ) → List ℕ → List ℕ
raised lower k = option_map_or (λ l. if is_lt (key_cmp k l) then l else k) lower k

-- a key above the upper bound is lowered to it
abbrev pub lowered : Option (List ℕ) → List ℕ → List ℕ
lowered upper k = option_map_or (λ u. if is_lt (key_cmp u k) then u else k) upper k

abbrev pub sought : List Entry → IterOptions → List ℕ → Cursor
sought es o k =
    if not (in_bounds o k)
    then End
    else (if none_of (cover es k) then least (filter (λ p. not (is_lt (key_cmp p k))) (positions es o)) else At k)

-- the new cursor
abbrev pub moved : List Entry → IterOptions → Cursor → Move → Cursor
moved es o c First = least (positions es o)
moved es o c Last = greatest (positions es o)
moved es o Fresh Next = least (positions es o)
moved es o Start Next = least (positions es o)
moved es o (At x) Next = least (filter (λ p. is_lt (key_cmp x p)) (positions es o))
moved es o End Next = End
moved es o Fresh Prev = greatest (positions es o)
moved es o Start Prev = Start
moved es o (At x) Prev = greatest (filter (λ p. is_lt (key_cmp p x)) (positions es o))
moved es o End Prev = greatest (positions es o)
moved es o c (SeekGe k) = sought es o (raised o.lower k)
moved es o c (SeekLt k) = greatest (filter (λ p. is_lt (key_cmp p (lowered o.upper k))) (positions es o))

-- the key of a cursor that is at one
abbrev pub key_at : Cursor → Option (List ℕ)
key_at Fresh = None
key_at Start = None
key_at (At x) = Some x
key_at End = None

-- the span that a cursor is in
abbrev pub span_of : List Entry → IterOptions → Cursor → Option WidestSpan
span_of es o c = option_and_then (widest_span es o) (key_at c)

abbrev pub same_span : Option WidestSpan → Option WidestSpan → Bool
same_span None None = true
same_span None (Some t) = false
same_span (Some s) None = false
same_span (Some s) (Some t) = same_bytes s.start t.start && same_bytes s.end t.end && same_cover s.cover t.cover

-- whether the span and cover of a cursor differ from those of another
abbrev pub span_changed : List Entry → IterOptions → Cursor → Cursor → Bool
span_changed es o old new = not (same_span (span_of es o old) (span_of es o new))

-- An iterator: the entries that it sees, its options, and where it stands
pub record View : Type 0 where
  pub sees : List Entry
  pub options : IterOptions
  pub cursor : Cursor
  pub changed : Bool

-- an iterator that has not moved
abbrev pub opened_over : List Entry → IterOptions → View
opened_over es o = record { sees = es; options = o; cursor = Fresh; changed = false }

abbrev pub after_move : View → Move → View
after_move v move =
    let new = moved v.sees v.options v.cursor move in
    record { sees = v.sees; options = v.options; cursor = new; changed = span_changed v.sees v.options v.cursor new }

-- what an iterator reports: nothing where it is at no key
abbrev pub reported : View → Option Report
reported v = option_map (report v.sees v.options) (key_at v.cursor)

abbrev pub reported_value : View → Option (List ℕ)
reported_value v = option_and_then (λ r. r.value) (reported v)

abbrev pub reported_span : View → Option WidestSpan
reported_span v = option_and_then (λ r. r.span) (reported v)

abbrev pub reported_cover : View → List SuffixValue
reported_cover v = option_map_or (λ s. s.cover) (reported_span v) []
