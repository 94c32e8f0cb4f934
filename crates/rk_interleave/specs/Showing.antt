-- What is lent at a key: and whether the span there is the one that was lent before.
use Rattle.std.specs.Prelude.{ℕ, Bool, true, false, not, List, if◌then◌else◌, Option, Some, None, is_some}
use Rattle.std.specs.Option.{option_map}
use Rattle.std.specs.Ordering.{is_eq}
use Rattle.rk_key.specs.Keys.{key_cmp}
use Rattle.rk_model.specs.Spans.{WidestSpan}
use Rattle.rk_model.specs.declared.cursor.Cursor.{Cursor}
use Rattle.rk_model.specs.declared.cursor.Cursor.TheVariants.{At}
use Rattle.rk_model.specs.declared.span.Span.{Span}
use Rattle.rk_span_laws.specs.Given.{as_widest}

pub record Showing : Type 0 where
  pub cursor : Cursor
  pub value : Option (List ℕ)
  pub span : Option WidestSpan
  pub changed : Bool

-- nothing is lent at first
abbrev pub Nothing : Cursor → Bool → Showing
Nothing cursor changed = record { cursor = cursor; value = None; span = None; changed = changed }

-- there is no span, as before, or one that begins where the one before does
abbrev pub is_kept : Option WidestSpan → Option Span → Bool
is_kept None None = true
is_kept None (Some s) = false
is_kept (Some w) None = false
is_kept (Some w) (Some s) = is_eq (key_cmp w.start s.start)

abbrev pub kept_or : Option WidestSpan → Option Span → Option WidestSpan
kept_or old span = if is_kept old span then old else option_map as_widest span

-- at a key, with a value and a span
abbrev pub shown_at : Showing → List ℕ → Option (List ℕ) → Option Span → Showing
shown_at m key value span = record { cursor = At key; value = value; span = kept_or m.span span; changed = not (is_kept m.span span) }

-- at no key
abbrev pub shown_off : Showing → Cursor → Showing
shown_off m cursor = Nothing cursor (is_some m.span)
