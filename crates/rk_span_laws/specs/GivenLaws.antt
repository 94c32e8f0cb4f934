-- Laws of what points and spans give.
use Rattle.std.specs.Prelude.{◌≡◌, ℕ, Bool, true, List, filter, Option, option_map, option_and_then}
use Rattle.std.specs.Ordering.{is_eq}
use Rattle.rk_key.specs.Keys.{IsKey, key_cmp}
use Rattle.rk_model.specs.Lists.{first_of}
use Rattle.rk_model.specs.Covers.{point, put_value}
use Rattle.rk_model.specs.Spans.{in_bounds, widest_span}
use Rattle.rk_model.specs.Positions.{is_masked, positions}
use Rattle.rk_model.specs.Sources.{op_key}
use Rattle.rk_model.specs.declared.op.Entry.{Entry}
use Rattle.rk_model.specs.declared.span.Span.{Span}
use Rattle.rk_model.specs.declared.options.IterOptions.{IterOptions}
use Rattle.rk_span_laws.specs.Given.{given, AreShown, span_over, as_widest, is_hidden, IsPlace, IsSoonest, near_of}

-- a key within the bounds has the span that it lies in
abbrev pub SpanIsTheOneOver : Type 0
SpanIsTheOneOver = (n : ℕ) (o : IterOptions) (ps : List Entry) (ss : List Span) → AreShown n o ps ss → (x : List ℕ) → IsKey x → in_bounds o x ≡ true →
    widest_span (given ps ss) o x ≡ option_map as_widest (span_over ss x)

-- and the value of the put there
abbrev pub PointIsTheOneThere : Type 0
PointIsTheOneThere = (n : ℕ) (o : IterOptions) (ps : List Entry) (ss : List Span) → AreShown n o ps ss → (x : List ℕ) → IsKey x →
    point (given ps ss) x ≡ option_and_then (λ e. put_value e.op) (first_of (filter (λ e. is_eq (key_cmp (op_key e.op) x)) ps))

-- which the mask hides by the range keys of that span
abbrev pub MaskedIsHidden : Type 0
MaskedIsHidden = (n : ℕ) (o : IterOptions) (ps : List Entry) (ss : List Span) → AreShown n o ps ss → (x : List ℕ) → IsKey x → in_bounds o x ≡ true →
    is_masked (given ps ss) o x ≡ is_hidden o ss x

-- the first position in a direction that passes a test is the first such place
abbrev pub SoonestPlaceIsThePosition : Type 0
SoonestPlaceIsThePosition = (n : ℕ) (o : IterOptions) (ps : List Entry) (ss : List Span) → AreShown n o ps ss → (forward : Bool) (test : List ℕ → Bool) (found : Option (List ℕ)) →
    IsSoonest forward test (IsPlace o ps ss) found → near_of forward test (positions (given ps ss) o) ≡ found
