-- Laws of keys and their prefixes.
use Rattle.std.specs.Prelude.{◌≡◌, ℕ, not, List, [], filter}
use Rattle.std.specs.List.{All}
use Rattle.rk_key.specs.Keys.{prefix, suffix}
use Rattle.rk_model.specs.Covers.{over, is_point, point, cover}
use Rattle.rk_model.specs.Spans.{op_ends}
use Rattle.rk_model.specs.declared.op.Entry.{Entry}

-- no start or end of an entry has a suffix
abbrev pub PlainEnds : List Entry → Type 0
PlainEnds es = All (λ e. All (λ k. suffix k ≡ []) (op_ends e.op)) es

-- the entries of spans over a key
abbrev pub spans_over : List ℕ → List Entry → List Entry
spans_over x es = filter (λ e. not (is_point e.op)) (over x es)

-- the entries of points on a key
abbrev pub points_on : List ℕ → List Entry → List Entry
points_on x es = filter (λ e. is_point e.op) (over x es)

abbrev pub SpansOverPrefix : Type 0
SpansOverPrefix = (es : List Entry) (x : List ℕ) → PlainEnds es → spans_over x es ≡ spans_over (prefix x) es

-- the entries of points don't matter to a cover
abbrev pub CoverOfSpans : Type 0
CoverOfSpans = (es : List Entry) (x : List ℕ) → cover es x ≡ cover (spans_over x es) x

abbrev pub CoverOfPrefix : Type 0
CoverOfPrefix = (es : List Entry) (x : List ℕ) → PlainEnds es → cover es x ≡ cover es (prefix x)

-- only the entries of points on a key matter to its value
abbrev pub PointOfItsOwn : Type 0
PointOfItsOwn = (es : List Entry) (x : List ℕ) → point es x ≡ point (points_on x es) x
