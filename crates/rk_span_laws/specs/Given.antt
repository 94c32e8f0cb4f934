-- What points and spans give to an iterator: each point is an entry, and each range key of a span one over the span.
use Rattle.std.specs.Prelude.{◌≡◌, ℕ, Bool, true, false, ◌&&◌, IsTrue, List, [], ◌++◌, map, filter, if◌then◌else◌, Option, IfSome, MatchOption}
use Rattle.std.specs.List.{list_all}
use Rattle.std.specs.Option.{option_map_or}
use Rattle.std.specs.Ordering.{is_lt}
use Rattle.rk_key.specs.Keys.{key_cmp}
use Rattle.rk_key.specs.KeyTests.{is_key}
use Rattle.rk_model.specs.Lists.{Among, first_of, last_of}
use Rattle.rk_model.specs.Operations.{within}
use Rattle.rk_model.specs.Spans.{in_bounds, WidestSpan}
use Rattle.rk_model.specs.Positions.{masks}
use Rattle.rk_model.specs.Sources.{ascends, op_key}
use Rattle.rk_model.specs.Items.{keyed_extents}
use Rattle.rk_model.specs.declared.op.Op.{Op}
use Rattle.rk_model.specs.declared.op.Op.TheVariants.{Put, Del, RangeSet, RangeUnset, RangeDel}
use Rattle.rk_model.specs.declared.op.Entry.{Entry}
use Rattle.rk_model.specs.declared.span.Span.{Span}
use Rattle.rk_model.specs.declared.span.SuffixValue.{SuffixValue}
use Rattle.rk_model.specs.declared.options.IterOptions.{IterOptions}
use Rattle.rk_laws.specs.SameCells.{KeyBounds}
pub use Rattle.rk_mask.specs.Pairs.{pair_of}
use Rattle.rk_span_laws.specs.Joined.{entries_of, joined}

abbrev pub given : List Entry → List Span → List Entry
given ps ss = ps ++ entries_of ss

abbrev pub is_put : Op → Bool
is_put (Put key value) = true
is_put (Del key) = false
is_put (RangeSet start end suffix value) = false
is_put (RangeUnset start end suffix) = false
is_put (RangeDel start end) = false

-- puts alone, one for each key, in order
abbrev pub are_single_puts : List Entry → Bool
are_single_puts ps = list_all (λ e. is_put e.op && is_key (op_key e.op)) ps && ascends (λ e f. is_lt (key_cmp (op_key e.op) (op_key f.op))) ps

-- points of which each is a put and the only one of its key, and the widest spans within the bounds, with their covers
pub record AreShown (n : ℕ) (o : IterOptions) (ps : List Entry) (ss : List Span) : Type 0 where
  pub bounds : KeyBounds o
  pub single : IsTrue (are_single_puts ps)
  pub ordered : IsTrue (keyed_extents ss)
  pub widest : joined n o ss ≡ ss

-- the span that a key lies in
abbrev pub span_over : List Span → List ℕ → Option Span
span_over ss x = first_of (filter (λ s. within s.start s.end x) ss)

abbrev pub pairs_of : Span → List SuffixValue
pairs_of s = map pair_of s.keys

abbrev pub as_widest : Span → WidestSpan
as_widest s = record { start = s.start; end = s.end; cover = pairs_of s }

-- whether the mask hides a point on a key that lies in a span, or in none
abbrev pub is_hidden_in : IterOptions → Option Span → List ℕ → Bool
is_hidden_in o s x = option_map_or (λ m. masks (option_map_or pairs_of s []) m x) o.mask false

abbrev pub is_hidden : IterOptions → List Span → List ℕ → Bool
is_hidden o ss x = is_hidden_in o (span_over ss x) x

-- a key that may be shown: of a point within the bounds that no mask hides, or where a span begins
pub data IsPlace (o : IterOptions) (ps : List Entry) (ss : List Span) (y : List ℕ) : Type 0 where
  of_point : (e : Entry) → Among e ps → op_key e.op ≡ y → in_bounds o y ≡ true → is_hidden o ss y ≡ false → IsPlace o ps ss y
  of_span : (s : Span) → Among s ss → s.start ≡ y → IsPlace o ps ss y

-- one key is reached before another
abbrev pub is_sooner : Bool → List ℕ → List ℕ → Bool
is_sooner forward x y = if forward then is_lt (key_cmp x y) else is_lt (key_cmp y x)

-- the first in a direction of the keys that pass a test, if there is one
pub record IsSoonest (forward : Bool) (test : List ℕ → Bool) (places : List ℕ → Type 0) (found : Option (List ℕ)) : Type 0 where
  pub there : IfSome found (λ y. places y × (test y ≡ true))
  pub first : (z : List ℕ) → places z → test z ≡ true → MatchOption found ⊥ (λ y. is_sooner forward z y ≡ false)

abbrev pub near_of : Bool → (List ℕ → Bool) → List (List ℕ) → Option (List ℕ)
near_of forward test keys = if forward then first_of (filter test keys) else last_of (filter test keys)
