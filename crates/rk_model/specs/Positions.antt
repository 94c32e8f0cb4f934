-- What an iterator shows, and how its cursor moves.
use Rattle.std.specs.Prelude.{ℕ, Bool, false, ◌&&◌, not, List, [], ◌∷◌, ◌++◌, filter, if◌then◌else◌, Option, None, is_some}
use Rattle.std.specs.List.{list_any, flat_map}
use Rattle.std.specs.Option.{option_map_or}
use Rattle.std.specs.Ordering.{is_lt, is_eq}
use Rattle.rk_key.specs.Keys.{suffix, suffix_cmp, key_cmp}
use Rattle.rk_model.specs.Lists.{none_of}
use Rattle.rk_model.specs.Covers.{point, cover}
use Rattle.rk_model.specs.Spans.{in_bounds, written_ends, sorted_keys, WidestSpan, widest_span}
use Rattle.rk_model.specs.declared.op.Op.{Op}
use Rattle.rk_model.specs.declared.op.Op.TheVariants.{Put, Del, RangeSet, RangeUnset, RangeDel}
use Rattle.rk_model.specs.declared.op.Entry.{Entry}
use Rattle.rk_model.specs.declared.span.SuffixValue.{SuffixValue}
use Rattle.rk_model.specs.declared.options.IterOptions.{IterOptions}

-- m <= r < p
abbrev pub hides : List ℕ → List ℕ → SuffixValue → Bool
hides m p r = not (is_lt (suffix_cmp r.suffix m)) && is_lt (suffix_cmp r.suffix p)

-- a mask that isn't empty hides a point with a suffix under a pair between the two
abbrev pub masks : List SuffixValue → List ℕ → List ℕ → Bool
masks pairs m x = not (none_of m) && not (none_of (suffix x)) && list_any (hides m (suffix x)) pairs

-- the pairs are those of the key's cover
abbrev pub is_masked : List Entry → IterOptions → List ℕ → Bool
is_masked es o x = option_map_or (λ m. masks (cover es x) m x) o.mask false

abbrev pub shown : List Entry → IterOptions → List ℕ → Option (List ℕ)
shown es o x = if is_masked es o x then None else point es x

abbrev pub put_key : Op → List (List ℕ)
put_key (Put key value) = key ∷ []
put_key (Del key) = []
put_key (RangeSet start end suffix value) = []
put_key (RangeUnset start end suffix) = []
put_key (RangeDel start end) = []

-- whether the key is the start of its span
abbrev pub begins_span : List Entry → IterOptions → List ℕ → Bool
begins_span es o x = option_map_or (λ s. is_eq (key_cmp s.start x)) (widest_span es o x) false

-- the keys within the bounds with a shown point, and the starts of spans
abbrev pub positions : List Entry → IterOptions → List (List ℕ)
positions es o = sorted_keys (
    filter (λ x. in_bounds o x && is_some (shown es o x)) (flat_map (λ e. put_key e.op) es)
    ++ filter (λ x. in_bounds o x && begins_span es o x) (written_ends es o))

pub record Report : Type 0 where
  pub key : List ℕ
  pub value : Option (List ℕ)
  pub span : Option WidestSpan

abbrev pub report : List Entry → IterOptions → List ℕ → Report
report es o x = record { key = x; value = shown es o x; span = widest_span es o x }
