-- What a flush or a compaction may not drop.
use Rattle.std.specs.Prelude.{ℕ, Bool, true, false, ◌&&◌, ◌||◌, not, nat_lt, nat_le, ◌==◌, List, filter, Option, Some, None}
use Rattle.std.specs.List.{list_any}
use Rattle.std.specs.Option.{option_map_or}
use Rattle.std.specs.Ordering.{is_eq}
use Rattle.rk_key.specs.Keys.{suffix_cmp}
use Rattle.rk_model.specs.Lists.{first_of}
use Rattle.rk_model.specs.Covers.{over, is_point, upto, point, cover}
use Rattle.rk_model.specs.declared.span.SuffixValue.{SuffixValue}
use Rattle.rk_model.specs.declared.op.Op.{Op}
use Rattle.rk_model.specs.declared.op.Op.TheVariants.{Put, Del, RangeSet, RangeUnset, RangeDel}
use Rattle.rk_model.specs.declared.op.Entry.{Entry}

-- what the entries numbered at most n give at a key
abbrev pub cells : List Entry → ℕ → List ℕ → Option (List ℕ) × List SuffixValue
cells es n x = (point (upto n es) x, cover (upto n es) x)

-- of stripes that rise, the least not below a number
abbrev pub stripe_of : List ℕ → ℕ → Option ℕ
stripe_of stripes n = first_of (filter (λ s. nat_le n s) stripes)

abbrev pub same_stripe : List ℕ → ℕ → ℕ → Bool
same_stripe stripes m n = option_map_or (λ s. option_map_or (λ t. s == t) (stripe_of stripes n) false) (stripe_of stripes m) false

abbrev pub in_lowest : List ℕ → ℕ → Bool
in_lowest stripes n = option_map_or (λ s. nat_le n s) (first_of stripes) false

abbrev pub set_or_unset_suffix : Op → Option (List ℕ)
set_or_unset_suffix (Put key value) = None
set_or_unset_suffix (Del key) = None
set_or_unset_suffix (RangeSet start end suffix value) = Some suffix
set_or_unset_suffix (RangeUnset start end suffix) = Some suffix
set_or_unset_suffix (RangeDel start end) = None

abbrev pub is_range_del : Op → Bool
is_range_del (Put key value) = false
is_range_del (Del key) = false
is_range_del (RangeSet start end suffix value) = false
is_range_del (RangeUnset start end suffix) = false
is_range_del (RangeDel start end) = true

abbrev pub one_suffix : Op → Op → Bool
one_suffix f e = option_map_or (λ s. option_map_or (λ t. is_eq (suffix_cmp s t)) (set_or_unset_suffix e) false) (set_or_unset_suffix f) false

-- whether the newer operation f shadows the older e at a key that both are over
abbrev pub shadows : Op → Op → Bool
shadows f e = (is_point f && is_point e) || (is_range_del f && not (is_point e)) || one_suffix f e

abbrev pub is_set : Op → Bool
is_set (Put key value) = true
is_set (Del key) = false
is_set (RangeSet start end suffix value) = true
is_set (RangeUnset start end suffix) = false
is_set (RangeDel start end) = false

-- Whether an entry is kept among entries that are all over one key: no newer one of its stripe shadows it, and at
-- the bottom the lowest stripe keeps puts and sets alone.
abbrev pub is_kept : List Entry → List ℕ → Bool → Entry → Bool
is_kept here stripes bottom e =
    not (list_any (λ f. nat_lt e.seq f.seq && same_stripe stripes e.seq f.seq && shadows f.op e.op) here)
    && not (bottom && in_lowest stripes e.seq && not (is_set e.op))

-- those that are kept of the entries over the key
abbrev pub kept : List Entry → List ℕ → Bool → List ℕ → List Entry
kept es stripes bottom x = let here = over x es in filter (is_kept here stripes bottom) here
