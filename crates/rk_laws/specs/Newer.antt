-- Laws of one more entry, newer than those before it.
use Rattle.std.specs.Prelude.{◌≡◌, ℕ, ◌<◌, not, List, [], ◌∷◌, ◌++◌, filter, if◌then◌else◌, Option, Some, None}
use Rattle.std.specs.List.{All}
use Rattle.std.specs.Ordering.{is_eq}
use Rattle.rk_key.specs.Keys.{suffix_cmp}
use Rattle.rk_model.specs.Operations.{is_over}
use Rattle.rk_model.specs.Covers.{over, insert_pair, point, cover}
use Rattle.rk_model.specs.declared.op.Op.{Op}
use Rattle.rk_model.specs.declared.op.Op.TheVariants.{Put, Del, RangeSet, RangeUnset, RangeDel}
use Rattle.rk_model.specs.declared.op.Entry.{Entry}
use Rattle.rk_model.specs.declared.span.SuffixValue.{SuffixValue}

-- the pairs of other suffixes
abbrev pub without : List ℕ → List SuffixValue → List SuffixValue
without s pairs = filter (λ q. not (is_eq (suffix_cmp s q.suffix))) pairs

-- what an operation over a key makes of the cover before it
abbrev pub with_entry : Op → List SuffixValue → List SuffixValue
with_entry (Put key value) pairs = pairs
with_entry (Del key) pairs = pairs
with_entry (RangeSet start end suffix value) pairs = insert_pair (record { suffix = suffix; value = value }) (without suffix pairs)
with_entry (RangeUnset start end suffix) pairs = without suffix pairs
with_entry (RangeDel start end) pairs = []

-- what an operation over a key makes of the value of its point before it
abbrev pub with_point : Op → Option (List ℕ) → Option (List ℕ)
with_point (Put key value) before = Some value
with_point (Del key) before = None
with_point (RangeSet start end suffix value) before = before
with_point (RangeUnset start end suffix) before = before
with_point (RangeDel start end) before = before

abbrev pub NumberedBelow : ℕ → List Entry → Type 0
NumberedBelow n es = All (λ e. e.seq < n) es

abbrev pub CoverAfterEntry : Type 0
CoverAfterEntry = (es : List Entry) (e : Entry) (x : List ℕ) → NumberedBelow e.seq (over x es) →
    cover (es ++ e ∷ []) x ≡ (if is_over x e.op then with_entry e.op (cover es x) else cover es x)

abbrev pub PointAfterEntry : Type 0
PointAfterEntry = (es : List Entry) (e : Entry) (x : List ℕ) → NumberedBelow e.seq (over x es) →
    point (es ++ e ∷ []) x ≡ (if is_over x e.op then with_point e.op (point es x) else point es x)
