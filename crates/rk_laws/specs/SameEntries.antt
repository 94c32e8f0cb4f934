-- Laws of two lists of entries with the same entries over a key, in any order and cut in any way.
use Rattle.std.specs.Prelude.{◌≡◌, ◌↔◌, ℕ, List, [], map, Contains, IsPermutation}
use Rattle.rk_model.specs.Operations.{NumbersDiffer}
use Rattle.rk_model.specs.Covers.{over, point, cover}
use Rattle.rk_model.specs.declared.op.Op.{Op}
use Rattle.rk_model.specs.declared.op.Op.TheVariants.{Put, Del, RangeSet, RangeUnset, RangeDel}
use Rattle.rk_model.specs.declared.op.Entry.{Entry}
use Rattle.rk_laws.specs.Prefixes.{spans_over, points_on}

-- an operation without where it begins and ends
abbrev pub without_ends : Op → Op
without_ends (Put key value) = Put key value
without_ends (Del key) = Del key
without_ends (RangeSet start end suffix value) = RangeSet [] [] suffix value
without_ends (RangeUnset start end suffix) = RangeUnset [] [] suffix
without_ends (RangeDel start end) = RangeDel [] []

-- what the spans over a key do there, with their numbers
abbrev pub effects_over : List ℕ → List Entry → List Entry
effects_over x es = map (λ e. record { op = without_ends e.op; seq = e.seq }) (spans_over x es)

abbrev pub SameElements : List Entry → List Entry → Type 0
SameElements es fs = (e : Entry) → Contains es e ↔ Contains fs e

-- neither the order of the entries nor where they were cut matters to a cover
abbrev pub CoverOfEffects : Type 0
CoverOfEffects = (es fs : List Entry) (x : List ℕ) → NumbersDiffer (over x es) → NumbersDiffer (over x fs) →
    SameElements (effects_over x es) (effects_over x fs) → cover es x ≡ cover fs x

-- nor to the value of a point
abbrev pub PointOfElements : Type 0
PointOfElements = (es fs : List Entry) (x : List ℕ) → NumbersDiffer (over x es) → NumbersDiffer (over x fs) →
    SameElements (points_on x es) (points_on x fs) → point es x ≡ point fs x

abbrev pub CellsInAnyOrder : Type 0
CellsInAnyOrder = (es fs : List Entry) (x : List ℕ) → NumbersDiffer (over x es) → NumbersDiffer (over x fs) → IsPermutation es fs →
    (cover es x ≡ cover fs x) × (point es x ≡ point fs x)
