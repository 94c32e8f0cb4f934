-- What an operation has to meet to be added to a batch, in the order in which it is tested, and what
-- refuses it.
use Rattle.std.specs.Prelude.{◌≡◌, ◌≢◌, ℕ, ◌+◌, ◌<◌, ◌≤◌, List, [], ◌∷◌, ◌++◌, length, ◌⊎◌}
use Rattle.std.specs.List.{AllByRecursion}
use Rattle.std.specs.declared.cmp.Ordering.TheVariants.{Less}
use Rattle.rk_key.specs.Keys.{IsKey, IsSuffix, suffix, key_cmp}
use Rattle.rk_key.specs.Refusals.{IsBadAt}
use Rattle.rk_key.specs.declared.error.Which.{Which}
use Rattle.rk_key.specs.declared.error.Which.TheVariants as which
use Rattle.rk_outside.specs.declared.error.What.{What}
use Rattle.rk_outside.specs.declared.error.What.TheVariants as what
use Rattle.rk_model.specs.declared.op.Op.{Op}
use Rattle.rk_model.specs.declared.op.Op.TheVariants.{Put, Del, RangeSet, RangeUnset, RangeDel}
use Rattle.rk_batch.specs.declared.error.BatchError.{BatchError}
use Rattle.rk_batch.specs.declared.error.BatchError.TheVariants.{Memory, BadKey, EmptySpan, SuffixInBound, TooLong}
use Rattle.rk_batch.specs.Encoding.{batch_bytes}

pub data Check : Type 0 where
  Is_key : (which : Which) (bytes : List ℕ) → Check
  Is_bare : (which : Which) (key : List ℕ) → Check
  Is_below : (start end : List ℕ) → Check
  Is_suffix : (bytes : List ℕ) → Check
  Is_at_most : (what : What) (have limit : ℕ) → Check

abbrev pub Passes : Check → Type 0
Passes (Is_key which bytes) = IsKey bytes
Passes (Is_bare which key) = suffix key ≡ []
Passes (Is_below start end) = key_cmp start end ≡ Less
Passes (Is_suffix bytes) = IsSuffix bytes
Passes (Is_at_most what have limit) = have ≤ limit

-- the error says that the check fails
abbrev pub Refuses : Check → BatchError → Type 0
Refuses (Is_key which bytes) e = (at : ℕ) × (e ≡ BadKey which at) × IsBadAt IsKey bytes at
Refuses (Is_bare which key) e = (e ≡ SuffixInBound which) × (suffix key ≢ [])
Refuses (Is_below start end) e = (e ≡ EmptySpan) × (key_cmp start end ≢ Less)
Refuses (Is_suffix bytes) e = (at : ℕ) × (e ≡ BadKey which.Suffix at) × IsBadAt IsSuffix bytes at
Refuses (Is_at_most what have limit) e = (e ≡ TooLong what have limit) × (limit < have)

abbrev pub AllPass : List Check → Type 0
AllPass checks = AllByRecursion Passes checks

-- the error says that a check fails, and those before it pass
abbrev pub IsFirst : List Check → BatchError → Type 0
IsFirst [] e = ⊥
IsFirst (check ∷ checks) e = Refuses check e ⊎ (Passes check × IsFirst checks e)

-- memory ran out, which says nothing of the checks, or the first check that fails is named
abbrev pub IsRefusal : List Check → BatchError → Type 0
IsRefusal checks e = (e ≡ Memory) ⊎ IsFirst checks e

abbrev pub bound : Which → List ℕ → List Check
bound which bytes = Is_key which bytes ∷ Is_bare which bytes ∷ []

abbrev pub span : List ℕ → List ℕ → List Check
span start end = bound which.Start start ++ bound which.End end ++ Is_below start end ∷ []

abbrev pub short_value : List ℕ → List Check
short_value value = Is_at_most what.Value (length value) 32768 ∷ []

-- what the operation itself has to meet
abbrev pub form : Op → List Check
form (Put key value) = Is_key which.Key key ∷ short_value value
form (Del key) = Is_key which.Key key ∷ []
form (RangeSet start end suffix value) = span start end ++ Is_suffix suffix ∷ short_value value
form (RangeUnset start end suffix) = span start end ++ Is_suffix suffix ∷ []
form (RangeDel start end) = span start end

-- what the batch has to have room for
abbrev pub room : List Op → Op → List Check
room ops op =
    Is_at_most what.Ops (length ops + 1) 1000 ∷ Is_at_most what.Bytes (length (batch_bytes (ops ++ op ∷ []))) 1048576 ∷ []

abbrev pub checks : List Op → Op → List Check
checks ops op = form op ++ room ops op

abbrev pub IsOp : Op → Type 0
IsOp op = AllPass (form op)
