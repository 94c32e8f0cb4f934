-- When a failure has a cause: a count of faults that rose in the call.
use Rattle.std.specs.Prelude.{◌≡◌, ℕ, ◌+◌, ◌-◌, ◌^◌, ◌≤◌, min, Bool, IsTrue, Result, OnOk, OnErr, IfErr, IsErrOf}
use Rattle.rk_outside.specs.declared.error.SourceError.{SourceError}
use Rattle.rk_outside.specs.declared.error.SourceError.TheVariants.{Memory, ReadFault, BadTable}

-- the count rose, or stands at its greatest value
abbrev pub Rose : ℕ → ℕ → Type 0
Rose before now = min (before + 1) (2 ^ 64 - 1) ≤ now

-- the count never falls, each error comes only where it rose, and no fault is passed over
pub record HasCause {T E : Type 0} (before now : ℕ) (result : Result T E) : Type 0 where
  pub later : before ≤ now
  pub failed : OnErr result (Rose before now)
  pub kept : OnOk result (now ≡ before)

-- the same where this one error alone comes of a fault: after another no fault is passed over either
pub record HasCauseOf {T E : Type 0} (error : E) (before now : ℕ) (result : Result T E) : Type 0 where
  pub later : before ≤ now
  pub failed : IsErrOf result error → Rose before now
  pub kept : (IsErrOf result error → ⊥) → now ≡ before

-- Why a source of entries refused: memory may run out at any time, a fault carries the count that rose, and a bad
-- table is named only where the source may name that place of that file. Where it is no fault that is answered, the
-- count stayed.
abbrev pub IsSourceRefusal : (ℕ → ℕ → Bool) → ℕ → ℕ → SourceError → Type 0
IsSourceRefusal may_name before now Memory = now ≡ before
IsSourceRefusal may_name before now (ReadFault faults) = (faults ≡ now) × Rose before now
IsSourceRefusal may_name before now (BadTable file at) = IsTrue (may_name file at) × (now ≡ before)

-- the count never falls, a refusal has its cause, and no fault is passed over
pub record HasSourceCause {T : Type 0} (may_name : ℕ → ℕ → Bool) (before now : ℕ) (result : Result T SourceError) : Type 0 where
  pub later : before ≤ now
  pub failed : IfErr result (IsSourceRefusal may_name before now)
  pub kept : OnOk result (now ≡ before)
