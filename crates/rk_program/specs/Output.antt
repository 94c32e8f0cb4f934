-- Why a sink fails.
use Rattle.std.specs.Prelude.{◌≡◌, ℕ}
use Rattle.rk_program.specs.Input.{IsFault}
use Rattle.rk_program.specs.declared.cause.Cause.{Cause}
use Rattle.rk_program.specs.declared.cause.Cause.TheVariants.{SinkFault, Memory}

-- why not all was given to a sink: it failed, or there was no memory, and no fault was passed over then
abbrev pub IsSinkRefusal : ℕ → ℕ → Cause → Type 0
IsSinkRefusal before now (SinkFault faults) = IsFault before now faults
IsSinkRefusal before now Memory = now ≡ before
IsSinkRefusal before now other = ⊥
