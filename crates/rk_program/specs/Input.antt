-- What the program takes of a source, and why it fails.
use Rattle.std.specs.Prelude.{◌≡◌, ℕ, ◌+◌, ◌≤◌, List, length, Option}
use Rattle.std.specs.Io.KnownBytes.{Consumes, IsAtEnd}
use Rattle.rk_outside.specs.Causes.{Rose}
use Rattle.rk_program.specs.declared.cause.Cause.{Cause}
use Rattle.rk_program.specs.declared.cause.Cause.TheVariants.{SourceFault, Memory}
use Rattle.rk_program.specs.declared.input.TheConstants.{MOST_FILE_BYTES}

-- whatever came of it, no more bytes than this were taken of the source
abbrev pub TookAtMost : Option (List ℕ) → Option (List ℕ) → ℕ → Type 0
TookAtMost before now most = (bytes : List ℕ) × Consumes before now bytes × (length bytes ≤ most)

-- the source gave these bytes, and then its end
pub record GaveAll (before now : Option (List ℕ)) (file : List ℕ) : Type 0 where
  pub bytes : Consumes before now file
  pub at_end : IsAtEnd now
  pub within : length file ≤ MOST_FILE_BYTES

-- the source gave one byte more than a file may have
abbrev pub GaveTooMany : Option (List ℕ) → Option (List ℕ) → Type 0
GaveTooMany before now = (file : List ℕ) × Consumes before now file × (length file ≡ MOST_FILE_BYTES + 1)

-- a fault's number is the count as it is now, which rose
abbrev pub IsFault : ℕ → ℕ → ℕ → Type 0
IsFault before now faults = Rose before now × (faults ≡ now)

-- why a source was not gone through: it failed, or there was no memory, and no fault was passed over then
abbrev pub IsSourceRefusal : ℕ → ℕ → Cause → Type 0
IsSourceRefusal before now (SourceFault faults) = IsFault before now faults
IsSourceRefusal before now Memory = now ≡ before
IsSourceRefusal before now other = ⊥
