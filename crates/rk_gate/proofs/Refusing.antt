-- What a refusal of a reading says of a file.
use Rattle.std.proofs.Common.{◌≡◌, ℕ, List, [], Option, Some, None, refl}
use Rattle.std.specs.Prelude.{unwrap_or}
use Rattle.rk_outside.specs.declared.error.StoreError.{StoreError}
use Rattle.rk_outside.specs.declared.error.StoreError.TheVariants.{Memory, ReadFault, BadRecord}
use Rattle.rk_gate.specs.Calls.{IsReadRefusal}
use Rattle.rk_gate.specs.Records.{recovered, recovered_file}

pub refusal_less : (file : ℕ) (P Q : ℕ → Type 0) (before now : ℕ) (e : StoreError) → ((at : ℕ) → P at → Q at) → IsReadRefusal file P before now e → IsReadRefusal file Q before now e
refusal_less file P Q before now Memory weaken is = is
refusal_less file P Q before now (ReadFault faults) weaken is = is
refusal_less file P Q before now (BadRecord f at) weaken is = (is.0, weaken at is.1, is.2)
refusal_less file P Q before now _ weaken is = absurd is

-- a file that is not there has the records of no bytes: none, and a bad one at 0
pub recovered_in : (file : Option (List ℕ)) → recovered (unwrap_or file []) ≡ recovered_file file
recovered_in None = refl
recovered_in (Some bytes) = refl
