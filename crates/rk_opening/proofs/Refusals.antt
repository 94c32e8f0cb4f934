-- Refusals of an opening, from those of its parts.
use Rattle.std.specs.Prelude.{IfErr, IfOk, IsErrAnd}
use Rattle.std.proofs.Common.{◌≡◌, ℕ, true, false, Result, Ok, Err, sym, subst}
use Rattle.rk_outside.specs.declared.error.StoreError.{StoreError}
use Rattle.rk_outside.specs.declared.error.StoreError.TheVariants.{Memory, WriteFault, ReadFault, BadRecord, TooLong, BadTable, Halted, EmptyBatch, SequenceEnd, MemFull, NoSnap, TooManySnaps, NotAStore, FileEnd, TooManyTables, StrangeJob}
use Rattle.rk_outside.specs.Disks.{Files}
use Rattle.rk_opening.specs.Stores.{has_magic, store_of}
use Rattle.rk_opening.specs.Openings.{IsLeastTable, IsOpenRefusal, HasOpenCause}

-- what files have where a bad record is told of, and where a table is
abbrev pub IsBad : Files → ℕ → ℕ → Type 0
IsBad files file at = (has_magic (files 0) ≡ true) × (store_of files ≡ Err (BadRecord file at))

abbrev pub IsNoStore : Files → ℕ → Type 0
IsNoStore files file = (has_magic (files 0) ≡ false) × IsLeastTable files file

-- what one telling says of some files, another says of others
pub record TellsOn (Told Told' : Type 0 → Type 0) (files files' : Files) : Type 0 where
  pub bad : (file at : ℕ) → Told (IsBad files file at) → Told' (IsBad files' file at)
  pub none : (file : ℕ) → Told (IsNoStore files file) → Told' (IsNoStore files' file)

module _ (Told Told' : Type 0 → Type 0) (files files' : Files) (on : TellsOn Told Told' files files') (before now : ℕ) where
  refusal_on : (e : StoreError) → IsOpenRefusal Told files before now e → IsOpenRefusal Told' files' before now e
  refusal_on Memory is = is
  refusal_on (WriteFault faults) is = is
  refusal_on (ReadFault faults) is = is
  refusal_on (BadRecord file at) is = (is.0, on.bad file at is.1)
  refusal_on (NotAStore file) is = (is.0, on.none file is.1)
  refusal_on (TooLong what have limit) is = absurd is
  refusal_on (BadTable file at) is = absurd is
  refusal_on (Halted faults) is = absurd is
  refusal_on EmptyBatch is = absurd is
  refusal_on (SequenceEnd last ops) is = absurd is
  refusal_on (MemFull active batch) is = absurd is
  refusal_on (NoSnap number) is = absurd is
  refusal_on (TooManySnaps live) is = absurd is
  refusal_on (FileEnd next tables) is = absurd is
  refusal_on (TooManyTables have more) is = absurd is
  refusal_on (StrangeJob job out) is = absurd is

  failed_on : {T : Type 0} (r : Result T StoreError) → IfErr r (IsOpenRefusal Told files before now) → IfErr r (IsOpenRefusal Told' files' before now)
  failed_on (Ok value) is = tt
  failed_on (Err e) is = refusal_on e is

  pub cause_on : {T : Type 0} (r : Result T StoreError) → HasOpenCause Told files before now r → HasOpenCause Told' files' before now r
  cause_on r cause = record { later = cause.later; failed = failed_on r cause.failed; kept = cause.kept }

-- a refusal that is handed on
pub handed_on : {T U : Type 0} (Told : Type 0 → Type 0) (files : Files) (before now : ℕ) (e : StoreError) (r : Result U StoreError)
    → HasOpenCause {T = T} Told files before now (Err e) → IsErrAnd r (λ x. x ≡ e) → HasOpenCause Told files before now r
handed_on Told files before now e (Ok value) cause is = absurd is
handed_on Told files before now e (Err x) cause is = record { later = cause.later; failed = subst (IsOpenRefusal Told files before now) (sym is) cause.failed; kept = tt }

-- the count before was the same
pub counted_from : {T : Type 0} (Told : Type 0 → Type 0) (files : Files) (before before' now : ℕ) (r : Result T StoreError) → before ≡ before' → HasOpenCause Told files before now r → HasOpenCause Told files before' now r
counted_from Told files before before' now r same = subst (λ n. HasOpenCause Told files n now r) same

pub ok_on : {T E : Type 0} (r : Result T E) (P Q : T → Type 0) → ((value : T) → P value → Q value) → IfOk r P → IfOk r Q
ok_on (Ok value) P Q f p = f value p
ok_on (Err e) P Q f p = tt
