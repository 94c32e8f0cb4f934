-- Refusals that say more than is asked.
use Rattle.std.proofs.Common.{◌≡◌, ℕ, Result, Ok, Err, subst, sym}
use Rattle.std.specs.Prelude.{IfErr, IsErrAnd, IsErrOf, OnOk}
use Rattle.rk_outside.specs.declared.error.StoreError.{StoreError}
use Rattle.rk_outside.specs.declared.error.StoreError.TheVariants.{Memory, WriteFault, ReadFault, BadRecord, TooLong, BadTable, Halted, EmptyBatch, SequenceEnd, MemFull, NoSnap, TooManySnaps, NotAStore, FileEnd, TooManyTables, StrangeJob}
use Rattle.rk_gate.specs.Calls.{IsReadRefusal}

pub refused_so : (file : ℕ) (P Q : ℕ → Type 0) (before now : ℕ) → ((at : ℕ) → P at → Q at) → (e : StoreError) → IsReadRefusal file P before now e → IsReadRefusal file Q before now e
refused_so file P Q before now so Memory h = h
refused_so file P Q before now so (ReadFault faults) h = h
refused_so file P Q before now so (BadRecord f at) h = (h.0, so at h.1, h.2)
refused_so file P Q before now so (WriteFault faults) h = h
refused_so file P Q before now so (TooLong what have limit) h = h
refused_so file P Q before now so (BadTable f at) h = h
refused_so file P Q before now so (Halted faults) h = h
refused_so file P Q before now so EmptyBatch h = h
refused_so file P Q before now so (SequenceEnd last ops) h = h
refused_so file P Q before now so (MemFull active batch) h = h
refused_so file P Q before now so (NoSnap number) h = h
refused_so file P Q before now so (TooManySnaps live) h = h
refused_so file P Q before now so (NotAStore f) h = h
refused_so file P Q before now so (FileEnd next tables) h = h
refused_so file P Q before now so (TooManyTables have more) h = h
refused_so file P Q before now so (StrangeJob job out) h = h

-- a refusal that was handed on
pub handed_on : {T E : Type 0} (r : Result T E) (e : E) (Q : E → Type 0) → IsErrAnd r (λ x. x ≡ e) → Q e → IfErr r Q
handed_on (Ok a) e Q h q = tt
handed_on (Err x) e Q h q = subst Q (sym h) q

pub handed_back : {T E : Type 0} (r : Result T E) (e m : E) → IsErrAnd r (λ x. x ≡ e) → IsErrOf r m → e ≡ m
handed_back (Ok a) e m h k = absurd h
handed_back (Err x) e m h k = cc

pub on_ok : {T E : Type 0} (r : Result T E) (P Q : Type 0) → (P → Q) → OnOk r P → OnOk r Q
on_ok (Ok a) P Q f h = f h
on_ok (Err e) P Q f h = tt

pub always : {T E : Type 0} (r : Result T E) (Q : Type 0) → Q → OnOk r Q
always (Ok a) Q q = q
always (Err e) Q q = tt
