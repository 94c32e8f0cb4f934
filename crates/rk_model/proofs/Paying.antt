-- One call of a source after another: what they cost together.
use Rattle.std.proofs.Common.{◌≡◌, ℕ, ◌+◌, ◌≤◌, Bool, Result, Ok, Err, refl, ◌∙◌, subst, arith}
use Rattle.std.specs.Prelude.{IsTrue, is_some}
use Rattle.std.specs.Result.{IsErrAnd}
use Rattle.std.proofs.lemmas.Result.{err_from_is_err_and}
use Rattle.rk_outside.specs.Causes.{HasSourceCause, IsSourceRefusal}
use Rattle.rk_outside.specs.Counts.{Counts}
use Rattle.rk_outside.specs.declared.error.SourceError.{SourceError}
use Rattle.rk_outside.specs.declared.error.SourceError.TheVariants.{Memory, ReadFault, BadTable}
use Rattle.rk_model.specs.Standings.{Listing, Costs, names}

-- calls that were not refused: no fault came, and reads and what is owed rose from one price to another
pub record Paid {A : Type 0} (l : Listing A) (owed owed' : ℕ) (before now : Counts) (from to : ℕ) : Type 0 where
  pub faults : now.faults ≡ before.faults
  pub later : before.reads ≤ now.reads
  pub fewer : owed' ≤ owed
  pub paid : IsTrue (is_some l.held) → now.reads + owed' + from ≤ before.reads + owed + to

pub paid_none : {A : Type 0} (l : Listing A) (owed : ℕ) (c : Counts) (n : ℕ) → Paid l owed owed c c n n
paid_none l owed c n = record { faults = refl; later = omega arith; fewer = omega arith; paid = λ told. omega arith }

pub paid_from : {A T : Type 0} (l : Listing A) (o o' : ℕ) (c c' : Counts) (f t : ℕ) (v : T) → Costs {T = T} l o o' c c' f t (Ok v) → Paid l o o' c c' f t
paid_from l o o' c c' f t v costs = record { faults = costs.cause.kept; later = costs.later; fewer = costs.fewer; paid = costs.paid }

pub paid_ok : {A T : Type 0} (l : Listing A) (o o' : ℕ) (c c' : Counts) (f t : ℕ) (v : T) → Paid l o o' c c' f t → Costs {T = T} l o o' c c' f t (Ok v)
paid_ok l o o' c c' f t v paid = record {
  cause = let e = paid.faults in record { later = omega arith; failed = tt; kept = paid.faults };
  later = paid.later;
  fewer = paid.fewer;
  paid = paid.paid;
  spent = λ told. tt;
}

-- one price more on both sides, or fewer on both, where that is known of a list that is told
pub paid_told : {A : Type 0} (l : Listing A) (o o' : ℕ) (c c' : Counts) (f t f' t' : ℕ) → (IsTrue (is_some l.held) → f' + t ≤ f + t') → Paid l o o' c c' f t → Paid l o o' c c' f' t'
paid_told l o o' c c' f t f' t' le one = record {
  faults = one.faults;
  later = one.later;
  fewer = one.fewer;
  paid = λ told. let a = one.paid told in let b = le told in omega arith;
}

pub paid_shift : {A : Type 0} (l : Listing A) (o o' : ℕ) (c c' : Counts) (f t f' t' : ℕ) → f' + t ≤ f + t' → Paid l o o' c c' f t → Paid l o o' c c' f' t'
paid_shift l o o' c c' f t f' t' le = paid_told l o o' c c' f t f' t' (λ told. le)

pub costs_told : {A T : Type 0} (l : Listing A) (o o' : ℕ) (c c' : Counts) (f t f' t' : ℕ) (result : Result T SourceError) → (IsTrue (is_some l.held) → f' + t ≤ f + t') → Costs l o o' c c' f t result → Costs l o o' c c' f' t' result
costs_told l o o' c c' f t f' t' (Ok v) le one = record {
  cause = one.cause;
  later = one.later;
  fewer = one.fewer;
  paid = λ told. let a = one.paid told in let b = le told in omega arith;
  spent = λ told. tt;
}
costs_told l o o' c c' f t f' t' (Err e) le one = record {
  cause = one.cause;
  later = one.later;
  fewer = one.fewer;
  paid = λ told. tt;
  spent = λ told. let a = one.spent told in let b = le told in omega arith;
}

pub costs_shift : {A T : Type 0} (l : Listing A) (o o' : ℕ) (c c' : Counts) (f t f' t' : ℕ) (result : Result T SourceError) → f' + t ≤ f + t' → Costs l o o' c c' f t result → Costs l o o' c c' f' t' result
costs_shift l o o' c c' f t f' t' result le = costs_told l o o' c c' f t f' t' result (λ told. le)

-- a call after others
pub paid_paid : {A : Type 0} (l : Listing A) (o o' o'' : ℕ) (c c' c'' : Counts) (f t f' t' : ℕ) → Paid l o o' c c' f t → Paid l o' o'' c' c'' f' t' → Paid l o o'' c c'' (f + f') (t + t')
paid_paid l o o' o'' c c' c'' f t f' t' one two =
    let a = one.later in
    let b = two.later in
    let d = one.fewer in
    let e = two.fewer in
    record {
      faults = two.faults ∙ one.faults;
      later = omega arith;
      fewer = omega arith;
      paid = λ told. let g = one.paid told in let h = two.paid told in omega arith;
    }

cause_on : {T : Type 0} (h : ℕ → ℕ → Bool) (f f' f'' : ℕ) (result : Result T SourceError) → f' ≡ f → HasSourceCause h f' f'' result → HasSourceCause h f f'' result
cause_on h f f' f'' result q cause = subst (λ n. HasSourceCause h n f'' result) q cause

pub costs_after : {A T : Type 0} (l : Listing A) (o o' o'' : ℕ) (c c' c'' : Counts) (f t f' t' : ℕ) (result : Result T SourceError) → Paid l o o' c c' f t → Costs l o' o'' c' c'' f' t' result → Costs l o o'' c c'' (f + f') (t + t') result
costs_after l o o' o'' c c' c'' f t f' t' (Ok v) one two = paid_ok l o o'' c c'' (f + f') (t + t') v (paid_paid l o o' o'' c c' c'' f t f' t' one (paid_from l o' o'' c' c'' f' t' v two))
costs_after l o o' o'' c c' c'' f t f' t' (Err e) one two =
    let a = one.later in
    let b = two.later in
    let d = one.fewer in
    let g = two.fewer in
    record {
      cause = cause_on (names l) c.faults c'.faults c''.faults (Err e) one.faults two.cause;
      later = omega arith;
      fewer = omega arith;
      paid = λ told. tt;
      spent = λ told. let h = one.paid told in let k = two.spent told in omega arith;
    }

-- a refusal that is handed on
pub costs_handed : {A T U : Type 0} (l : Listing A) (o o' : ℕ) (c c' : Counts) (f t : ℕ) (e : SourceError) (given : Result U SourceError) → Costs {T = T} l o o' c c' f t (Err e) → IsErrAnd given (λ d. d ≡ e) → Costs l o o' c c' f t given
costs_handed l o o' c c' f t e given costs q =
    let found = err_from_is_err_and given q in
    let cause = costs.cause in
    let later = cause.later in
    let failed : IsSourceRefusal (names l) c.faults c'.faults e = cause.failed in
    rw (found.1, found.2) (record {
      cause = record { later = later; failed = failed; kept = tt };
      later = costs.later;
      fewer = costs.fewer;
      paid = λ told. tt;
      spent = costs.spent;
    })

-- want of memory after calls that went well
pub paid_memory : {A T : Type 0} (l : Listing A) (o o' : ℕ) (c c' : Counts) (f t : ℕ) → Paid l o o' c c' f t → Costs {T = T} l o o' c c' f t (Err Memory)
paid_memory l o o' c c' f t one = record {
  cause = let e = one.faults in record { later = omega arith; failed = one.faults; kept = tt };
  later = one.later;
  fewer = one.fewer;
  paid = λ told. tt;
  spent = λ told. let a = one.paid told in omega arith;
}

refusal_over : (h h' : ℕ → ℕ → Bool) (f f' : ℕ) (e : SourceError) → ((file at : ℕ) → IsTrue (h file at) → IsTrue (h' file at)) → IsSourceRefusal h f f' e → IsSourceRefusal h' f f' e
refusal_over h h' f f' Memory all refusal = refusal
refusal_over h h' f f' (ReadFault n) all refusal = refusal
refusal_over h h' f f' (BadTable file at) all refusal = (all file at refusal.0, refusal.1)

cause_over : {T : Type 0} (h h' : ℕ → ℕ → Bool) (f f' : ℕ) (result : Result T SourceError) → ((file at : ℕ) → IsTrue (h file at) → IsTrue (h' file at)) → HasSourceCause h f f' result → HasSourceCause h' f f' result
cause_over h h' f f' (Ok v) all cause = record { later = cause.later; failed = tt; kept = cause.kept }
cause_over h h' f f' (Err e) all cause = record { later = cause.later; failed = refusal_over h h' f f' e all cause.failed; kept = tt }

-- A call of one source is a call of what stands over it, which may name what the source may, and is told only where
-- the source is.
pub costs_over : {A B T : Type 0} (l : Listing A) (m : Listing B) (o o' : ℕ) (c c' : Counts) (f t : ℕ) (result : Result T SourceError)
    → ((file at : ℕ) → IsTrue (names l file at) → IsTrue (names m file at)) → (IsTrue (is_some m.held) → IsTrue (is_some l.held))
    → Costs l o o' c c' f t result → Costs m o o' c c' f t result
costs_over l m o o' c c' f t result all told costs = record {
  cause = cause_over (names l) (names m) c.faults c'.faults result all costs.cause;
  later = costs.later;
  fewer = costs.fewer;
  paid = λ known. costs.paid (told known);
  spent = λ known. costs.spent (told known);
}
