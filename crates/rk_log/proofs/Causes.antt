-- The first bad record of two logs.
use Rattle.std.proofs.Common.{◌≡◌, ℕ, Result, Ok, Err, List, subst, sym}
use Rattle.std.specs.Prelude.{IfErr, IsErrAnd, OnOk}
use Rattle.rk_outside.specs.Disks.{Disk, Files, TellsFiles}
use Rattle.rk_log.specs.Logs.{log_of, logs_in, by_the_rules}
use Rattle.rk_log.specs.declared.group.Logged.{Logged}

-- a refusal that was handed on
pub handed_on : {T E : Type 0} (r : Result T E) (e : E) (Q : E → Type 0) → IsErrAnd r (λ x. x ≡ e) → Q e → IfErr r Q
handed_on (Ok a) e Q is q = tt
handed_on (Err x) e Q is q = subst Q (sym is) q

pub no_value : {T E : Type 0} (r : Result T E) (Q : E → Type 0) (P : Type 0) → IsErrAnd r Q → OnOk r P
no_value (Ok a) Q P is = absurd is
no_value (Err x) Q P is = tt

-- where both logs are read, the rules decide
pub both_read : (flushed : ℕ) (files : Files) (log1 log2 : List Logged) → log_of (files 1) ≡ Ok log1 → log_of (files 2) ≡ Ok log2
    → logs_in flushed files ≡ by_the_rules flushed (record { first = log1; second = log2 })
both_read flushed files log1 log2 one two = rw (one, two) (λ i. by_the_rules flushed (record { first = log1; second = log2 }))

-- the second one behind the first one
pub read_in_turn : (flushed : ℕ) (old then : Disk) (log1 log2 : List Logged) → then ≡ old
    → (TellsFiles old → log_of (old.files 1) ≡ Ok log1) → (TellsFiles then → log_of (then.files 2) ≡ Ok log2)
    → TellsFiles old → logs_in flushed old.files ≡ by_the_rules flushed (record { first = log1; second = log2 })
read_in_turn flushed old then log1 log2 same one two tells =
    both_read flushed old.files log1 log2 (one tells) (subst (λ d. TellsFiles d → log_of (d.files 2) ≡ Ok log2) same two tells)
