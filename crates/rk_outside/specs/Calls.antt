-- Objects in memory that fail at listed calls. Calls are numbered from 1.
use Rattle.std.specs.Prelude.{ℕ, ◌+◌, ◌-◌, ◌^◌, min, Bool, true, false, if◌then◌else◌, List, Contains, Result, Ok, Err}
use Rattle.rk_outside.specs.declared.error.SinkError.{SinkError}
use Rattle.rk_outside.specs.declared.error.SinkError.TheVariants.{Memory, Failed}

-- the numbers of the calls that are to fail, and how many calls were made and failed so far
pub record Calls : Type 0 where
  pub fail : List ℕ
  pub made : ℕ
  pub faults : ℕ

-- one more, or the greatest `u64`
abbrev pub one_more : ℕ → ℕ
one_more n = min (n + 1) (2 ^ 64 - 1)

-- a count of faults after a call that failed or not
abbrev pub faults_after : Bool → ℕ → ℕ
faults_after failed n = if failed then one_more n else n

-- before the first call
abbrev pub no_calls : List ℕ → Calls
no_calls fail = record { fail = fail; made = 0; faults = 0 }

-- the next call is listed
abbrev pub IsNextListed : Calls → Type 0
IsNextListed calls = Contains calls.fail (calls.made + 1)

-- after one more call, which failed or not
abbrev pub after_call : Bool → Calls → Calls
after_call failed calls = record {
  fail = calls.fail;
  made = one_more calls.made;
  faults = faults_after failed calls.faults;
}

-- the answer is `Failed`
abbrev pub is_failed : {T : Type 0} → Result T SinkError → Bool
is_failed (Ok _) = false
is_failed (Err Memory) = false
is_failed (Err Failed) = true

-- what a source in memory has left to give, and its calls
pub record Reading : Type 0 where
  pub left : List ℕ
  pub calls : Calls

-- what was written to a sink in memory, whether all of it was handed on, and its calls
pub record Writing : Type 0 where
  pub written : List ℕ
  pub finished : Bool
  pub calls : Calls

-- the same of one that never fails
pub record Steady : Type 0 where
  pub written : List ℕ
  pub finished : Bool
