-- The causes for which a run ends: their statuses, what is said of them, and facts for some of them.
use Rattle.std.specs.Prelude.{ℕ, Bool, true, false, List, [], ◌∷◌, ◌++◌, codes, String, Result, Ok, Err, ⊤}
use Rattle.std.specs.String.{string_bytes}
use Rattle.std.specs.Fmt.{decimal}
use Rattle.std.specs.declared.alloc.Global.{Global}
use Rattle.rk_model.specs.Spans.{same_bytes}
use Rattle.rk_script.specs.Reasons.{why_text}
use Rattle.rk_script.specs.declared.line.ScriptError.{ScriptError}
use Rattle.rk_script.specs.declared.line.ScriptError.TheVariants as refusals
use Rattle.rk_script.specs.declared.line.Why.{Why}
use Rattle.rk_program.specs.declared.cause.Cause.{Cause}
use Rattle.rk_program.specs.declared.cause.Cause.TheVariants as cause

-- a run that was not refused did all
abbrev pub cause_of : {T : Type 0} → Result T Cause → Cause
cause_of (Ok done) = cause.Done
cause_of (Err refusal) = refusal

-- the cause of a run whose file is refused so
abbrev pub refusal_of : ScriptError → Cause
refusal_of refusals.Memory = cause.Memory
refusal_of (refusals.BadLine line why) = cause.Line line why

abbrev pub status_of : Cause → ℕ
status_of cause.Done = 0
status_of cause.Words = 2
status_of (cause.Line line why) = 3
status_of (cause.Length limit) = 3
status_of (cause.SourceFault faults) = 4
status_of (cause.SinkFault faults) = 5
status_of cause.Memory = 6

-- what is said of a run that ended so
abbrev pub cause_text : Cause → List ℕ
cause_text cause.Done = codes "done"
cause_text cause.Words = codes "words"
cause_text (cause.Line line why) = codes "line " ++ (decimal line ++ (codes ": " ++ why_text why))
cause_text (cause.Length limit) = codes "file too long"
cause_text (cause.SourceFault faults) = codes "source fault"
cause_text (cause.SinkFault faults) = codes "sink fault"
cause_text cause.Memory = codes "memory"

-- the one list of words that is taken
abbrev pub are_words : List (String Global) → Bool
are_words [] = false
are_words (word ∷ []) = same_bytes (string_bytes word) (codes "run")
are_words (word ∷ other ∷ words) = false

abbrev pub is_words : Cause → Bool
is_words cause.Words = true
is_words other = false

-- a fact for one cause
abbrev pub OnDone : Cause → Type 0 → Type 0
OnDone cause.Done P = P
OnDone other P = ⊤

abbrev pub OnLine : Cause → (ℕ → Why → Type 0) → Type 0
OnLine (cause.Line line why) P = P line why
OnLine other P = ⊤

abbrev pub OnLength : Cause → (ℕ → Type 0) → Type 0
OnLength (cause.Length limit) P = P limit
OnLength other P = ⊤

abbrev pub OnSourceFault : Cause → (ℕ → Type 0) → Type 0
OnSourceFault (cause.SourceFault faults) P = P faults
OnSourceFault other P = ⊤

abbrev pub OnSinkFault : Cause → (ℕ → Type 0) → Type 0
OnSinkFault (cause.SinkFault faults) P = P faults
OnSinkFault other P = ⊤

abbrev pub OnMemory : Cause → Type 0 → Type 0
OnMemory cause.Memory P = P
OnMemory other P = ⊤

-- a fact for the causes that come before any line is done
abbrev pub OnNotBegun : Cause → Type 0 → Type 0
OnNotBegun cause.Done P = ⊤
OnNotBegun cause.Words P = P
OnNotBegun (cause.Line line why) P = P
OnNotBegun (cause.Length limit) P = P
OnNotBegun (cause.SourceFault faults) P = P
OnNotBegun (cause.SinkFault faults) P = ⊤
OnNotBegun cause.Memory P = ⊤

-- a fact for each cause but a fault of the source
abbrev pub UnlessSourceFault : Cause → Type 0 → Type 0
UnlessSourceFault cause.Done P = P
UnlessSourceFault cause.Words P = P
UnlessSourceFault (cause.Line line why) P = P
UnlessSourceFault (cause.Length limit) P = P
UnlessSourceFault (cause.SourceFault faults) P = ⊤
UnlessSourceFault (cause.SinkFault faults) P = P
UnlessSourceFault cause.Memory P = P

-- and for each but a fault of the sink
abbrev pub UnlessSinkFault : Cause → Type 0 → Type 0
UnlessSinkFault cause.Done P = P
UnlessSinkFault cause.Words P = P
UnlessSinkFault (cause.Line line why) P = P
UnlessSinkFault (cause.Length limit) P = P
UnlessSinkFault (cause.SourceFault faults) P = P
UnlessSinkFault (cause.SinkFault faults) P = ⊤
UnlessSinkFault cause.Memory P = P

abbrev pub IsDoneOrMemory : Cause → Type 0
IsDoneOrMemory cause.Done = ⊤
IsDoneOrMemory cause.Memory = ⊤
IsDoneOrMemory other = ⊥
