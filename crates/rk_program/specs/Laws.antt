-- A command file has one transcript.
use Rattle.std.specs.Prelude.{◌≡◌, ℕ, List, Ok}
use Rattle.rk_script.specs.Script.{script}
use Rattle.rk_script.specs.declared.line.Line.{Line}
use Rattle.rk_program.specs.Transcript.{SessionState, begin, IsTranscript}

-- two transcripts of the same lines are the same
abbrev pub OneTranscript : Type 0
OneTranscript = (lines : List Line) (a b : List ℕ) (s t : SessionState) → IsTranscript begin lines a s → IsTranscript begin lines b t → a ≡ b

-- lines that a file spells have a transcript
abbrev pub SomeTranscript : Type 0
SomeTranscript = (file : List ℕ) (lines : List Line) → script file ≡ Ok lines → (text : List ℕ) × (end : SessionState) × IsTranscript begin lines text end
