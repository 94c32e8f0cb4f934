-- What each end of a run tells of the input and of the output.
use Rattle.std.specs.Prelude.{◌≡◌, ℕ, ◌⊎◌, List, take, Option, Ok, Err, ⊤}
use Rattle.std.specs.Io.KnownBytes.{Keeps, Appends}
use Rattle.rk_outside.specs.Sinks.{AppendsPrefix}
use Rattle.rk_script.specs.Script.{script}
use Rattle.rk_script.specs.declared.line.Line.{Line}
use Rattle.rk_script.specs.declared.line.Why.{Why}
use Rattle.rk_program.specs.Input.{GaveAll, GaveTooMany, IsFault, IsSourceRefusal}
use Rattle.rk_program.specs.Transcript.{SessionState, begin, IsTranscript}
use Rattle.rk_program.specs.declared.cause.Cause.{Cause}
use Rattle.rk_program.specs.declared.cause.Cause.TheVariants as cause
use Rattle.rk_program.specs.declared.input.TheConstants.{MOST_FILE_BYTES}

-- the source gave a file of these lines
abbrev pub GaveLines : Option (List ℕ) → Option (List ℕ) → List Line → Type 0
GaveLines before now lines = (file : List ℕ) × GaveAll before now file × (script file ≡ Ok lines)

-- the source gave a file with this first line that is not of the grammar
abbrev pub GaveBadLine : Option (List ℕ) → Option (List ℕ) → ℕ → Why → Type 0
GaveBadLine before now line why = (file : List ℕ) × GaveAll before now file × (script file ≡ Err (record { line = line; why = why }))

-- what was written since is the transcript of these lines
abbrev pub Wrote : Option (List ℕ) → Option (List ℕ) → List Line → Type 0
Wrote before now lines = (text : List ℕ) × (end : SessionState) × IsTranscript begin lines text end × Appends before now text

-- what was written since is a first part of the transcript of some first lines of these
abbrev pub WrotePart : Option (List ℕ) → Option (List ℕ) → List Line → Type 0
WrotePart before now lines = (n : ℕ) × (text : List ℕ) × (end : SessionState)
    × IsTranscript begin (take n lines) text end
    × AppendsPrefix before now text

-- every line of the file that the source gave is done, and its transcript was written
abbrev pub DidAll : (left_before left_now written_before written_now : Option (List ℕ)) → Type 0
DidAll left_before left_now written_before written_now =
    (lines : List Line) × GaveLines left_before left_now lines × Wrote written_before written_now lines

-- a part of the transcript of the file that the source gave was written
abbrev pub DidPart : (left_before left_now written_before written_now : Option (List ℕ)) → Type 0
DidPart left_before left_now written_before written_now =
    (lines : List Line) × GaveLines left_before left_now lines × WrotePart written_before written_now lines

-- why no file was read; but where the source failed, no fault of it was passed over
abbrev pub IsNoFile : (left_before left_now : Option (List ℕ)) → (count_before count_now : ℕ) → Cause → Type 0
IsNoFile left_before left_now count_before count_now (cause.Line line why) = GaveBadLine left_before left_now line why × (count_now ≡ count_before)
IsNoFile left_before left_now count_before count_now (cause.Length limit) =
    (limit ≡ MOST_FILE_BYTES) × GaveTooMany left_before left_now × (count_now ≡ count_before)
IsNoFile left_before left_now count_before count_now refusal = IsSourceRefusal count_before count_now refusal

-- why no file is run: the words are not accepted, or none was read
abbrev pub IsNotRead : (left_before left_now : Option (List ℕ)) → (count_before count_now : ℕ) → Cause → Type 0
IsNotRead left_before left_now count_before count_now cause.Words = count_now ≡ count_before
IsNotRead left_before left_now count_before count_now refusal = IsNoFile left_before left_now count_before count_now refusal
