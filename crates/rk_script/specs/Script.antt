-- Command files: the names that are live, and a whole file.
use Rattle.std.specs.Prelude.{◌≡◌, ℕ, ◌+◌, nat_lt, Bool, true, not, ◌&&◌, ◌||◌, List, [], ◌∷◌, ◌++◌, length, if◌then◌else◌, Option, Some, None, Result, Ok, Err}
use Rattle.std.specs.List.{list_all}
use Rattle.std.specs.Option.{option_map_or}
use Rattle.rk_script.specs.Checks.{Check, checked}
use Rattle.rk_script.specs.Grammar.{event_of, and_then}
use Rattle.rk_script.specs.Naming.{is_called, with_name, without_name}
use Rattle.rk_script.specs.Words.{lines, words, is_skipped, is_printable}
use Rattle.rk_script.specs.declared.limits.TheConstants.{MOST_WRITERS, MOST_ITERATORS, MOST_SNAPSHOTS}
use Rattle.rk_script.specs.declared.line.Event.{Event}
use Rattle.rk_script.specs.declared.line.Event.TheVariants.{Put, Del, RangeSet, RangeUnset, RangeDel, Commit, Snap, Release, Iter, First, Last, Next, Prev, SeekGe, SeekLt, Close}
use Rattle.rk_script.specs.declared.line.Line.{Line}
use Rattle.rk_script.specs.declared.line.ScriptError.{ScriptError}
use Rattle.rk_script.specs.declared.line.ScriptError.TheVariants as refusals
use Rattle.rk_script.specs.declared.line.Why.{Why}
use Rattle.rk_script.specs.declared.line.Why.TheVariants.{Byte, NoName, Taken, TooMany}

-- The names that are live. One word may be a name of each kind.
pub record Names : Type 0 where
  pub writers : List (List ℕ)
  pub iterators : List (List ℕ)
  pub snapshots : List (List ℕ)

abbrev pub no_names : Names
no_names = record { writers = []; iterators = []; snapshots = [] }

-- the writer whose batch a line adds to or commits
abbrev pub writer_of : Event → Option (List ℕ)
writer_of (Put writer key value) = Some writer
writer_of (Del writer key) = Some writer
writer_of (RangeSet writer start end suffix value) = Some writer
writer_of (RangeUnset writer start end suffix) = Some writer
writer_of (RangeDel writer start end) = Some writer
writer_of (Commit writer) = Some writer
writer_of _ = None

-- whether each iterator and snapshot that a line uses is live
abbrev pub are_live : Names → Event → Bool
are_live names (Release name) = is_called name names.snapshots
are_live names (Iter name at lower upper mask) = option_map_or (λ snapshot. is_called snapshot names.snapshots) at true
are_live names (First iter) = is_called iter names.iterators
are_live names (Last iter) = is_called iter names.iterators
are_live names (Next iter) = is_called iter names.iterators
are_live names (Prev iter) = is_called iter names.iterators
are_live names (SeekGe iter key) = is_called iter names.iterators
are_live names (SeekLt iter key) = is_called iter names.iterators
are_live names (Close iter) = is_called iter names.iterators
are_live names _ = true

-- whether the name of a snapshot or an iterator that a line makes is free
abbrev pub is_free : Names → Event → Bool
is_free names (Snap name) = not (is_called name names.snapshots)
is_free names (Iter name at lower upper mask) = not (is_called name names.iterators)
is_free names _ = true

abbrev pub has_room_for : List ℕ → List (List ℕ) → Bool
has_room_for writer writers = is_called writer writers || nat_lt (length writers) MOST_WRITERS

-- whether there are no more names than there may be after a line
abbrev pub has_room : Names → Event → Bool
has_room names (Snap name) = nat_lt (length names.snapshots) MOST_SNAPSHOTS
has_room names (Iter name at lower upper mask) = nat_lt (length names.iterators) MOST_ITERATORS
has_room names event = option_map_or (λ writer. has_room_for writer names.writers) (writer_of event) true

-- whether the live names let a line stand
abbrev pub is_accepted : Names → Event → Bool
is_accepted names event = are_live names event && is_free names event && has_room names event

abbrev pub name_checks : Names → Event → List Check
name_checks names event = (are_live names event, NoName) ∷ (is_free names event, Taken) ∷ (has_room names event, TooMany) ∷ []

abbrev pub with_writer : List ℕ → Names → Names
with_writer writer names = record names { writers = with_name writer names.writers }

-- the names that are live after a line
abbrev pub names_after : Names → Event → Names
names_after names (Snap name) = record names { snapshots = names.snapshots ++ name ∷ [] }
names_after names (Release name) = record names { snapshots = without_name name names.snapshots }
names_after names (Iter name at lower upper mask) = record names { iterators = names.iterators ++ name ∷ [] }
names_after names (Close iter) = record names { iterators = without_name iter names.iterators }
names_after names event = option_map_or (λ writer. with_writer writer names) (writer_of event) names

-- what a line that isn't skipped asks for, where the live names let it stand
abbrev pub accepted_event : Names → List ℕ → Result Event Why
accepted_event names line =
    if list_all is_printable line then and_then (λ event. checked (name_checks names event) event) (event_of (words line)) else Err Byte

-- The first line that is not of the grammar
pub record BadLine : Type 0 where
  pub line : ℕ
  pub why : Why

abbrev pub before_lines : Line → Result (List Line) BadLine → Result (List Line) BadLine
before_lines line (Ok lines) = Ok (line ∷ lines)
before_lines line (Err bad) = Err bad

-- the line numbered n, and then those that follow it
abbrev pub with_line : ℕ → Result Event Why → (Event → Result (List Line) BadLine) → Result (List Line) BadLine
with_line n (Err why) following = Err (record { line = n; why = why })
with_line n (Ok event) following = before_lines (record { number = n; event = event }) (following event)

-- the lines from the one numbered n on
abbrev pub read_from : ℕ → Names → List (List ℕ) → Result (List Line) BadLine
read_from n names [] = Ok []
read_from n names (line ∷ lines) =
    if is_skipped line
    then read_from (n + 1) names lines
    else with_line n (accepted_event names line) (λ event. read_from (n + 1) (names_after names event) lines)

-- the lines of a file that aren't skipped, or its first line that is not of the grammar
abbrev pub script : List ℕ → Result (List Line) BadLine
script file = read_from 1 no_names (lines file)

-- Why a file is refused: memory may run out at any time, and a line is named only where the file stops to be
-- of the grammar at it.
abbrev pub IsScriptRefusal : Result (List Line) BadLine → ScriptError → Type 0
IsScriptRefusal read refusals.Memory = Unit {0}
IsScriptRefusal read (refusals.BadLine line why) = read ≡ Err (record { line = line; why = why })
