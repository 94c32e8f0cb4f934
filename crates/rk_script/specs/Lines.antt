-- The lines of a file, one after the other.
use Rattle.std.specs.Prelude.{◌≡◌, ℕ, ◌+◌, List, [], Option, Some, None, Result, Ok, Err}
use Rattle.std.specs.List.{before_first, after_first}
use Rattle.rk_script.specs.Script.{Names, BadLine, accepted_event, names_after, before_lines, with_line, read_from, IsScriptRefusal}
use Rattle.rk_script.specs.Words.{lines, ends_line}
use Rattle.rk_script.specs.declared.line.Event.{Event}
use Rattle.rk_script.specs.declared.line.Line.{Line}
use Rattle.rk_script.specs.declared.line.ScriptError.{ScriptError}

-- What a cursor has before it: the number of the line before, the names that are live, and the bytes that are left
pub record LinesLeft : Type 0 where
  pub number : ℕ
  pub names : Names
  pub left : List ℕ

-- the bytes before the first line end, and those behind it
abbrev pub first_line : List ℕ → List ℕ
first_line bytes = before_first ends_line bytes

abbrev pub behind_line : List ℕ → List ℕ
behind_line bytes = after_first ends_line bytes

-- what is left behind the first line, which is counted
abbrev pub past_line : LinesLeft → LinesLeft
past_line l = record l { number = l.number + 1; left = behind_line l.left }

-- the lines that are left, or the first of them that is not of the grammar
abbrev pub remaining : LinesLeft → Result (List Line) BadLine
remaining l = read_from (l.number + 1) l.names (lines l.left)

-- the next line and what is left behind it, or the end, or why what is left can't be read
abbrev pub IsNextLine : Result (List Line) BadLine → Result (List Line) BadLine → Result (Option Line) ScriptError → Type 0
IsNextLine old new (Ok None) = (old ≡ Ok []) × (new ≡ Ok [])
IsNextLine old new (Ok (Some line)) = old ≡ before_lines line new
IsNextLine old new (Err error) = IsScriptRefusal old error

-- what is left once the names of an event are taken in
abbrev pub after_event : LinesLeft → Event → LinesLeft
after_event l event = record l { names = names_after l.names event }

-- the next line that isn't skipped, its words not read yet, or the end
abbrev pub IsNextKept : LinesLeft → LinesLeft → Option (List ℕ) → Type 0
IsNextKept old new None = (remaining old ≡ Ok []) × (remaining new ≡ Ok [])
IsNextKept old new (Some line) = remaining old ≡ with_line new.number (accepted_event new.names line) (λ event. remaining (after_event new event))
