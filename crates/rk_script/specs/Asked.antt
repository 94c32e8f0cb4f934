-- What a line that is read where it stands asks for: the event that it is decoded to.
use Rattle.std.specs.Prelude.{ℕ, List, Option, Result, Ok, Err}
use Rattle.std.specs.Option.{option_copied, option_map}
use Rattle.rk_script.specs.Lines.{LinesLeft, IsNextLine, remaining}
use Rattle.rk_script.specs.declared.asked.Asked.{Asked}
use Rattle.rk_script.specs.declared.asked.Asked.TheVariants.{Batch, Snap, Release, Shape, Iter, Move, Close}
use Rattle.rk_script.specs.declared.asked.Change.{Change}
use Rattle.rk_script.specs.declared.asked.Change.TheVariants.{Put, Del, RangeSet, RangeUnset, RangeDel, Commit}
use Rattle.rk_script.specs.declared.asked.Target.{Target}
use Rattle.rk_script.specs.declared.asked.Target.TheVariants.{First, Last, Next, Prev, SeekGe, SeekLt}
use Rattle.rk_script.specs.declared.line.Event.{Event}
use Rattle.rk_script.specs.declared.line.Event.TheVariants as event
use Rattle.rk_script.specs.declared.line.Line.{Line}
use Rattle.rk_script.specs.declared.line.ScriptError.{ScriptError}

-- what is done to the batch of this writer
abbrev pub changed : List ℕ → Change → Event
changed writer (Put key value) = event.Put writer key value
changed writer (Del key) = event.Del writer key
changed writer (RangeSet start end suffix value) = event.RangeSet writer start end suffix value
changed writer (RangeUnset start end suffix) = event.RangeUnset writer start end suffix
changed writer (RangeDel start end) = event.RangeDel writer start end
changed writer Commit = event.Commit writer

-- where this iterator is moved
abbrev pub moved : List ℕ → Target → Event
moved iter First = event.First iter
moved iter Last = event.Last iter
moved iter Next = event.Next iter
moved iter Prev = event.Prev iter
moved iter (SeekGe key) = event.SeekGe iter key
moved iter (SeekLt key) = event.SeekLt iter key

abbrev pub event_asked : Asked → Event
event_asked (Batch writer change) = changed writer.now change
event_asked (Snap name) = event.Snap name.now
event_asked (Release name) = event.Release name.now
event_asked Shape = event.Shape
event_asked (Iter name at lower upper mask) = event.Iter name.now (option_copied at) lower upper mask
event_asked (Move iter to) = moved iter.now to
event_asked (Close iter) = event.Close iter.now

-- the same answer, of which this is seen
abbrev pub answer_as : {A B E : Type 0} → (A → B) → Result A E → Result B E
answer_as view (Ok a) = Ok (view a)
answer_as view (Err error) = Err error

-- with the number of the line that a cursor has just read
abbrev pub line_asked : LinesLeft → Asked → Line
line_asked l asked = record { number = l.number; event = event_asked asked }

-- the next line, or the end, as `IsNextLine` says it of what is decoded
abbrev pub IsNextAsked : LinesLeft → LinesLeft → Result (Option Asked) ScriptError → Type 0
IsNextAsked old new result = IsNextLine (remaining old) (remaining new) (answer_as (option_map (line_asked new)) result)
