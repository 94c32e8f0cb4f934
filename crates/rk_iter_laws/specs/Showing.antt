-- An iterator over pinned chunks beside an iterator of the machine.
use Rattle.std.specs.Prelude.{◌≡◌, Bool, false, None, List, Result, Ok}
use Rattle.rk_outside.specs.declared.error.SourceError.{SourceError}
use Rattle.rk_model.specs.Covers.{upto}
use Rattle.rk_model.specs.Moves.{Move, opened_over, reported_value, reported_span}
use Rattle.rk_model.specs.declared.op.Entry.{Entry}
use Rattle.rk_model.specs.declared.options.IterOptions.{IterOptions}
use Rattle.rk_model.specs.declared.cursor.Cursor.TheVariants.{Fresh}
use Rattle.rk_laws.specs.SameCells.{GiveSameCells, AtKeyWithin, SeeksKey}
use Rattle.rk_mem.specs.Memory.{Pinned}
use Rattle.rk_merge_laws.specs.Chunks.{all_of, NumbersDifferOver}
use Rattle.rk_machine.specs.State.{Open}
use Rattle.rk_machine.specs.Iterators.{moved_on}
use Rattle.rk_iter.specs.Iterating.{Iterating, Moves}

-- An iterator over chunks is where one of the machine is: they have one number and the same options, cursor and change;
-- what the one sees has the cells of what the other sees; and the one lends what the other reports.
pub record IsAt (it : Iterating) (at : Open) : Type 0 where
  pub number : it.number ≡ at.number
  pub options : it.options ≡ at.view.options
  pub cursor : it.cursor ≡ at.view.cursor
  pub changed : it.changed ≡ at.view.changed
  pub differ : NumbersDifferOver it.chunks
  pub cells : GiveSameCells (upto it.number (all_of it.chunks)) at.view.sees it.options
  pub within : AtKeyWithin it.options it.cursor
  pub value : it.value ≡ reported_value at.view
  pub span : it.span ≡ reported_span at.view

-- an iterator that was opened over pins
abbrev pub opened_on : Pinned → IterOptions → Iterating
opened_on pins o = record { chunks = pins.chunks; number = pins.number; options = o; cursor = Fresh; value = None; span = None; changed = false }

-- opened over chunks that show some entries, it is where an iterator over these is
abbrev pub OpensAlike : Type 0
OpensAlike = (pins : Pinned) (es : List Entry) (o : IterOptions) → NumbersDifferOver pins.chunks → GiveSameCells (upto pins.number (all_of pins.chunks)) es o
    → IsAt (opened_on pins o) (record { number = pins.number; view = opened_over es o })

-- and each move leads it to where the same move leads the other
abbrev pub MovesAlike : Type 0
MovesAlike = (it it' : Iterating) (at : Open) (move : Move) (result : Result Bool SourceError) (there : Bool) → result ≡ Ok there
    → IsAt it at → SeeksKey move → Moves it it' move result → IsAt it' (moved_on at move)
