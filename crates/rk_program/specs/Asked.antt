-- The operations and the moves that lines ask for, as the definitions have them.
use Rattle.std.specs.Prelude.{ℕ, List, Option, Some, None}
use Rattle.rk_model.specs.Moves.{Move}
use Rattle.rk_model.specs.Moves as move
use Rattle.rk_model.specs.declared.op.Op.{Op}
use Rattle.rk_model.specs.declared.op.Op.TheVariants as op
use Rattle.rk_script.specs.declared.line.Event.{Event}
use Rattle.rk_script.specs.declared.line.Event.TheVariants as line
use Rattle.rk_program.specs.declared.batches.BatchOp.{BatchOp}
use Rattle.rk_program.specs.declared.batches.BatchOp.TheVariants.{Put, Del, RangeSet, RangeUnset, RangeDel}
use Rattle.rk_program.specs.declared.moves.Move.{Move as AskedMove}
use Rattle.rk_program.specs.declared.moves.Move.TheVariants.{First, Last, Next, Prev, SeekGe, SeekLt}

abbrev pub op_of : BatchOp → Op
op_of (Put key value) = op.Put key.now value.now
op_of (Del key) = op.Del key.now
op_of (RangeSet start end suffix value) = op.RangeSet start.now end.now suffix.now value.now
op_of (RangeUnset start end suffix) = op.RangeUnset start.now end.now suffix.now
op_of (RangeDel start end) = op.RangeDel start.now end.now

abbrev pub move_of : AskedMove → Move
move_of First = move.First
move_of Last = move.Last
move_of Next = move.Next
move_of Prev = move.Prev
move_of (SeekGe key) = move.SeekGe key.now
move_of (SeekLt key) = move.SeekLt key.now

-- the writer and the operation of a line on a batch
abbrev pub operation_of : Event → Option (List ℕ × Op)
operation_of (line.Put writer key value) = Some (writer, op.Put key value)
operation_of (line.Del writer key) = Some (writer, op.Del key)
operation_of (line.RangeSet writer start end suffix value) = Some (writer, op.RangeSet start end suffix value)
operation_of (line.RangeUnset writer start end suffix) = Some (writer, op.RangeUnset start end suffix)
operation_of (line.RangeDel writer start end) = Some (writer, op.RangeDel start end)
operation_of _ = None
