use Rattle.std.proofs.Common.{◌≡◌, List, length}
use Rattle.rk_script.specs.Lines.{remaining}
use Rattle.rk_script.specs.Script.{script}
use Rattle.rk_script.specs.declared.line.Line.{Line}
use Rattle.rk_script.proofs.Reading.{with_front}
use Rattle.rk_script.proofs.read.check_script.Given as goal

-- some lines, and then those that are left, are those of the file
abbrev pub invariant-loop-left : goal.invariant-loop-left
invariant-loop-left l = (front : List Line) × (with_front front (remaining l.left) ≡ script l.fn.bytes)

abbrev pub decreases-loop-left : goal.decreases-loop-left
decreases-loop-left l = length l.left.left
