use Rattle.std.proofs.Common.{◌≡◌, length}
use Rattle.rk_script.specs.Lines.{remaining}
use Rattle.rk_script.specs.Script.{script}
use Rattle.rk_script.proofs.Reading.{with_front}
use Rattle.rk_script.proofs.read.read_script.Given as goal

-- the lines so far, and then those that are left, are those of the file
abbrev pub invariant-loop-lines : goal.invariant-loop-lines
invariant-loop-lines l = with_front l.lines.items (remaining l.left) ≡ script l.fn.bytes

abbrev pub decreases-loop-lines : goal.decreases-loop-lines
decreases-loop-lines l = length l.left.left
