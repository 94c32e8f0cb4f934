use Rattle.std.proofs.Common.{sym}
use Rattle.rk_script.proofs.Cutting.{before_end, behind_end, whole, nothing_behind}
use Rattle.rk_script.proofs.lines.cut_line.Goals as goal

pub returns-in-Some-clause-line : goal.returns-in-Some-clause-line
returns-in-Some-clause-line c = before_end c.args.bytes.now c.in-Some.end (sym c.in-Some.ensures)

pub returns-in-Some-clause-left : goal.returns-in-Some-clause-left
returns-in-Some-clause-left c = behind_end c.args.bytes.now c.in-Some.end (sym c.in-Some.ensures)

pub returns-in-None-clause-line : goal.returns-in-None-clause-line
returns-in-None-clause-line c = whole c.args.bytes.now (sym c.in-None.ensures)

pub returns-in-None-clause-left : goal.returns-in-None-clause-left
returns-in-None-clause-left c = nothing_behind c.args.bytes.now (sym c.in-None.ensures)
