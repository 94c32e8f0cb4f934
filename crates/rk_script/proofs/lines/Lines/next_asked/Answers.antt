use Rattle.std.proofs.Common.{subst}
use Rattle.rk_script.specs.Asked.{event_asked}
use Rattle.rk_script.specs.LineErrors.{Refuses}
use Rattle.rk_script.specs.Script.{accepted_event}
use Rattle.rk_script.proofs.Reading.{takes, refuses}
use Rattle.rk_script.proofs.lines.Lines.next_asked.Goals as goal

pub returns-in-Err-Bad-clause-line : goal.returns-in-Err-Bad-clause-line
returns-in-Err-Bad-clause-line c =
    let refused = subst (Refuses (accepted_event c.self.inside.names c.in-Some.line.now)) c.in-Err-Bad.field-0-is c.in-Err-Bad.ensures in
    rw c.in-Err-Bad.why-is (refuses c.args.self.now c.next_kept.new.self _ c.in-Some.line.now c.in-Err-Bad.why c.in-Some.ensures.line c.self.view_is refused)

pub returns-clause-line : goal.returns-clause-line
returns-clause-line c =
    takes c.args.self.now c.next_kept.new.self _ c.in-Some.line.now (event_asked c.in-Ok.asked) c.add.new.self c.in-Some.ensures.line c.self.view_is c.in-Ok.ensures c.in_ok-add.ensures
