use Rattle.std.proofs.Common.{sym}
use Rattle.std.specs.Prelude.{if◌then◌else◌}
use Rattle.rk_log.proofs.Passing.{passed, later_there, later_not}
use Rattle.rk_log.proofs.rules.Due.pass.Goals as goal

pub returns-then-logged-self : goal.returns-then-logged-self
returns-then-logged-self c flushed others before h =
    let p = passed flushed others before c.args.self.now c.args.logged.now h in
    rw (later_there c.args.self.now.flushed c.args.logged.now _ c.logged.view_is c.if-logged-self.true, sym c.end-end.ensures) at p

pub returns-else-logged-self : goal.returns-else-logged-self
returns-else-logged-self c flushed others before h =
    let p = passed flushed others before c.args.self.now c.args.logged.now h in
    rw (later_not c.args.self.now.flushed c.args.logged.now _ c.logged.view_is c.if-logged-self.false, sym c.end-end.ensures) at p
