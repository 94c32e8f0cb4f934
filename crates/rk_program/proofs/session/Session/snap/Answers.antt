use Rattle.std.proofs.Common.{refl}
use Rattle.rk_machine.specs.Events.{Number}
use Rattle.rk_program.proofs.Answered.{told_under}
use Rattle.rk_program.proofs.StoreLemmas.{snap_does}
use Rattle.rk_program.proofs.session.Session.snap.Goals as goal

pub returns-clause-did : goal.returns-clause-did
returns-clause-did g c =
    λ s stands. snap_does c.args.self.now _ c.args.name.now (record { name = c.in_ok-name.name; number = c.in-Ok.number }) _ _ s stands
    c.in-Ok.ensures.step refl refl c.in_ok-push.ensures.items c.in_ok-name.ensures (told_under _ _ _ _ (Number c.in-Ok.number) c.bytes.ensures c.in_ok-snapped.ensures)
