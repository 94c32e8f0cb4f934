use Rattle.std.proofs.Common.{refl, Ok, subst}
use Rattle.rk_machine.specs.Events.{Opened}
use Rattle.rk_program.specs.Replies.{Tells}
use Rattle.rk_program.proofs.Answered.{told_under}
use Rattle.rk_program.proofs.LineLemmas.{open_does}
use Rattle.rk_program.proofs.session.Session.open.Goals as goal

pub returns-clause-did : goal.returns-clause-did
returns-clause-did g c =
    λ s stands. open_does c.args.self.now _ c.args.name.now c.args.at.now c.args.options.now c.time-number.result c.in-Ok.pins (record { name = c.in_ok-name.name; iter = c.in_ok-iter.iter }) _ _ s stands
    c.requires.free (c.time-number.ensures s stands) c.in-Ok.ensures.pins c.in_ok-iter.ensures.bounds c.pin.ensures.same refl refl c.in_ok-push.ensures.items
    c.in_ok-name.ensures c.in_ok-iter.ensures.opened (subst (λ p. Tells c.args.self.now.reply.items c.opened.new.out.items c.args.name.now (Opened p.number)) c.pins.view_is
    (told_under _ _ _ _ (Opened c.pins.inside.number) c.bytes.ensures c.in_ok-opened.ensures))
