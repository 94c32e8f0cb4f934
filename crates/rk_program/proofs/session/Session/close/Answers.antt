use Rattle.std.proofs.Common.{refl}
use Rattle.rk_machine.specs.Events.{Closed}
use Rattle.rk_program.proofs.Answered.{OnOk-weaker, told_under}
use Rattle.rk_program.proofs.LineLemmas.{iterator_name, close_does}
use Rattle.rk_program.proofs.Naming.{IsFirst-of}
use Rattle.rk_program.proofs.session.Session.close.Goals as goal

pub returns-clause-did : goal.returns-clause-did
returns-clause-did g c =
    let first = IsFirst-of iterator_name c.args.self.now.iterators.items c.deref.result.now c.args.iter.now c.args.iter.now c.live_place-i.result
    c.deref.ensures.value refl c.live_place-i.ensures.within c.live_place-i.ensures.first c.live_place-i.ensures.here in
    λ s stands. OnOk-weaker c.closed.result _ _
    (λ told. close_does c.args.self.now _ c.args.iter.now c.live_place-i.result c.remove.result _ _ s stands first refl refl refl c.remove.ensures.items
    (told_under _ _ _ _ Closed c.bytes.ensures told))
    c.closed.ensures
