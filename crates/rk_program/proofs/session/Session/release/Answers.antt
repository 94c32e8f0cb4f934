use Rattle.std.proofs.Common.{refl, subst}
use Rattle.rk_machine.specs.Events.{Release, Released}
use Rattle.rk_memstore.specs.Answers.{IsStep}
use Rattle.rk_program.proofs.Answered.{OnOk-weaker, told_under}
use Rattle.rk_program.proofs.Accepted.{live_called}
use Rattle.rk_program.proofs.StoreLemmas.{snapshot_name, snapshot_number, release_does}
use Rattle.rk_program.proofs.Naming.{IsFirst-of}
use Rattle.rk_program.proofs.session.Session.release.Goals as goal

pub live_place-i-requires : goal.live_place-i-requires
live_place-i-requires g c = rw c.deref.ensures.value (live_called snapshot_name snapshot_number c.args.self.now.snapshots.items c.args.name.now c.requires.live)

pub returns-in-Ok-clause-did : goal.returns-in-Ok-clause-did
returns-in-Ok-clause-did g c =
    let first = IsFirst-of snapshot_name c.args.self.now.snapshots.items c.deref.result.now c.args.name.now c.args.name.now c.live_place-i.result
    c.deref.ensures.value refl c.live_place-i.ensures.within c.live_place-i.ensures.first c.live_place-i.ensures.here in
    λ s stands. OnOk-weaker c.released.result _ _
    (λ told. release_does c.args.self.now _ c.args.name.now c.live_place-i.result c.remove-snapshot.result _ _ s stands first
    (subst (λ x. IsStep c.args.self.now.mem c.release.new.self (Release x.number) Released) c.remove-snapshot.ensures.value c.in-Ok.ensures.step) refl refl c.remove-snapshot.ensures.items (told_under _ _ _ _ Released c.bytes.ensures told))
    c.released.ensures
