use Rattle.std.proofs.Common.{refl, Some, ap, sym, ◌∙◌}
use Rattle.rk_model.specs.Named.{named}
use Rattle.rk_program.proofs.Accepted.{live_called}
use Rattle.rk_program.proofs.StoreLemmas.{snapshot_name, snapshot_number}
use Rattle.rk_program.proofs.Naming.{IsFirst-of, IsFirst-named}
use Rattle.rk_program.proofs.session.Session.time.Goals as goal

pub live_place-i-requires : goal.live_place-i-requires
live_place-i-requires g c = rw c.deref.ensures.value (live_called snapshot_name snapshot_number c.args.self.now.snapshots.items c.in_ok-snapshot.snapshot.now (rw (← c.in_ok-snapshot.ensures.value) at c.requires.live))

pub returns : goal.returns
returns g c =
    let name = c.in_ok-snapshot.snapshot.now in
    let first = IsFirst-of snapshot_name c.args.self.now.snapshots.items c.deref.result.now name name c.live_place-i.result
    c.deref.ensures.value refl c.live_place-i.ensures.within c.live_place-i.ensures.first c.live_place-i.ensures.here in
    λ s stands. rw (← c.in_ok-snapshot.ensures.value) (
      ap (named name) (sym stands.snapshots)
          ∙ (IsFirst-named snapshot_name snapshot_number c.args.self.now.snapshots.items name c.live_place-i.result c.index.result.now first
          ∙ ap (λ x. Some (snapshot_number x)) (sym c.index.ensures)),
      refl,
    )
