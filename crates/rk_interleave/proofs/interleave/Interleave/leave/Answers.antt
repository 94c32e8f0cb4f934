use Rattle.std.proofs.Common.{◌≡◌, refl, false}
use Rattle.std.specs.Prelude.{is_some}
use Rattle.rk_model.specs.Moves.{key_at}
use Rattle.rk_interleave.proofs.Arriving.{leaves, kept_self, goes_of}
use Rattle.rk_interleave.proofs.interleave.Interleave.leave.Goals as goal

pub returns : goal.returns
returns g c =
    let went = leaves g.P.Sorted.listing g.P.Sorted.standing g.S.Sorted.listing g.S.Sorted.standing c.self.inside.points c.self.inside.spans c.self.inside.options c.self.inside.lent c.self.inside.facing c.args.cursor c.requires c.self.invariant in
    let off : false ≡ is_some (key_at c.args.cursor) = rw c.requires refl in
    rw (← c.self.view_is, c.leave.ensures) (record { goes = goes_of g.P.Sorted.listing g.P.Sorted.standing g.S.Sorted.listing g.S.Sorted.standing _ _ _ _ _ _ _ _ _ _ _ (kept_self g.P.Sorted.listing c.self.inside.points) refl off went })
