use Rattle.std.proofs.Common.{◌≡◌, subst}
use Rattle.std.specs.Prelude.{Some}
use Rattle.rk_model.specs.Items.{keyed_points, sound}
use Rattle.rk_mem.specs.Chunks.{points_of}
use Rattle.rk_mem.proofs.Split.{sound_points}
use Rattle.rk_mem.proofs.points.ChunkPoints.new.Goals as goal

pub returns-clause-told : goal.returns-clause-told
returns-clause-told c =
    rw c.new.ensures
    (subst (λ es. sound keyed_points (points_of es) ≡ Some (points_of es)) c.deref.ensures (sound_points c.deref.result.now c.points-points.ensures.in_order c.points-points.ensures.keyed))
