use Rattle.std.proofs.Common.{◌≡◌, ◌∙◌, sym, ap}
use Rattle.rk_model.specs.Items.{are_keyed}
use Rattle.rk_mem.specs.Chunks.{points_of}
use Rattle.rk_mem.proofs.Split.{points_are}
use Rattle.rk_mem.proofs.chunk.Chunk.points.Goals as goal

pub returns-clause-value : goal.returns-clause-value
returns-clause-value c =
    let chunk = c.self.inside in
    c.deref.ensures.value ∙ sym (points_are chunk.points.items chunk.ranges c.self.invariant.in_order c.self.invariant.no_points) ∙ ap points_of c.self.view_is

pub returns-clause-in_order : goal.returns-clause-in_order
returns-clause-in_order c =
    let chunk = c.self.inside in
    let are : points_of c.args.self.now ≡ chunk.points.items = ap points_of (sym c.self.view_is) ∙ points_are chunk.points.items chunk.ranges c.self.invariant.in_order c.self.invariant.no_points in
    rw are c.self.invariant.in_order

pub returns-clause-keyed : goal.returns-clause-keyed
returns-clause-keyed c = ap are_keyed (sym c.self.view_is) ∙ c.self.invariant.keyed
