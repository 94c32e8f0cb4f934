use Rattle.std.proofs.Common.{◌≡◌, true, false, Some, sym, ◌∙◌}
use Rattle.rk_sources.proofs.Bounding.{is_parted, here_is, seen_if}
use Rattle.rk_sources.proofs.bounded.BoundedSource.here.Goals as goal

pub returns-then-is_inside : goal.returns-then-is_inside
returns-then-is_inside g c =
    let b = c.self.inside in
    let takes = g.S.Item.Item.takes in
    let forward = c.in_ok-forward.forward in
    let rise = g.met.S.Item.Item.rise in
    let facing : b.facing ≡ Some forward = c.in_ok-forward.was in
    let parted = is_parted takes b.upper g.S.Item.Item.in_order (g.S.Sorted.listing b.source).held g.met.S.Item.Item.first g.met.S.Item.Item.part (g.met.S.Source.ordered b.source) in
    let here = here_is takes b.lower b.upper rise (g.S.Sorted.listing b.source) (g.S.Sorted.standing b.source) forward parted (g.met.S.Source.told b.source) (rw facing at c.self.invariant) in
    let is = seen_if takes b.lower b.upper rise forward (g.S.Sorted.standing b.source).here c.in_ok-item.item.now true c.in_ok-item.ensures c.if-is_inside.ensures in
    rw (← c.self.view_is, facing) (is ∙ sym here)

pub returns-else-is_inside : goal.returns-else-is_inside
returns-else-is_inside g c =
    let b = c.self.inside in
    let takes = g.S.Item.Item.takes in
    let forward = c.in_ok-forward.forward in
    let rise = g.met.S.Item.Item.rise in
    let facing : b.facing ≡ Some forward = c.in_ok-forward.was in
    let parted = is_parted takes b.upper g.S.Item.Item.in_order (g.S.Sorted.listing b.source).held g.met.S.Item.Item.first g.met.S.Item.Item.part (g.met.S.Source.ordered b.source) in
    let here = here_is takes b.lower b.upper rise (g.S.Sorted.listing b.source) (g.S.Sorted.standing b.source) forward parted (g.met.S.Source.told b.source) (rw facing at c.self.invariant) in
    let is = seen_if takes b.lower b.upper rise forward (g.S.Sorted.standing b.source).here c.in_ok-item.item.now false c.in_ok-item.ensures c.if-is_inside.ensures in
    rw (← c.self.view_is, facing) (is ∙ sym here)
