use Rattle.std.proofs.Common.{subst}
use Rattle.rk_model.specs.Moves.{Prev}
use Rattle.rk_iter.specs.Iterating.{Moves}
use Rattle.rk_iter.specs.Inside.{listed_points, listed_spans}
use Rattle.rk_iter.proofs.Moved.{over, holds_on, moves_on}
use Rattle.rk_iter.proofs.iter.Iter.prev.Goals as goal

pub invariant_of-self : goal.invariant_of-self
invariant_of-self c = holds_on listed_points listed_spans c.self.inside.pins.chunks c.self.inside.pins.number c.self.inside.inside c.prev.new.self Prev c.self.invariant tt c.prev.result c.prev.ensures.moves

pub returns : goal.returns
returns c = record {
  moves =
      let made = c.prev.ensures in
      subst (λ it. Moves it (over c.self.inside.pins.chunks c.self.inside.pins.number c.prev.new.self) Prev c.prev.result) c.self.view_is
      (moves_on listed_points listed_spans c.self.inside.pins.chunks c.self.inside.pins.number c.self.inside.inside c.prev.new.self Prev c.self.invariant tt c.prev.result made.moves made.reads.cause);
}
