use Rattle.std.proofs.Common.{subst}
use Rattle.rk_model.specs.Moves.{Last}
use Rattle.rk_iter.specs.Iterating.{Moves}
use Rattle.rk_iter.specs.Inside.{listed_points, listed_spans}
use Rattle.rk_iter.proofs.Moved.{over, holds_on, moves_on}
use Rattle.rk_iter.proofs.iter.Iter.last.Goals as goal

pub invariant_of-self : goal.invariant_of-self
invariant_of-self c = holds_on listed_points listed_spans c.self.inside.pins.chunks c.self.inside.pins.number c.self.inside.inside c.last.new.self Last c.self.invariant tt c.last.result c.last.ensures.moves

pub returns : goal.returns
returns c = record {
  moves =
      let made = c.last.ensures in
      subst (λ it. Moves it (over c.self.inside.pins.chunks c.self.inside.pins.number c.last.new.self) Last c.last.result) c.self.view_is
      (moves_on listed_points listed_spans c.self.inside.pins.chunks c.self.inside.pins.number c.self.inside.inside c.last.new.self Last c.self.invariant tt c.last.result made.moves made.reads.cause);
}
