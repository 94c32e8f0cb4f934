use Rattle.std.proofs.Common.{subst}
use Rattle.rk_model.specs.Moves.{Next}
use Rattle.rk_iter.specs.Iterating.{Moves}
use Rattle.rk_iter.specs.Inside.{listed_points, listed_spans}
use Rattle.rk_iter.proofs.Moved.{over, holds_on, moves_on}
use Rattle.rk_iter.proofs.iter.Iter.next.Goals as goal

pub invariant_of-self : goal.invariant_of-self
invariant_of-self c = holds_on listed_points listed_spans c.self.inside.pins.chunks c.self.inside.pins.number c.self.inside.inside c.next.new.self Next c.self.invariant tt c.next.result c.next.ensures.moves

pub returns : goal.returns
returns c = record {
  moves =
      let made = c.next.ensures in
      subst (λ it. Moves it (over c.self.inside.pins.chunks c.self.inside.pins.number c.next.new.self) Next c.next.result) c.self.view_is
      (moves_on listed_points listed_spans c.self.inside.pins.chunks c.self.inside.pins.number c.self.inside.inside c.next.new.self Next c.self.invariant tt c.next.result made.moves made.reads.cause);
}
