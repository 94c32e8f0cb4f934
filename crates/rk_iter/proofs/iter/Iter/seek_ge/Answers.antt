use Rattle.std.proofs.Common.{subst}
use Rattle.rk_model.specs.Moves.{SeekGe}
use Rattle.rk_iter.specs.Iterating.{Moves}
use Rattle.rk_iter.specs.Inside.{listed_points, listed_spans}
use Rattle.rk_iter.proofs.Moved.{over, holds_on, moves_on}
use Rattle.rk_iter.proofs.iter.Iter.seek_ge.Goals as goal

pub invariant_of-self : goal.invariant_of-self
invariant_of-self c = holds_on listed_points listed_spans c.self.inside.pins.chunks c.self.inside.pins.number c.self.inside.inside c.seek_ge.new.self (SeekGe c.args.key.now) c.self.invariant c.bytes-bytes.ensures.is_key c.seek_ge.result c.seek_ge.ensures.moves

pub returns : goal.returns
returns c = record {
  moves =
      let made = c.seek_ge.ensures in
      subst (λ it. Moves it (over c.self.inside.pins.chunks c.self.inside.pins.number c.seek_ge.new.self) (SeekGe c.args.key.now) c.seek_ge.result) c.self.view_is
      (moves_on listed_points listed_spans c.self.inside.pins.chunks c.self.inside.pins.number c.self.inside.inside c.seek_ge.new.self (SeekGe c.args.key.now) c.self.invariant c.bytes-bytes.ensures.is_key c.seek_ge.result made.moves made.reads.cause);
  keyed = c.bytes-bytes.ensures.is_key;
}
