use Rattle.std.proofs.Common.{◌≡◌}
use Rattle.std.specs.Prelude.{IsTrue}
use Rattle.rk_model.specs.Items.{are_keyed}
use Rattle.rk_mem.specs.Chunks.{points_of, ranges_of}
use Rattle.rk_mem.proofs.order.split.Given as goal

abbrev pub invariant-loop-entry : goal.invariant-loop-entry
invariant-loop-entry l = record {
  points : l.points.items ≡ points_of l.yielded;
  ranges : l.ranges.items ≡ ranges_of l.yielded;
  keyed : IsTrue (are_keyed l.yielded);
}
