use Rattle.std.proofs.Common.{◌≡◌, ◌+◌}
use Rattle.std.specs.Prelude.{is_some, true}
use Rattle.rk_model.specs.Cuts.{cut_copied, count_before}
use Rattle.rk_model.specs.Items.{point_takes}
use Rattle.rk_model.specs.Reads.{walk_at}
use Rattle.rk_model.specs.Standings.{walked}
use Rattle.rk_model.proofs.Paying.{Paid}
use Rattle.rk_model.proofs.Readings.{IsReading}
use Rattle.rk_model.proofs.both_ways.read_out.Given as goal

abbrev pub invariant-loop-entry : goal.invariant-loop-entry
invariant-loop-entry g l = record {
  same : g.S.Sorted.listing l.source ≡ g.S.Sorted.listing l.fn.source;
  known : is_some (g.S.Sorted.standing l.source).gap ≡ true;
  faces : (g.S.Sorted.standing l.source).forward ≡ l.forward;
  reading : IsReading l.forward (g.S.Sorted.listing l.fn.source).held (g.S.Sorted.standing l.source).gap (count_before (point_takes (cut_copied l.cut))) l.points.items;
  paid : Paid (g.S.Sorted.listing l.fn.source) (g.S.Sorted.standing l.fn.source).owed (g.S.Sorted.standing l.source).owed (g.R.Counting.counts l.fn.reader) (g.R.Counting.counts l.reader) (walk_at (g.S.Sorted.listing l.fn.source) l.forward (count_before (point_takes (cut_copied l.cut)))) ((g.S.Sorted.listing l.fn.source).seek_price l.forward (cut_copied l.cut) + walked (g.S.Sorted.listing l.fn.source) l.forward (g.S.Sorted.standing l.source).gap);
}

abbrev pub decreases-loop-entry : goal.decreases-loop-entry
decreases-loop-entry g l = (g.S.Sorted.standing l.source).left
