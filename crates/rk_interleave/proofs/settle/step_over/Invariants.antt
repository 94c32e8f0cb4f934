use Rattle.std.specs.Option.{option_copied}
use Rattle.rk_model.specs.Cuts.{cut_copied}
use Rattle.rk_sources.specs.Bounds.{Keeps}
use Rattle.rk_interleave.specs.Settling.{inner_listing, inner_standing, is_stepped_over}
use Rattle.rk_interleave.proofs.Stepping.{Way, HasRead}
use Rattle.rk_interleave.proofs.settle.step_over.Given as goal

abbrev pub invariant-loop-entry : goal.invariant-loop-entry
invariant-loop-entry g l = record {
  kept : Keeps g.P.Sorted.listing l.fn.points l.points;
  way : Way l.forward (is_stepped_over l.forward (cut_copied l.cut) l.options (option_copied l.span)) (inner_listing g.P.Sorted.listing l.fn.points) (inner_standing g.P.Sorted.listing g.P.Sorted.standing l.fn.points) (inner_standing g.P.Sorted.listing g.P.Sorted.standing l.points);
  read : HasRead (g.R.Counting.counts l.fn.reader) (g.R.Counting.counts l.reader);
}

abbrev pub decreases-loop-entry : goal.decreases-loop-entry
decreases-loop-entry g l = (inner_standing g.P.Sorted.listing g.P.Sorted.standing l.points).left
