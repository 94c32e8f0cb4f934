use Rattle.std.proofs.Common.{◌≡◌}
use Rattle.rk_model.specs.Cuts.{cut_copied}
use Rattle.rk_model.specs.Standings.{walked}
use Rattle.rk_model.proofs.Paying.{Paid}
use Rattle.rk_model.proofs.Passing.{IsPassing}
use Rattle.rk_model.proofs.sorted.Source.pass.Given as goal

abbrev pub invariant-loop-item : goal.invariant-loop-item
invariant-loop-item g l = record {
  same : g.Self.Sorted.listing l.self ≡ g.Self.Sorted.listing l.fn.self;
  passing : IsPassing (g.Self.Sorted.listing l.fn.self) (g.Self.Sorted.standing l.fn.self) (g.Self.Sorted.standing l.self) l.forward (g.Self.Item.Item.takes l.forward (cut_copied l.cut));
  paid : Paid (g.Self.Sorted.listing l.fn.self) (g.Self.Sorted.standing l.fn.self).owed (g.Self.Sorted.standing l.self).owed (g.R.Counting.counts l.fn.reader) (g.R.Counting.counts l.reader) (walked (g.Self.Sorted.listing l.fn.self) l.forward (g.Self.Sorted.standing l.fn.self).gap) (walked (g.Self.Sorted.listing l.fn.self) l.forward (g.Self.Sorted.standing l.self).gap);
}

abbrev pub decreases-loop-item : goal.decreases-loop-item
decreases-loop-item g l = (g.Self.Sorted.standing l.self).left
