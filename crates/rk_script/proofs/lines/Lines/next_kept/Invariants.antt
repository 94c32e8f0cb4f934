use Rattle.std.proofs.Common.{◌≡◌, ◌≤◌, length}
use Rattle.rk_script.specs.Lines.{remaining}
use Rattle.rk_script.proofs.lines.Lines.next_kept.Given as goal

-- only skipped lines were passed
abbrev pub invariant-loop-self : goal.invariant-loop-self
invariant-loop-self l = record {
  same : remaining l.fn.self ≡ remaining l.self;
  shorter : length l.self.left ≤ length l.fn.self.left;
}

abbrev pub decreases-loop-self : goal.decreases-loop-self
decreases-loop-self l = length l.self.left
