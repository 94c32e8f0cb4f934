use Rattle.rk_mem.proofs.Commits.{FollowOn}
use Rattle.rk_walks.proofs.scripts.numbered.Given as goal

abbrev pub invariant-loop-op : goal.invariant-loop-op
invariant-loop-op l = FollowOn l.fn.first l.entries.items
