use Rattle.rk_mem.proofs.Commits.{FollowOn}
use Rattle.rk_source_tests.proofs.memory.store.numbered.Given as goal

abbrev pub invariant-loop-op : goal.invariant-loop-op
invariant-loop-op l = FollowOn l.fn.first l.entries.items
