use Rattle.std.proofs.Common.{◌≡◌, ◌++◌}
use Rattle.rk_memstore.proofs.store.MemStore.chunks.Given as goal

abbrev pub invariant-loop-chunk : goal.invariant-loop-chunk
invariant-loop-chunk l = l.chunks.items ≡ l.initial.chunks.items ++ l.yielded
