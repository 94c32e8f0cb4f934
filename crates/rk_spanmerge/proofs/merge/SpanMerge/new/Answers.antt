use Rattle.rk_spanmerge.proofs.Pools.{if_told}
use Rattle.rk_spanmerge.proofs.merge.SpanMerge.new.Goals as goal

pub invariant_of-result : goal.invariant_of-result
invariant_of-result g c = record { among = if_told _ (λ xs u. tt); known = tt; arrives = tt }
