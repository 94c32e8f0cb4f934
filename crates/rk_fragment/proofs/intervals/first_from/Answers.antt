use Rattle.std.proofs.Common.{rules}
use Rattle.std.proofs.lemmas.List.Sorted.{IsPartitionPoint-from_clause}
use Rattle.rk_fragment.proofs.Order.{lt}
use Rattle.rk_fragment.proofs.Parts.{partitioned}
use Rattle.rk_fragment.proofs.intervals.first_from.Goals as goal

pub returns-clause-point : goal.returns-clause-point
returns-clause-point c =
    IsPartitionPoint-from_clause (λ i. lt i.start c.args.key.now) c.args.intervals.now c.partition_point.result c.partition_point.ensures.partitioned
    (partitioned c.args.key.now c.args.intervals.now c.requires) (λ a r f' k. search rules)
