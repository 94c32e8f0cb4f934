use Rattle.std.proofs.Common.{rules}
use Rattle.std.proofs.lemmas.List.Sorted.{IsPartitionPoint-from_clause}
use Rattle.rk_model.specs.Cuts.{cut_copied}
use Rattle.rk_model.specs.Searches.{count_from_point}
use Rattle.rk_model.proofs.listed.count_before.Goals as goal

pub returns-clause-sorted : goal.returns-clause-sorted
returns-clause-sorted g c = λ sorted.
    let takes = g.T.Item.takes c.args.forward (cut_copied c.args.cut) in
    let parted = g.met.T.Item.first c.args.forward (cut_copied c.args.cut) c.args.items.now sorted in
    let point = IsPartitionPoint-from_clause takes _ _ c.partition_point.ensures.partitioned parted (λ a r q k. search rules) in
    count_from_point _ _ _ point c.partition_point.ensures.bound
