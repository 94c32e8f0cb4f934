use Rattle.std.proofs.Common.{rules}
use Rattle.std.proofs.lemmas.List.Sorted.{answers_always}
use Rattle.rk_coalesce.proofs.Sorting.{less, less_order, sorted_is}
use Rattle.rk_coalesce.proofs.cover.sort.Goals as goal

pub returns : goal.returns
returns c =
    let compares = answers_always _ _ _ (λ f a r g h. search rules) in
    sorted_is c.args.pairs.now.items c.reverse.new.self.items c.sort_by.new.self.items c.reverse.ensures.items (c.in_ok-sort_by.ensures.sorted less less_order compares) (c.sort_by.ensures.stable less less_order compares)
