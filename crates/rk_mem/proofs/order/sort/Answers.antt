use Rattle.std.proofs.Common.{◌≡◌, rules}
use Rattle.std.specs.Ordering.{is_lt}
use Rattle.std.proofs.lemmas.Fn.{always_returns_same}
use Rattle.rk_mem.proofs.Sorting.{precedes, weak_order, in_order}
use Rattle.rk_mem.proofs.order.sort.Goals as goal

pub returns-clause-in_order : goal.returns-clause-in_order
returns-clause-in_order c =
    in_order c.args.points.now.items c.sort_by.new.self.items c.requires.differ c.requires.points c.sort_by.ensures.permutation
    (c.in_ok-sort_by.ensures.sorted precedes weak_order (always_returns_same _ (λ a r. is_lt r ≡ precedes a.0.now a.1.0.now) _ (λ a r f' k. search rules)))
