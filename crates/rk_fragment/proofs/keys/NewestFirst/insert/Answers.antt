use Rattle.std.proofs.Common.{◌∙◌, ap}
use Rattle.rk_fragment.specs.Fragments.{insert_newest}
use Rattle.rk_fragment.proofs.Falling.{inserted, insert_keeps_falling}
use Rattle.rk_fragment.proofs.keys.NewestFirst.insert.Goals as goal

pub invariant_of-self-2 : goal.invariant_of-self-2
invariant_of-self-2 c =
    let old = c.self.inside.keys.items in
    let at = c.count_newer-at.result in
    let put = c.in_ok-insert.ensures.items ∙ inserted c.args.key old at (rw c.deref.ensures.value at c.count_newer-at.ensures.within) (rw c.deref.ensures.value at c.count_newer-at.ensures.newer) in
    rw put (insert_keeps_falling c.args.key old c.self.invariant)

pub returns-clause-ok : goal.returns-clause-ok
returns-clause-ok c =
    let old = c.self.inside.keys.items in
    let at = c.count_newer-at.result in
    c.in_ok-insert.ensures.items
    ∙ inserted c.args.key old at (rw c.deref.ensures.value at c.count_newer-at.ensures.within) (rw c.deref.ensures.value at c.count_newer-at.ensures.newer)
    ∙ ap (insert_newest c.args.key) c.self.view_is
