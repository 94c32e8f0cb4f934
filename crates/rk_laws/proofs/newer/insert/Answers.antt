use Rattle.std.proofs.Common.{◌≡◌, ◌∙◌, length, arith}
use Rattle.std.specs.List.{insert}
use Rattle.rk_model.proofs.Pairs.{insert_at_place}
use Rattle.rk_laws.proofs.newer.insert.Goals as goal

pub returns : goal.returns
returns c =
    let n : c.len.result ≡ length c.args.pairs.now.items = omega arith in
    let inserted : c.insert.new.self.items ≡ insert c.args.pairs.now.items c.unwrap_or-at.result c.args.pair = rw c.unwrap.ensures at c.insert.ensures.items in
    inserted ∙ insert_at_place c.args.pair _ c.first_greater.result c.len.result _ (rw c.deref.ensures.value at c.first_greater.ensures) n c.unwrap_or-at.ensures
