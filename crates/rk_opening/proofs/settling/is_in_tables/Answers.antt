use Rattle.std.proofs.Common.{◌∙◌, rules, tests}
use Rattle.std.specs.Prelude.{nat_le}
use Rattle.std.proofs.lemmas.Iterator.{YieldsList-from_slice}
use Rattle.std.proofs.lemmas.Iterator.Search.{all_from_yields_List}
use Rattle.rk_opening.proofs.Alike.{all_in_tables}
use Rattle.rk_opening.proofs.settling.is_in_tables.Goals as goal

pub returns : goal.returns
returns c =
    let groups = c.args.groups.now in
    let flushed = c.args.flushed in
    all_from_yields_List (λ g. nat_le g.group.first flushed) _ _ c.all.result c.all.ensures.ran (YieldsList-from_slice groups cc) (λ y b q k. search (rules, tests))
    ∙ all_in_tables flushed groups
