use Rattle.std.proofs.Common.{◌∙◌, sym, rules, tests}
use Rattle.std.proofs.lemmas.Iterator.{YieldsList-from_slice}
use Rattle.std.proofs.lemmas.Iterator.Search.{find_from_yields_List}
use Rattle.rk_model.proofs.Points.{is_newest_point, newest_point_is_found}
use Rattle.rk_model.proofs.plain.covers.newest_point.Goals as goal

pub returns : goal.returns
returns c =
    let es = c.args.entries.now in
    let x = c.args.x.now in
    find_from_yields_List (is_newest_point es x) _ _ c.find.result c.find.ensures.ran (YieldsList-from_slice es cc) (λ y b q k. search (rules, tests))
    ∙ sym (newest_point_is_found es x)
