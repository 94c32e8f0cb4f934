use Rattle.std.proofs.Common.{◌∙◌, sym, rules, tests}
use Rattle.std.proofs.lemmas.Iterator.{YieldsList-from_slice}
use Rattle.std.proofs.lemmas.Iterator.Search.{find_from_yields_List}
use Rattle.rk_model.proofs.Orders.{is_ge_is}
use Rattle.rk_model.proofs.Spans.{is_end, end_is_found}
use Rattle.rk_model.proofs.plain.spans.span_end.Goals as goal

pub returns : goal.returns
returns c =
    let es = c.args.ends.now in
    let x = c.args.x.now in
    let pairs = c.args.pairs.now in
    let o = c.args.options.now in
    find_from_yields_List (is_end o x pairs) _ _ c.find.result c.find.ensures.ran (YieldsList-from_slice es cc) (λ y b q k. search (rules, tests, is_ge_is))
    ∙ sym (end_is_found o es x pairs)
