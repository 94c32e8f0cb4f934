use Rattle.std.proofs.Common.{◌∙◌, sym, rules, tests}
use Rattle.std.specs.Prelude.{◌&&◌, nat_lt}
use Rattle.std.proofs.lemmas.Iterator.{YieldsList-from_slice}
use Rattle.std.proofs.lemmas.Iterator.Search.{any_from_yields_List}
use Rattle.rk_model.specs.Operations.{is_over}
use Rattle.rk_model.specs.Covers.{ends_set}
use Rattle.rk_model.proofs.Filters.{list_any-filter_last}
use Rattle.rk_model.proofs.plain.covers.is_ended.Goals as goal

pub returns : goal.returns
returns c =
    let es = c.args.entries.now in
    let x = c.args.x.now in
    let s = c.args.suffix.now in
    let n = c.args.n in
    any_from_yields_List (λ f. nat_lt n f.seq && ends_set s f.op && is_over x f.op) _ _ c.any.result c.any.ensures.ran (YieldsList-from_slice es cc) (λ y b q k. search (rules, tests))
    ∙ sym (list_any-filter_last (λ f. nat_lt n f.seq && ends_set s f.op) (λ f. is_over x f.op) es)
