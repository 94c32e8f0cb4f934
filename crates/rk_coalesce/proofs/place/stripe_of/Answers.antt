use Rattle.std.proofs.Common.{◌∙◌, sym, rules, tests}
use Rattle.std.specs.Prelude.{nat_le}
use Rattle.std.proofs.lemmas.Iterator.{YieldsList-from_slice}
use Rattle.std.proofs.lemmas.Iterator.Search.{find_from_yields_List}
use Rattle.rk_model.proofs.Filters.{first_of-filter}
use Rattle.rk_coalesce.proofs.place.stripe_of.Goals as goal

pub returns : goal.returns
returns c =
    let found = find_from_yields_List (λ s. nat_le c.args.number s) _ _ c.find.result c.find.ensures.ran (YieldsList-from_slice c.args.stripes.now cc) (λ y b q k. search (rules, tests)) in
    c.copied.ensures ∙ found ∙ sym (first_of-filter (λ s. nat_le c.args.number s) c.args.stripes.now)
