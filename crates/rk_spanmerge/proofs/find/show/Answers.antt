use Rattle.std.proofs.Common.{ap, sym, map, ◌∙◌, subst, inl}
use Rattle.std.proofs.lemmas.Option.{IfSome_then}
use Rattle.std.specs.Option.{option_copied}
use Rattle.rk_spanmerge.specs.Merges.{united}
use Rattle.rk_spanmerge.proofs.Found.{IsNear, shows_bare, shows_span}
use Rattle.rk_spanmerge.proofs.find.show.Goals as goal

pub returns-in_default-clause-ok : goal.returns-in_default-clause-ok
returns-in_default-clause-ok g c =
    let ls = map g.S.Sorted.listing c.args.sources.now in
    IfSome_then (united ls) (subst (IsNear ls c.args.forward c.args.key.now) (ap option_copied c.in_default.is) c.nearest_end.ensures.nearest) (λ xs n. inl n)

pub returns-then-has_none-clause-ok : goal.returns-then-has_none-clause-ok
returns-then-has_none-clause-ok g c =
    shows_bare g.S.Sorted.listing g.S.Sorted.standing g.met.S.Source.ordered g.met.S.Source.told c.args.sources.now c.args.forward c.args.key.now c.in-Some.end.now (option_copied c.nearest_end.result) c.in_ok-keys.keys (ap option_copied c.in-Some.is) c.requires.faces c.requires.stands c.nearest_end.ensures.nearest c.in_ok-keys.ensures (sym c.has_none.ensures ∙ c.if-has_none.true)

pub returns-clause-ok : goal.returns-clause-ok
returns-clause-ok g c =
    shows_span g.S.Sorted.listing g.S.Sorted.standing g.met.S.Source.ordered g.met.S.Source.told c.args.sources.now c.args.forward c.args.key.now c.in-Some.end.now (option_copied c.nearest_end.result) c.in_ok-keys.keys (ap option_copied c.in-Some.is) c.requires.faces c.requires.stands c.nearest_end.ensures.nearest c.in_ok-keys.ensures
    c.in_ok-span_between.field-0 (sym c.has_none.ensures ∙ c.if-has_none.false) c.in_ok-span_between.ensures
