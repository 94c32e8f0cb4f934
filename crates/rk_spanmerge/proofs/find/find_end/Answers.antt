use Rattle.std.proofs.Common.{ap, sym, map, ◌∙◌, Some, None, subst}
use Rattle.std.specs.Option.{option_copied}
use Rattle.rk_spanmerge.proofs.Pools.{if_told}
use Rattle.rk_spanmerge.proofs.Found.{IsNear}
use Rattle.rk_spanmerge.proofs.find.find_end.Goals as goal

pub nearest_end-requires-clause-stands : goal.nearest_end-requires-clause-stands
nearest_end-requires-clause-stands g c = if_told _ (λ xs u. c.in_ok-seek_all.ensures.stands)

pub returns-in_ok-copy_key-in-Some-clause-ok : goal.returns-in_ok-copy_key-in-Some-clause-ok
returns-in_ok-copy_key-in-Some-clause-ok g c =
    let found = ap option_copied c.in-Some.is ∙ ap Some (sym c.in_ok-copy_key-in-Some.ensures.value) in
    subst (λ ls. IsNear ls c.args.forward c.args.key.now (Some c.in_ok-copy_key-in-Some.field-0)) c.seek_all.ensures.same (subst (IsNear (map g.S.Sorted.listing c.seek_all.new.sources) c.args.forward c.args.key.now) found c.nearest_end.ensures.nearest)

pub returns-in-None-clause-ok : goal.returns-in-None-clause-ok
returns-in-None-clause-ok g c =
    subst (λ ls. IsNear ls c.args.forward c.args.key.now None) c.seek_all.ensures.same (subst (IsNear (map g.S.Sorted.listing c.seek_all.new.sources) c.args.forward c.args.key.now) (ap option_copied c.in-None.is) c.nearest_end.ensures.nearest)
