use Rattle.std.proofs.Common.{Option, IfSome, IfOk, ap, subst, sym}
use Rattle.rk_model.specs.Cuts.{count_before}
use Rattle.rk_model.specs.Items.{span_takes}
use Rattle.rk_model.specs.declared.span.Span.{Span}
use Rattle.std.specs.Option.{option_copied}
use Rattle.rk_defrag.specs.Moves.{Arrives, Found, inner_cut, leaving_cut, part, place}
use Rattle.rk_defrag.proofs.Leaving.{left_found, same_way}
use Rattle.rk_defrag.proofs.Seeks.{if_ok_map}
use Rattle.rk_defrag.proofs.find.next_run.Goals as goal

pub returns-in-Some-clause-found : goal.returns-in-Some-clause-found
returns-in-Some-clause-found g c =
    let listing = g.S.Sorted.listing in
    let standing = g.S.Sorted.standing in
    let b = c.args.source.now in
    let o = c.args.options.now in
    let forward = c.args.forward in
    let current = ap option_copied c.in-Some.is in
    let arrives = subst (λ (k : Option Span). IfSome k (Arrives listing standing c.args.n o b c.args.was)) current c.requires.arrives in
    let along = subst (λ k. Arrives listing standing c.args.n o b k c.in-Some.field-0.now) (same_way c.args.was forward c.if-was-forward.true) arrives in
    subst (λ (k : Option Span). IfOk c.gather.result (λ found. IfSome (part listing b).held (λ xs. IfSome (place listing standing c.gather.new.source).gap (λ at. Found forward c.args.n xs (count_before (span_takes forward (inner_cut o forward (leaving_cut forward k))) xs) at found)))) (sym current)
    (if_ok_map c.gather.result c.gather.ensures.found (λ found goes. left_found listing standing c.args.n o b c.requires.within (g.met.S.Source.ordered b.source) forward c.in-Some.field-0.now found (place listing standing c.gather.new.source).gap along goes))
