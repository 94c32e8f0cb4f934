use Rattle.std.proofs.Common.{◌≡◌, ◌∙◌, ℕ, List, Some, IfSome, ap, subst}
use Rattle.rk_model.specs.declared.cut.Cut.{Cut}
use Rattle.std.specs.Option.{option_copied}
use Rattle.rk_model.specs.Cuts.{count_before}
use Rattle.rk_model.specs.Items.{span_takes}
use Rattle.rk_defrag.specs.Moves.{Gathered, Goes, inner_cut, leaving_cut, part, place}
use Rattle.rk_defrag.proofs.Leaving.{turned_alone}
use Rattle.rk_defrag.proofs.Walks.{keeps_part}
use Rattle.rk_defrag.proofs.Seeks.{found_alone, if_ok_map}
use Rattle.rk_defrag.proofs.find.turn.Goals as goal

pub returns-clause-found : goal.returns-clause-found
returns-clause-found g c =
    let listing = g.S.Sorted.listing in
    let standing = g.S.Sorted.standing in
    let b = c.args.source.now in
    let o = c.args.options.now in
    let forward = c.args.forward in
    let cut = inner_cut o forward (leaving_cut forward (option_copied c.args.current)) in
    let same = keeps_part listing standing b c.seek.new.self c.in_ok-seek.ensures.kept in
    let is = c.inner_cut-cut.ensures ∙ ap (inner_cut o forward) c.leaving_cut.ensures in
    if_ok_map c.gather.result c.gather.ensures.found (λ found goes.
    found_alone (part listing b).held forward c.args.n (λ xs. count_before (span_takes forward cut) xs) found (place listing standing c.seek.new.self).gap (place listing standing c.gather.new.source).gap
    (subst (λ (k : Cut (List ℕ)). IfSome (part listing b).held (λ xs. (place listing standing c.seek.new.self).gap ≡ Some (count_before (span_takes forward k) xs))) is c.in_ok-seek.ensures.leads.there)
    (turned_alone listing standing c.args.n o b c.requires.within (g.met.S.Source.ordered b.source) forward (option_copied c.args.current) c.requires.arrives)
    (subst (λ l. Goes l.held (place listing standing c.seek.new.self).gap (place listing standing c.gather.new.source).gap (λ xs from at. Gathered forward c.args.n xs from at found)) same goes))
