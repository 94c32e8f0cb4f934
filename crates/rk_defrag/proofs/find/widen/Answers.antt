use Rattle.std.proofs.Common.{◌≡◌, ◌∙◌, Some, IfSome, not, subst}
use Rattle.rk_model.specs.Cuts.{count_before}
use Rattle.rk_model.specs.Items.{span_beside}
use Rattle.rk_defrag.specs.Moves.{ExtendsTo, Goes, far_end, part, place}
use Rattle.rk_defrag.proofs.Walks.{keeps_part}
use Rattle.rk_defrag.proofs.Seeks.{part_ordered, widens_if}
use Rattle.rk_defrag.proofs.find.widen.Goals as goal

pub returns-clause-widens : goal.returns-clause-widens
returns-clause-widens g c =
    let listing = g.S.Sorted.listing in
    let b = c.args.source.now in
    let one = keeps_part listing g.S.Sorted.standing b c.stand_behind.new.source c.stand_behind.ensures.kept in
    let two = keeps_part listing g.S.Sorted.standing c.stand_behind.new.source c.extend.new.source c.extend.ensures.kept ∙ one in
    widens_if (part listing b).held (part_ordered listing b (g.met.S.Source.ordered b.source)) c.args.forward c.args.n c.args.run c.in_ok-wide.wide _ _ _
    c.in_ok-stand_behind.ensures.stands
    (subst (λ l. Goes l.held (place listing g.S.Sorted.standing c.stand_behind.new.source).gap (place listing g.S.Sorted.standing c.extend.new.source).gap (λ xs at at'. ExtendsTo (not c.args.forward) c.args.n xs c.args.run c.in_ok-wide.wide at at')) one c.in_ok-wide.ensures.extends)
    c.in_ok-wide.ensures.faces.known
    (subst (λ l. IfSome l.held (λ xs. (place listing g.S.Sorted.standing c.stand_behind-2.new.source).gap ≡ Some (count_before (span_beside c.args.forward (far_end c.args.forward c.in_ok-wide.wide)) xs))) two c.in_ok-stand_behind-2.ensures.stands)
