use Rattle.std.proofs.Common.{◌∙◌, sym}
use Rattle.rk_model.specs.Cuts.{count_before, cut_copied}
use Rattle.rk_model.specs.Items.{span_takes}
use Rattle.rk_defrag.specs.Moves.{part, place}
use Rattle.rk_defrag.proofs.Seeks.{if_ok_map, part_ordered, completes_same, completes_wide}
use Rattle.rk_defrag.proofs.find.complete.Goals as goal

pub returns-then-begins_by-clause-completes : goal.returns-then-begins_by-clause-completes
returns-then-begins_by-clause-completes g c =
    let listing = g.S.Sorted.listing in
    let b = c.args.source.now in
    if_ok_map c.widen.result c.widen.ensures.widens (λ whole wide.
    completes_wide (part listing b).held c.args.forward c.args.n (λ xs. count_before (span_takes c.args.forward (cut_copied c.args.cut)) xs) c.args.run whole (place listing g.S.Sorted.standing b).gap (place listing g.S.Sorted.standing c.widen.new.source).gap wide)

pub returns-else-begins_by-clause-completes : goal.returns-else-begins_by-clause-completes
returns-else-begins_by-clause-completes g c =
    let listing = g.S.Sorted.listing in
    let b = c.args.source.now in
    completes_same (part listing b).held (part_ordered listing b (g.met.S.Source.ordered b.source)) c.args.forward c.args.n (cut_copied c.args.cut) c.args.run (place listing g.S.Sorted.standing b).gap (sym c.begins_by.ensures ∙ c.if-begins_by.false)
