use Rattle.std.proofs.Common.{arith, not}
use Rattle.std.specs.Option.{option_copied}
use Rattle.rk_spanmerge.specs.Merges.{left_end}
use Rattle.rk_spanmerge.specs.Moves.{counts_any, outside}
use Rattle.rk_spanmerge.proofs.Found.{found_start, found_more, found_all, outer_looks}
use Rattle.rk_spanmerge.proofs.find.outermost.Goals as goal

pub loop-i-init : goal.loop-i-init
loop-i-init g c = found_start g.S.Sorted.listing c.args.sources.now c.args.forward counts_any

pub loop-i-preserved : goal.loop-i-preserved
loop-i-preserved g c =
    let forward = c.args.forward in
    found_more g.S.Sorted.listing c.args.sources.now forward counts_any g.S.Sorted.standing g.met.S.Source.ordered g.met.S.Source.told (outside forward) (left_end (not forward)) (outer_looks forward) c.loop-i.i c.index-sources-i.result _ _ (omega arith) c.index-sources-i.is c.outer_shown-found.ensures
    c.requires.faces c.requires.stands c.loop-i.invariant

pub returns : goal.returns
returns g c = found_all g.S.Sorted.listing c.args.sources.now c.args.forward counts_any c.loop-i.i (option_copied c.loop-i.found) (omega arith) c.loop-i.invariant
