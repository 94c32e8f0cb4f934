use Rattle.std.proofs.Common.{arith}
use Rattle.std.specs.Option.{option_copied}
use Rattle.rk_spanmerge.specs.Moves.{is_past, takes, end_seen}
use Rattle.rk_spanmerge.proofs.Found.{found_start, found_more, found_all, nearest_looks, seen_more}
use Rattle.rk_spanmerge.proofs.find.nearest_end.Goals as goal

pub loop-i-init : goal.loop-i-init
loop-i-init g c = record { nearest = found_start g.S.Sorted.listing c.args.sources.now c.args.forward (is_past c.args.forward c.args.key.now); seen = tt }

pub loop-i-preserved : goal.loop-i-preserved
loop-i-preserved g c =
    let ss = c.args.sources.now in
    let forward = c.args.forward in
    let x = c.args.key.now in
    record {
      nearest = found_more g.S.Sorted.listing ss forward (is_past forward x) g.S.Sorted.standing g.met.S.Source.ordered g.met.S.Source.told (takes forward x) (end_seen forward x) (nearest_looks forward x) c.loop-i.i c.index-sources-i.result _ _ (omega arith) c.index-sources-i.is c.nearer_shown-found.ensures c.requires.faces c.requires.stands c.loop-i.invariant.nearest;
      seen = seen_more g.S.Sorted.standing ss forward x c.loop-i.i c.index-sources-i.result _ _ (omega arith) c.index-sources-i.is c.nearer_shown-found.ensures c.loop-i.invariant.seen;
    }

pub returns-clause-nearest : goal.returns-clause-nearest
returns-clause-nearest g c = found_all g.S.Sorted.listing c.args.sources.now c.args.forward (is_past c.args.forward c.args.key.now) c.loop-i.i (option_copied c.loop-i.found) (omega arith) c.loop-i.invariant.nearest
