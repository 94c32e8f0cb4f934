use Rattle.std.proofs.Common.{◌-◌, arith, get_or}
use Rattle.std.proofs.lemmas.List.{get_or_default}
use Rattle.rk_fragment.proofs.Ranks.{ranks_more}
use Rattle.rk_fragment.proofs.newest.ranks_of.Goals as goal

pub loop-i-preserved : goal.loop-i-preserved
loop-i-preserved c =
    let es = c.args.entries.now in
    let i = c.loop-i.i in
    let e = get_or es (i - 1) c.index-entries-i.result in
    rw (c.in_ok-insert_rank.ensures) (ranks_more es i e c.loop-i.ranks.keys (omega arith) (omega arith) (get_or_default es (i - 1) c.index-entries-i.result e (omega arith)) c.loop-i.invariant)
