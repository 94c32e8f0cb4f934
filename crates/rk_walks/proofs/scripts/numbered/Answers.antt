use Rattle.std.proofs.Common.{◌≡◌, ◌+◌, length, arith}
use Rattle.std.proofs.lemmas.Grind.{common_steps}
use Rattle.rk_mem.proofs.Commits.{follow_on_more}
use Rattle.rk_walks.proofs.scripts.numbered.Goals as goal

pub loop-op-preserved : goal.loop-op-preserved
loop-op-preserved c =
    let is : c.in_ok-seq.seq ≡ c.args.first + length c.loop-op.entries.items = grind (arith, common_steps) in
    rw c.in_ok-push.ensures.items (follow_on_more c.args.first c.loop-op.entries.items (record { op = c.in-Some.op; seq = c.in_ok-seq.seq }) c.loop-op.invariant is)
