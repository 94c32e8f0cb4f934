use Rattle.std.proofs.Common.{◌≡◌, Some, true, false, arith}
use Rattle.rk_pointmerge.specs.Merges.{beats, shown}
use Rattle.rk_pointmerge.proofs.Bests.{beats_itself, beats_third, best_on}
use Rattle.rk_pointmerge.proofs.nearest.nearest.Goals as goal
use Rattle.rk_pointmerge.proofs.nearest.nearest.Goals.{then-beats, else-beats}

pub loop-i-preserved : goal.loop-i-preserved
loop-i-preserved g c =
    let standing = g.S.Sorted.standing in
    let ss = c.args.sources.now in
    let was = c.loop-i.invariant.1 in
    elim c.if-beats.branch [
      | then-beats w ↦
          let t = w.if-beats.true in
          let won : beats c.args.forward (shown standing ss (Some c.loop-i.i)) (shown standing ss c.loop-i.best) ≡ true = cc in
          (rw w.best-is (best_on standing ss c.args.forward c.loop-i.i c.loop-i.best (Some c.loop-i.i) (omega arith) c.loop-i.invariant.0 (λ p lost. beats_third c.args.forward p _ _ lost won) (beats_itself c.args.forward _)), cc)
      | else-beats w ↦
          let f = w.if-beats.false in
          let lost : beats c.args.forward (shown standing ss (Some c.loop-i.i)) (shown standing ss c.loop-i.best) ≡ false = cc in
          (rw w.best-is (best_on standing ss c.args.forward c.loop-i.i c.loop-i.best c.loop-i.best (omega arith) c.loop-i.invariant.0 (λ p was. was) lost), cc)
    ]
