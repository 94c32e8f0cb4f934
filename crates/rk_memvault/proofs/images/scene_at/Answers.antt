use Rattle.std.proofs.Common.{◌+◌, cond, sym, ap, subst, ◌∙◌, arith}
use Rattle.rk_outside.specs.Disks.{moment}
use Rattle.rk_memvault.specs.Images.{AreTracesOf, disk_upto}
use Rattle.rk_memvault.proofs.Scenes.{upto_more, moment_more}
use Rattle.rk_memvault.proofs.images.scene_at.Goals as goal
use Rattle.rk_memvault.proofs.images.scene_at.Goals.{then-branch, else-branch}

pub loop-noted-preserved : goal.loop-noted-preserved
loop-noted-preserved c =
    let i = c.loop-noted.noted-index in
    let n = c.noted-item.result in
    let d = disk_upto i c.args.origin.now c.args.entries.now in
    let next = upto_more c.args.origin.now c.args.entries.now i n c.loop-noted-test.true c.noted-item.is in
    let later = ap moment next ∙ moment_more n.call n.ok d in
    record {
      at = elim c.if-branch.branch [
        | then-branch w ↦ let one = later ∙ ap (λ b. moment d + cond b 1 0) (sym c.in_ok-step.ensures.changed ∙ w.if-branch.true) in omega (arith, one, w.left-is, c.loop-noted.invariant.at, c.if-left-eq0.false)
        | else-branch w ↦ let none = later ∙ ap (λ b. moment d + cond b 1 0) (sym c.in_ok-step.ensures.changed ∙ w.if-branch.false) in omega (arith, none, w.left-is, c.loop-noted.invariant.at)
      ];
      traces = subst (λ e. AreTracesOf c.args.fill e c.step.new.scene) (sym next) (c.in_ok-step.ensures.traces d c.loop-noted.invariant.traces);
    }
