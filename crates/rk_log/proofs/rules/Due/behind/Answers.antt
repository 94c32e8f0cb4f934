use Rattle.std.proofs.Common.{◌+◌, ap, sym, ◌∙◌, Bool, cond, take}
use Rattle.rk_log.specs.Groups.{group_end}
use Rattle.rk_log.specs.Logs.{due_behind, later}
use Rattle.rk_log.proofs.Passing.{later_due, later_there, later_not}
use Rattle.rk_log.proofs.rules.Due.behind.Goals as goal
use Rattle.rk_log.proofs.rules.Due.behind.Goals.{then-logged-flushed, else-logged-flushed}

pub loop-logged-preserved : goal.loop-logged-preserved
loop-logged-preserved c =
    let g = c.logged-item.result in
    let due = c.args.flushed + 1 in
    let e = later_due c.args.flushed due c.args.taken.now c.loop-logged.logged-index g c.loop-logged-test.true c.logged-item.is in
    let at = λ (b : Bool). cond b (group_end g.group) (due_behind due (later c.args.flushed (take c.loop-logged.logged-index c.args.taken.now))) in
    elim c.if-logged-flushed.branch [
      | then-logged-flushed w ↦ w.in_turn-is ∙ w.end-in_turn.ensures ∙ sym (e ∙ ap at (later_there c.args.flushed g _ c.logged.view_is w.if-logged-flushed.true))
      | else-logged-flushed w ↦ w.in_turn-is ∙ c.loop-logged.invariant ∙ sym (e ∙ ap at (later_not c.args.flushed g _ c.logged.view_is w.if-logged-flushed.false))
    ]
