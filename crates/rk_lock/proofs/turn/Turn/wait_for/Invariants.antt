use Rattle.std.proofs.Common.{◌≡◌, []}
use Rattle.rk_lock.specs.Passes.{view}
use Rattle.rk_lock.proofs.turn.Turn.wait_for.Given as goal

abbrev pub invariant-loop : goal.invariant-loop
invariant-loop g l =
    (goal.iterator-loop g).can_next l.iterator' × (goal.iterator-loop g).is_finite l.iterator'
    × (l.pass.seat.table_id ≡ l.initial.pass.seat.table_id) × (view l.pass ≡ view l.initial.pass) × (l.pass.seat.me.1 ≡ [])
