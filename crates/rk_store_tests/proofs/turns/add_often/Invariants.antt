use Rattle.rk_lock.specs.Passes.{ComesBack}
use Rattle.rk_store_tests.proofs.turns.add_often.Given as goal

abbrev pub invariant-loop : goal.invariant-loop
invariant-loop g l = ComesBack l.fn.turn l.initial.pass l.pass
