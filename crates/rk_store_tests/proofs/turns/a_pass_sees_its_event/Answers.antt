use Rattle.rk_store_tests.proofs.turns.a_pass_sees_its_event.Goals as goal

pub new-requires-after_bounds : goal.new-requires-after_bounds
new-requires-after_bounds g c _ = (5, c.starting_at.ensures)
