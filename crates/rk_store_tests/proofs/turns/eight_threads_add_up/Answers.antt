use Rattle.rk_store_tests.proofs.turns.eight_threads_add_up.Goals as goal

pub new-requires-after_bounds : goal.new-requires-after_bounds
new-requires-after_bounds g c _ = (0, c.starting_at.ensures)
