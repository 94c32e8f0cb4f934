use Rattle.rk_store_tests.proofs.turns.a_lock_that_nobody_enters_gives_its_value_back.Goals as goal

pub new-requires-after_bounds : goal.new-requires-after_bounds
new-requires-after_bounds g c _ = (7, c.starting_at.ensures)
