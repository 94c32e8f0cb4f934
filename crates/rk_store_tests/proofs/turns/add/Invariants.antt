use Rattle.rk_lock.specs.Views.{ticket_of}
use Rattle.rk_lock.specs.Passes.{view}
use Rattle.rk_store_tests.proofs.turns.add.Given as goal

abbrev pub ghost-leave : goal.ghost-leave
ghost-leave g a = record { ticket = ticket_of (view a.pass.now).stage; amount = a.value.last }
