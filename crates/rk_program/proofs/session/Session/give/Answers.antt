use Rattle.std.proofs.Common.{refl}
use Rattle.rk_program.proofs.Answered.{on_ok, OnOk-weaker}
use Rattle.rk_program.proofs.BatchLemmas.{added_does, refused_op_does}
use Rattle.rk_program.proofs.session.Session.give.Goals as goal

pub returns-in-Ok-clause-did : goal.returns-in-Ok-clause-did
returns-in-Ok-clause-did g c =
    λ s stands. added_does c.in-Ok.field-0 c.args.self.now _ c.args.writer.now _ c.place_of.new.writers.items c.in_ok-i.i
    c.index_mut.result.now (record { name = c.index_mut.result.now.name; batch = c.add_to.new.batch }) _ _ s stands
    c.in_ok-i.ensures c.index_mut.ensures.value refl c.in-Ok.ensures refl refl refl refl refl

pub returns-in-Err-clause-did : goal.returns-in-Err-clause-did
returns-in-Err-clause-did g c =
    λ s stands. OnOk-weaker c.refused.result _ _
    (λ told. refused_op_does (Unit {0}) c.args.self.now _ c.args.writer.now _ c.place_of.new.writers.items c.in_ok-i.i
    c.index_mut.result.now (record { name = c.index_mut.result.now.name; batch = c.add_to.new.batch }) c.in-Err.error _ _ s stands
    c.in_ok-i.ensures c.index_mut.ensures.value refl c.in-Err.ensures refl refl refl refl told.0 (rw c.bytes.ensures at told.1))
    c.refused.ensures
