use Rattle.std.proofs.Common.{[], ◌∷◌, length, ap, arith, length-append}
use Rattle.rk_program.proofs.BatchLemmas.{writer_name, IsPlaceOf-found, IsPlaceOf-new}
use Rattle.rk_program.proofs.Naming.{IsFirst-of, absent_in}
use Rattle.rk_program.specs.declared.session.Writer.{Writer}
use Rattle.rk_program.proofs.batches.place_of.Goals as goal

pub returns-in-Some : goal.returns-in-Some
returns-in-Some c =
    IsPlaceOf-found c.args.writers.now.items c.args.name.now c.in-Some.i
    (IsFirst-of writer_name c.args.writers.now.items c.deref.result.now c.args.name.now c.bytes.result.now c.in-Some.i
    c.deref.ensures.value c.bytes.ensures c.in-Some.ensures.within c.in-Some.ensures.first c.in-Some.ensures.here)

pub returns-in_ok-push-in-None : goal.returns-in_ok-push-in-None
returns-in_ok-push-in-None c =
    let w : Writer = record { name = c.in_ok-name-in-None.name; batch = c.in_ok-batch-in-None.batch } in
    let absent = absent_in writer_name c.args.writers.now.items c.deref.result.now c.args.name.now c.bytes.result.now
    c.deref.ensures.value c.bytes.ensures c.in-None.ensures.absent in
    IsPlaceOf-new c.args.writers.now.items c.push.new.self.items c.args.name.now w _ absent
    c.in_ok-name-in-None.ensures c.in_ok-batch-in-None.ensures c.in_ok-push-in-None.ensures.items
    (omega (arith, c.len.ensures, ap length c.in_ok-push-in-None.ensures.items, length-append c.args.writers.now.items (w ∷ [])))
