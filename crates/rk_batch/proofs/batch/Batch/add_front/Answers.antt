use Rattle.std.proofs.Common.{arith}
use Rattle.rk_batch.specs.Checks.{form, room}
use Rattle.rk_batch.specs.Reading.{op_of}
use Rattle.rk_batch.proofs.Operations.{fits_from_op, op_takes, no_op}
use Rattle.rk_batch.proofs.Refusing.{front_passes, refused_none}
use Rattle.rk_batch.proofs.batch.Batch.add_front.Goals as goal

pub returns-in_default-clause-none : goal.returns-in_default-clause-none
returns-in_default-clause-none c op rest passes e =
    no_op c.args.bytes.now c.in_default.ensures op rest (fits_from_op op (front_passes (form op) (room c.args.self.now op) passes)) e

pub returns-in-Ok-clause-added : goal.returns-in-Ok-clause-added
returns-in-Ok-clause-added c =
    let t = op_takes c.args.bytes.now (op_of c.in-Some.op) c.in-Some.rest.now (λ i. omega (arith, c.type_inv.bytes i)) c.in-Some.ensures in
    record { op = op_of c.in-Some.op; added = c.in-Ok.ensures.added; passes = c.in-Ok.ensures.passes; spelled = t.0 }

pub returns-in_default-error : goal.returns-in_default-error
returns-in_default-error c =
    let t = op_takes c.args.bytes.now (op_of c.in-Some.op) c.in-Some.rest.now (λ i. omega (arith, c.type_inv.bytes i)) c.in-Some.ensures in
    record {
      added = tt;
      none = refused_none c.args.self.now (op_of c.in-Some.op) c.in-Some.rest.now c.args.bytes.now c.in-Err.error c.in-Err.ensures.refusal c.in_default-error.not-Memory t.1 t.0;
      same = c.in-Err.ensures.same;
    }
