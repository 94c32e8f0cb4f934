use Rattle.std.proofs.Common.{sym, arith}
use Rattle.rk_log.proofs.Batches.{batch_again, batch_refused}
use Rattle.rk_log.proofs.group.batch_of.Goals as goal

pub returns-in-Ok : goal.returns-in-Ok
returns-in-Ok c = sym (batch_again c.args.bytes.now c.in-Ok.batch c.in-Ok.ensures.ok)

pub returns-in_default : goal.returns-in_default
returns-in_default c = sym (batch_refused c.args.bytes.now c.in-Err.error (λ i. omega (arith, c.type_inv.bytes i)) c.in-Err.ensures.refusal c.in_default.not-Memory)
