use Rattle.std.proofs.Common.{sym}
use Rattle.rk_program.specs.Asked.{op_of}
use Rattle.rk_program.proofs.Answered.{OnOk-weaker}
use Rattle.rk_program.proofs.LineLemmas.{operation_did}
use Rattle.rk_program.proofs.session.Session.event.Goals as goal

pub returns-in-Some-clause-did : goal.returns-in-Some-clause-did
returns-in-Some-clause-did g c =
    λ s stands. OnOk-weaker c.give.result _ _
    (λ did. operation_did s c.args.event.now c.in-Some.writer.now (op_of c.in-Some.op) _ _ c.give.new.self (sym c.in-Some.ensures) did)
    (c.give.ensures.did s stands)
