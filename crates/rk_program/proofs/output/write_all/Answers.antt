use Rattle.rk_program.proofs.OutputLemmas.{IsWritten-more, IsWritten-part, IsWritten-kept}
use Rattle.std.proofs.Common.{ap, ◌∙◌}
use Rattle.std.specs.Prelude.{Err}
use Rattle.rk_program.proofs.output.write_all.Goals as goal

pub loop-rest-preserved : goal.loop-rest-preserved
loop-rest-preserved g c = record {
  written = rw c.split_at.ensures.back (IsWritten-more _ _ _ _ _ _ c.loop-rest.invariant.written c.in-Ok.ensures.ok);
  no_fault = c.in-Ok.ensures.cause.kept (λ e. cc) ∙ c.loop-rest.invariant.no_fault;
}

pub returns-in-Err-Memory-clause-part : goal.returns-in-Err-Memory-clause-part
returns-in-Err-Memory-clause-part g c =
    IsWritten-kept _ _ _ _ _ c.loop-rest.invariant.written (c.in-Err-Memory.ensures.memory (ap Err c.in-Err-Memory.field-0-is))

pub returns-in-Err-Failed-clause-part : goal.returns-in-Err-Failed-clause-part
returns-in-Err-Failed-clause-part g c =
    IsWritten-part _ _ _ _ _ c.loop-rest.invariant.written (c.in-Err-Failed.ensures.failed (ap Err c.in-Err-Failed.field-0-is))
