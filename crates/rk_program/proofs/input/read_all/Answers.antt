use Rattle.std.proofs.Common.{◌∙◌, refl, arith}
use Rattle.std.proofs.lemmas.Result.{err_from_is_err_and}
use Rattle.rk_program.proofs.CauseLemmas.{IsNoFile-piece, took_more}
use Rattle.rk_program.proofs.input.read_all.Goals as goal

pub returns-in_err-read_piece-clause-cause : goal.returns-in_err-read_piece-clause-cause
returns-in_err-read_piece-clause-cause g c =
    let p = err_from_is_err_and c.from_residual.result c.from_residual.ensures.1 in
    rw (p.1, p.2) (IsNoFile-piece _ _ _ _ _ _ c.loop-file.invariant.no_fault c.in_err-read_piece.ensures.cause)

pub returns-then-len-before-clause-no_fault : goal.returns-then-len-before-clause-no_fault
returns-then-len-before-clause-no_fault g c = c.in_ok-read_piece.ensures.no_fault ∙ c.loop-file.invariant.no_fault

pub returns-clause-cause : goal.returns-clause-cause
returns-clause-cause g c = (
  refl,
  (c.loop-file.file.items, c.loop-file.invariant.given, omega (arith, c.loop-file.invariant.within, c.loop-file-test.false)),
  c.loop-file.invariant.no_fault,
)

pub returns-in_err-read_piece-clause-taken : goal.returns-in_err-read_piece-clause-taken
returns-in_err-read_piece-clause-taken g c =
    took_more _ _ _ c.loop-file.file.items _ _ (omega (arith, c.loop-file.invariant.within)) c.loop-file.invariant.given c.in_err-read_piece.ensures.taken
