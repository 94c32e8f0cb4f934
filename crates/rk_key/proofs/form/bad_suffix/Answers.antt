use Rattle.std.proofs.Common.{arith}
use Rattle.std.proofs.lemmas.List.{take_rest}
use Rattle.rk_key.proofs.Places.{bad_first_digit, bad_later_digit, suffix_from_decimal}
use Rattle.rk_key.proofs.form.bad_suffix.Goals as goal

pub returns-in_err-at-in-64-clause-suffix : goal.returns-in_err-at-in-64-clause-suffix
returns-in_err-at-in-64-clause-suffix c =
    let bytes = c.args.bytes.now in
    let decimal = rw (take_rest bytes 1) at c.in_err-at-in-64.ensures.decimal in
    rw c.from_residual.ensures
    (suffix_from_decimal bytes (omega arith) (omega arith) (omega arith) (omega arith) decimal)

pub returns-in_ok-at-in-64-clause-bad : goal.returns-in_ok-at-in-64-clause-bad
returns-in_ok-at-in-64-clause-bad c =
    let bytes = c.args.bytes.now in
    let bad = rw (take_rest bytes 1) at c.in_ok-at-in-64.ensures.bad in
    bad_later_digit bytes c.in_ok-at-in-64.at (omega arith) (omega arith) (omega arith) (omega arith) bad

pub returns-in-64-2-clause-bad : goal.returns-in-64-2-clause-bad
returns-in-64-2-clause-bad c =
    bad_first_digit c.args.bytes.now (omega arith) (omega arith) (λ two low high. omega arith)

pub returns-in-64-2-2-clause-bad : goal.returns-in-64-2-2-clause-bad
returns-in-64-2-2-clause-bad c =
    bad_first_digit c.args.bytes.now (omega arith) (omega arith) (λ two low high. omega arith)

pub returns-in-64-2-3-clause-bad : goal.returns-in-64-2-3-clause-bad
returns-in-64-2-3-clause-bad c =
    bad_first_digit c.args.bytes.now (omega arith) (omega arith) (λ two low high. omega arith)
