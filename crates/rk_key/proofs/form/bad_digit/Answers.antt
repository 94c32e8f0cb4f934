use Rattle.std.proofs.Common.{arith}
use Rattle.rk_key.proofs.Decimals.{decimal_more}
use Rattle.rk_key.proofs.Places.{decimal_longer, decimal_stops}
use Rattle.rk_key.proofs.form.bad_digit.Goals as goal

pub returns-in-None-clause-bad : goal.returns-in-None-clause-bad
returns-in-None-clause-bad c =
    let so_far = c.loop-at.invariant in
    decimal_stops c.args.bytes.now c.loop-at.at (omega arith) so_far.so_far
    (λ both. c.in-None.ensures (both.0, omega (arith, both.1, so_far.value)))

pub loop-at-preserved : goal.loop-at-preserved
loop-at-preserved c =
    let so_far = c.loop-at.invariant in
    let digit = c.in-Some.ensures in
    record {
      so_far = decimal_longer c.args.bytes.now c.loop-at.at (omega arith) so_far.so_far digit.0.0 (omega (arith, digit.0.1, so_far.value));
      value = omega (arith, decimal_more c.args.bytes.now c.loop-at.at (omega arith), digit.1, so_far.value);
    }
