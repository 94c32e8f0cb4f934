use Rattle.std.proofs.Common.{refl, arith}
use Rattle.std.proofs.lemmas.List.{take_rest}
use Rattle.rk_key.proofs.Places.{bad_empty, bad_long, bad_after_prefix}
use Rattle.rk_key.proofs.form.bad_key.Goals as goal

pub returns-then-prefix_len-eq0-clause-bad : goal.returns-then-prefix_len-eq0-clause-bad
returns-then-prefix_len-eq0-clause-bad c = bad_empty c.args.bytes.now (omega arith)

pub returns-then-prefix_len-gt-MAX_PREFIX-clause-bad :
    goal.returns-then-prefix_len-gt-MAX_PREFIX-clause-bad
returns-then-prefix_len-gt-MAX_PREFIX-clause-bad c = bad_long c.args.bytes.now 200 refl (omega arith)

pub returns-clause-bad : goal.returns-clause-bad
returns-clause-bad c =
    let bytes = c.args.bytes.now in
    let split = c.split-prefix_len.ensures in
    let bad = rw (take_rest bytes c.split-prefix_len.result, split.after) at c.in_ok-at.ensures.bad in
    rw split.place (bad_after_prefix bytes c.in_ok-at.at (omega arith) (omega arith) bad)
