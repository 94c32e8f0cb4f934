use Rattle.std.proofs.Common.{◌≡◌, take}
use Rattle.rk_key.specs.Keys.{decimal}
use Rattle.rk_key.specs.Refusals.{IsDecimal}
use Rattle.rk_key.proofs.form.bad_digit.Given as goal

abbrev pub invariant-loop-at : goal.invariant-loop-at
invariant-loop-at l = record {
  so_far : IsDecimal (take l.at l.bytes);
  value : l.number ≡ decimal (take l.at l.bytes);
}
