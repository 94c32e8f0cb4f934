use Rattle.std.proofs.Common.{sym, subst, arith}
use Rattle.rk_outside.specs.Vaults.{AreNumbers}
use Rattle.rk_opening.proofs.Numbers.{least_found, none_found}
use Rattle.rk_opening.proofs.tables.least_table.Goals as goal

pub returns-then-number-ge-FIRST_TABLE-clause-least : goal.returns-then-number-ge-FIRST_TABLE-clause-least
returns-then-number-ge-FIRST_TABLE-clause-least g c = λ tells.
    let files = (g.V.Vault.disk c.args.vault.now).files in
    least_found files c.deref-number-items.result.now c.loop-number.number-index
    (subst (AreNumbers files) (sym c.deref-number-items.ensures.value) (c.in_ok-numbers.ensures.numbers tells))
    c.loop-number.invariant (omega (arith, c.loop-number-test.true)) c.if-number-ge-FIRST_TABLE.true

pub returns-clause-least : goal.returns-clause-least
returns-clause-least g c = λ tells.
    let files = (g.V.Vault.disk c.args.vault.now).files in
    none_found files c.deref-number-items.result.now
    (subst (AreNumbers files) (sym c.deref-number-items.ensures.value) (c.in_ok-numbers.ensures.numbers tells))
    (λ j less. c.loop-number.invariant j (omega (arith, less, c.loop-number-test.false)))
