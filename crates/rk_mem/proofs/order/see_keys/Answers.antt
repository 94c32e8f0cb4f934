use Rattle.std.proofs.Common.{◌≡◌, ℕ, true, List, refl, sym, ap, ◌∙◌}
use Rattle.rk_key.specs.Keys.{IsKey}
use Rattle.rk_key.specs.KeyTests.{is_key}
use Rattle.rk_key.proofs.KeyTests.{is_key-Decides}
use Rattle.rk_model.specs.Sources.{op_key}
use Rattle.rk_mem.proofs.order.see_keys.Goals as goal

passes : (key : List ℕ) → IsKey key → is_key key ≡ true
passes key is = (is_key-Decides key).1 is

pub returns-in-Some : goal.returns-in-Some
returns-in-Some c =
    let key : is_key (op_key c.args.op.now) ≡ true = ap is_key (sym c.key.ensures) ∙ passes c.key.result.now c.bytes-key.ensures.is_key in
    rw (key, c.in-Some.ensures, passes c.in-Some.start.now c.bytes-start.ensures.is_key, passes c.in-Some.end.now c.bytes-end.ensures.is_key) refl

pub returns-in_default : goal.returns-in_default
returns-in_default c =
    let key : is_key (op_key c.args.op.now) ≡ true = ap is_key (sym c.key.ensures) ∙ passes c.key.result.now c.bytes-key.ensures.is_key in
    rw (key, c.in_default.ensures) refl
