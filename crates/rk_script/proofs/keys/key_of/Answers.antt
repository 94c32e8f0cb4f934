use Rattle.rk_script.proofs.KeyTests.{some_key, no_key}
use Rattle.rk_script.proofs.keys.key_of.Goals as goal

pub returns-in-Ok : goal.returns-in-Ok
returns-in-Ok c = some_key c.args.bytes.now c.in-Ok.key c.in-Ok.ensures.is_key c.in-Ok.ensures.ok

pub returns-in-Err-BadKey : goal.returns-in-Err-BadKey
returns-in-Err-BadKey c = no_key c.args.bytes.now c.in-Err-BadKey.field-0 _ _ c.in-Err-BadKey.ensures.refusal c.in-Err-BadKey.field-0-is
