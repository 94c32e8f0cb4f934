use Rattle.rk_script.proofs.KeyTests.{some_suffix, no_suffix}
use Rattle.rk_script.proofs.keys.suffix_of.Goals as goal

pub returns-in-Ok : goal.returns-in-Ok
returns-in-Ok c = some_suffix c.args.bytes.now c.in-Ok.suffix c.in-Ok.ensures.is_suffix c.in-Ok.ensures.ok

pub returns-in-Err-BadKey : goal.returns-in-Err-BadKey
returns-in-Err-BadKey c = no_suffix c.args.bytes.now c.in-Err-BadKey.field-0 _ _ c.in-Err-BadKey.ensures.refusal c.in-Err-BadKey.field-0-is
