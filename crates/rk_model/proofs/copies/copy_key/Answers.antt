use Rattle.std.proofs.Common.{ap, ◌∙◌}
use Rattle.rk_key.specs.KeyTests.{is_key}
use Rattle.rk_key.proofs.KeyTests.{is_key-Decides}
use Rattle.rk_model.proofs.copies.copy_key.Goals as goal

pub returns-in-Ok-clause-is_key : goal.returns-in-Ok-clause-is_key
returns-in-Ok-clause-is_key c = ap is_key c.in-Ok.ensures.ok ∙ (is_key-Decides c.args.key.now).1 c.in-Ok.ensures.is_key
