use Rattle.std.proofs.Common.{sym, ◌∙◌}
use Rattle.rk_log.proofs.Passing.{no_gap}
use Rattle.rk_log.proofs.rules.Due.leaves_gap.Goals as goal

pub returns-in-None : goal.returns-in-None
returns-in-None c flushed others before h = sym (no_gap before c.args.logged.now (sym c.in-None.is ∙ h.in_log))
