use Rattle.std.proofs.Common.{◌∙◌, [], sym, ap}
use Rattle.std.specs.Option.{unwrap_or}
use Rattle.rk_script.proofs.Escapes.{stands_for_nothing_else}
use Rattle.rk_script.proofs.escape.Escaped.plain.Goals as goal

pub returns-else-has_percent : goal.returns-else-has_percent
returns-else-has_percent c =
    sym (ap (λ o. unwrap_or o []) (stands_for_nothing_else c.self.inside.word.now (sym c.has_percent.ensures ∙ c.if-has_percent.false))) ∙ c.self.view_is
