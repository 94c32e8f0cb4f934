use Rattle.std.proofs.Common.{◌∙◌, sym, ap}
use Rattle.std.specs.Option.{ok_or}
use Rattle.rk_script.specs.declared.line.Why.TheVariants.{Escape}
use Rattle.rk_script.proofs.Escapes.{some_bytes, no_bytes}
use Rattle.rk_script.proofs.escape.Escaped.read.Goals as goal

pub returns-then-is_escaped : goal.returns-then-is_escaped
returns-then-is_escaped c =
    ap (λ o. ok_or o Escape) (some_bytes c.args.word.now (sym c.is_escaped.ensures ∙ c.if-is_escaped.true))

pub returns-else-is_escaped : goal.returns-else-is_escaped
returns-else-is_escaped c = no_bytes c.args.word.now (sym c.is_escaped.ensures ∙ c.if-is_escaped.false)
