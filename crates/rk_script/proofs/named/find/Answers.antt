use Rattle.std.proofs.Common.{nat_eq, ap, sym, ◌∙◌}
use Rattle.std.specs.Cmp.Lexicographic.{pointwise}
use Rattle.rk_script.proofs.Naming.{past_another}
use Rattle.rk_script.proofs.named.find.Goals as goal

pub loop-i-preserved : goal.loop-i-preserved
loop-i-preserved g c =
    past_another g.T.Named.called c.args.name.now c.args.things.now c.loop-i.i c.index-things-i.result c.loop-i-test.true c.index-things-i.is c.loop-i.invariant
    (ap (λ b. pointwise nat_eq b c.args.name.now) (sym c.name.ensures) ∙ (sym c.eq.ensures ∙ c.if-eq.false))
