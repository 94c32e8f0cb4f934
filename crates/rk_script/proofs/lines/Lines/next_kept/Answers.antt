use Rattle.std.proofs.Common.{length, sym, ap, ◌∙◌, arith}
use Rattle.rk_script.proofs.Cutting.{behind_is_no_longer}
use Rattle.rk_script.proofs.Reading.{past_skipped, at_kept}
use Rattle.rk_script.proofs.lines.Lines.next_kept.Goals as goal

pub returns-then-not-is_skipped-clause-line : goal.returns-then-not-is_skipped-clause-line
returns-then-not-is_skipped-clause-line c =
    c.loop-self.invariant.same ∙ at_kept c.loop-self.self c.cut-line.new.self c.cut-line.result.now c.cut-line.ensures.line c.cut-line.ensures.left (sym c.is_skipped.ensures ∙ c.if-not-is_skipped.true)

pub loop-self-preserved : goal.loop-self-preserved
loop-self-preserved c = record {
  same = c.loop-self.invariant.same ∙ past_skipped c.loop-self.self c.cut-line.new.self c.cut-line.result.now c.cut-line.ensures.line c.cut-line.ensures.left (sym c.is_skipped.ensures ∙ c.if-not-is_skipped.false);
  shorter = omega (arith, behind_is_no_longer c.loop-self.self.left, ap (λ l. length l.left) c.cut-line.ensures.left, c.loop-self.invariant.shorter);
}
