use Rattle.std.proofs.Common.{◌∙◌, sym, ap}
use Rattle.std.specs.Option.{option_copied}
use Rattle.rk_interleave.proofs.Stepping.{inner_way, kept_on, has_read_on, has_read, costs_read}
use Rattle.rk_interleave.proofs.settle.step_over.Goals as goal

pub loop-entry-preserved : goal.loop-entry-preserved
loop-entry-preserved g c =
    let was = c.loop-entry.invariant in
    record {
      kept = kept_on _ _ _ _ was.kept c.in_ok-step.ensures.kept;
      way = inner_way g.P.Sorted.listing g.P.Sorted.standing g.met.P.Source.told c.args.forward _ _ _ _ _ c.in_ok-step.field-0 was.kept (sym c.here.ensures ∙ ap option_copied c.in-Some.is) (sym c.is_stepped_over.ensures ∙ c.if-not-is_stepped_over.false) was.way c.in_ok-step.ensures.leads;
      read = has_read_on _ _ _ was.read (has_read _ _ _ _ (costs_read _ _ _ _ _ _ _ _ c.in_ok-step.ensures.costs));
    }
