use Rattle.std.proofs.Common.{◌≡◌, Some, refl}
use Rattle.rk_model.specs.Cuts.{cut_copied, count_before}
use Rattle.rk_model.specs.Items.{span_takes}
use Rattle.rk_defrag.specs.Defrags.{defragged}
use Rattle.rk_defrag.proofs.Methods.{found_stands, leads_now, if_held}
use Rattle.rk_defrag.proofs.defrag.DefragSource.seek.Goals as goal

pub invariant_of-self-2 : goal.invariant_of-self-2
invariant_of-self-2 g c =
    let d = c.self.inside in
    found_stands g.S.Sorted.listing g.S.Sorted.standing d.n d.options d.source c.find_at.new.source c.self.invariant.within (g.met.S.Source.ordered d.source.source) c.in_ok-self-inside.ensures.kept c.args.forward c.in_ok-self-inside.ensures.faces
    (cut_copied c.args.cut) c.in_ok-self-inside.field-0 c.in_ok-self-inside.ensures.found

pub returns-clause-leads : goal.returns-clause-leads
returns-clause-leads g c =
    let d = c.self.inside in
    let t = span_takes c.args.forward (cut_copied c.args.cut) in
    rw (← c.self.view_is) (leads_now g.S.Sorted.listing g.S.Sorted.standing d.n d.options d.source c.find_at.new.source c.self.invariant.within (g.met.S.Source.ordered d.source.source) c.in_ok-self-inside.ensures.kept c.args.forward c.in_ok-self-inside.ensures.faces
    (cut_copied c.args.cut) c.in_ok-self-inside.field-0 c.in_ok-self-inside.ensures.found d.current d.facing (λ xs. Some (count_before t xs)) (if_held (defragged d.n d.options (g.S.Sorted.listing d.source.source)).held (λ ds. Some (count_before t ds) ≡ Some (count_before t ds)) (λ ds. refl)))
