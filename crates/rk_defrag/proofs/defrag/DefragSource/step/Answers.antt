use Rattle.std.proofs.Common.{◌≡◌, ◌∙◌, Option, Some, IfSome, IsTrue, option_map, unwrap_or, ap, subst, sym}
use Rattle.std.specs.Option.{option_copied}
use Rattle.rk_model.specs.Cuts.{count_before}
use Rattle.rk_model.specs.Items.{span_takes}
use Rattle.rk_model.specs.Standings.{can_step, step_gap}
use Rattle.rk_model.specs.declared.span.Span.{Span}
use Rattle.rk_defrag.specs.Defrags.{Defragging, defrags, defrag_stands}
use Rattle.rk_defrag.specs.Moves.{leaving_cut}
use Rattle.rk_defrag.proofs.Methods.{found_stands, leads_now, step_fewer, step_goes}
use Rattle.rk_defrag.proofs.defrag.DefragSource.step.Goals as goal

pub invariant_of-self-2 : goal.invariant_of-self-2
invariant_of-self-2 g c =
    let d = c.self.inside in
    found_stands g.S.Sorted.listing g.S.Sorted.standing d.n d.options d.source c.go_on.new.source c.self.invariant.within (g.met.S.Source.ordered d.source.source) c.in_ok-self-inside.ensures.kept c.args.forward c.in_ok-self-inside.ensures.faces
    (leaving_cut c.args.forward (option_copied c.as_ref.result)) c.in_ok-self-inside.field-0 c.in_ok-self-inside.ensures.found

pub returns-clause-leads : goal.returns-clause-leads
returns-clause-leads g c =
    let d = c.self.inside in
    let whole : Defragging g.row.S.Denot = record { source = d.source; n = d.n; options = d.options; current = d.current; facing = d.facing } in
    let was = defrag_stands g.S.Sorted.listing g.S.Sorted.standing whole in
    let can = subst (λ (v : Defragging g.row.S.Denot). IsTrue (can_step c.args.forward (defrag_stands g.S.Sorted.listing g.S.Sorted.standing v))) (sym c.self.view_is) c.requires in
    let goes = subst (λ (o : Option Span). IfSome (defrags g.S.Sorted.listing whole).held (λ ds. Some (count_before (span_takes c.args.forward (leaving_cut c.args.forward o)) ds) ≡ option_map (step_gap c.args.forward was) was.gap)) (sym (c.as_ref.ensures.value ∙ c.take-current.ensures.value))
    (step_goes g.S.Sorted.listing g.S.Sorted.standing whole c.self.invariant c.args.forward can) in
    rw (← c.self.view_is) (leads_now g.S.Sorted.listing g.S.Sorted.standing d.n d.options d.source c.go_on.new.source c.self.invariant.within (g.met.S.Source.ordered d.source.source) c.in_ok-self-inside.ensures.kept c.args.forward c.in_ok-self-inside.ensures.faces
    (leaving_cut c.args.forward (option_copied c.as_ref.result)) c.in_ok-self-inside.field-0 c.in_ok-self-inside.ensures.found d.current d.facing (λ ds. option_map (step_gap c.args.forward was) was.gap) goes)

pub returns-clause-fewer : goal.returns-clause-fewer
returns-clause-fewer g c =
    let d = c.self.inside in
    let whole : Defragging g.row.S.Denot = record { source = d.source; n = d.n; options = d.options; current = d.current; facing = d.facing } in
    let can = subst (λ (v : Defragging g.row.S.Denot). IsTrue (can_step c.args.forward (defrag_stands g.S.Sorted.listing g.S.Sorted.standing v))) (sym c.self.view_is) c.requires in
    rw (← c.self.view_is) (step_fewer g.S.Sorted.listing g.S.Sorted.standing whole c.self.invariant c.args.forward can (option_copied c.as_ref.result) (c.as_ref.ensures.value ∙ c.take-current.ensures.value)
    c.unwrap_or-was.result (c.unwrap_or-was.ensures ∙ ap (λ f. unwrap_or f c.args.forward) c.take.ensures.value) _ _ c.in_ok-self-inside.ensures.left)
