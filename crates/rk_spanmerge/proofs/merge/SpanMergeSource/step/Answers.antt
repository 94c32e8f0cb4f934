use Rattle.std.proofs.Common.{◌≡◌, ◌∙◌, sym, map, List, Option, IfSome, subst, refl, option_map, IsTrue}
use Rattle.std.specs.Option.{option_copied}
use Rattle.std.proofs.lemmas.List.{with_items_is}
use Rattle.rk_model.specs.Standings.{can_step, step_gap}
use Rattle.rk_model.specs.declared.span.Span.{Span}
use Rattle.rk_merge.specs.Unions.{Among}
use Rattle.rk_spanmerge.specs.Merges.{Merging, merged_standing, united}
use Rattle.rk_spanmerge.specs.Moves.{leaves}
use Rattle.rk_spanmerge.proofs.Found.{same_length}
use Rattle.rk_spanmerge.proofs.Gaps.{found_merging, found_leads, stepped, step_refused, step_fewer}
use Rattle.rk_spanmerge.proofs.merge.SpanMergeSource.step.Goals as goal

pub go_on-requires-clause-among : goal.go_on-requires-clause-among
go_on-requires-clause-among g c =
    subst (λ (ys : List g.row.S.Denot). IfSome (united (map g.S.Sorted.listing ys)) (λ xs. IfSome (option_copied c.as_ref.result) (λ c. Among c xs))) (sym c.deref_mut.ensures.value)
    (subst (λ (o : Option Span). IfSome (united (map g.S.Sorted.listing c.self.inside.sources.items)) (λ xs. IfSome o (λ c. Among c xs))) (sym (c.as_ref.ensures.value ∙ c.take-current.ensures.value)) c.self.invariant.among)

pub returns-in_err-self-inside-clause-costs : goal.returns-in_err-self-inside-clause-costs
returns-in_err-self-inside-clause-costs g c =
    let m = c.self.inside in
    let back = with_items_is m.sources c.go_on.new.sources (same_length g.S.Sorted.listing c.go_on.new.sources c.deref_mut.result.now c.go_on.ensures.same ∙ c.deref_mut.ensures.len) in
    rw (← c.self.view_is) (step_refused g.S.Sorted.listing g.S.Sorted.standing m.sources.items c.deref_mut.result.now c.go_on.new.sources _ c.deref_mut.ensures.value back
    c.args.forward (merged_standing g.S.Sorted.listing g.S.Sorted.standing (record { sources = m.sources.items; current = m.current; forward = m.forward; known = m.known }))
    (g.R.Counting.counts c.args.reader.now) (g.R.Counting.counts c.go_on.new.reader) c.in_err-self-inside.field-0.0 c.from_residual.result c.in_err-self-inside.ensures.pays c.from_residual.ensures.1)

pub invariant_of-self-2 : goal.invariant_of-self-2
invariant_of-self-2 g c =
    let back = with_items_is c.self.inside.sources c.go_on.new.sources (same_length g.S.Sorted.listing c.go_on.new.sources c.deref_mut.result.now c.go_on.ensures.same ∙ c.deref_mut.ensures.len) in
    found_merging g.S.Sorted.listing g.S.Sorted.standing c.self.inside.sources.items c.deref_mut.result.now c.go_on.new.sources _ c.deref_mut.ensures.value back
    c.in_ok-self-inside.field-0 c.args.forward (leaves c.args.forward (option_copied c.as_ref.result)) c.go_on.ensures.same c.in_ok-self-inside.ensures.found c.in_ok-self-inside.ensures.arrives

pub returns-clause-leads : goal.returns-clause-leads
returns-clause-leads g c =
    let m = c.self.inside in
    let whole : Merging g.row.S.Denot = record { sources = m.sources.items; current = m.current; forward = m.forward; known = m.known } in
    let was = merged_standing g.S.Sorted.listing g.S.Sorted.standing whole in
    let back = with_items_is m.sources c.go_on.new.sources (same_length g.S.Sorted.listing c.go_on.new.sources c.deref_mut.result.now c.go_on.ensures.same ∙ c.deref_mut.ensures.len) in
    let can = subst (λ (v : Merging g.row.S.Denot). IsTrue (can_step c.args.forward (merged_standing g.S.Sorted.listing g.S.Sorted.standing v))) (sym c.self.view_is) c.requires in
    let goes = stepped g.S.Sorted.listing g.S.Sorted.standing whole c.self.invariant c.args.forward (option_copied c.as_ref.result) (c.as_ref.ensures.value ∙ c.take-current.ensures.value) can in
    rw (← c.self.view_is) (found_leads g.S.Sorted.listing g.S.Sorted.standing m.sources.items c.deref_mut.result.now c.go_on.new.sources _ c.deref_mut.ensures.value back
    c.in_ok-self-inside.field-0 c.args.forward (leaves c.args.forward (option_copied c.as_ref.result)) (λ xs. option_map (step_gap c.args.forward was) was.gap) c.go_on.ensures.same c.in_ok-self-inside.ensures.found goes)

pub returns-clause-fewer : goal.returns-clause-fewer
returns-clause-fewer g c =
    let m = c.self.inside in
    let whole : Merging g.row.S.Denot = record { sources = m.sources.items; current = m.current; forward = m.forward; known = m.known } in
    let back = with_items_is m.sources c.go_on.new.sources (same_length g.S.Sorted.listing c.go_on.new.sources c.deref_mut.result.now c.go_on.ensures.same ∙ c.deref_mut.ensures.len) in
    let can = subst (λ (v : Merging g.row.S.Denot). IsTrue (can_step c.args.forward (merged_standing g.S.Sorted.listing g.S.Sorted.standing v))) (sym c.self.view_is) c.requires in
    rw (← c.self.view_is) (λ (e : m.forward ≡ c.args.forward).
    step_fewer g.S.Sorted.listing g.S.Sorted.standing m.sources.items c.deref_mut.result.now c.go_on.new.sources _ c.deref_mut.ensures.value back
    whole c.self.invariant refl c.args.forward (option_copied c.as_ref.result) c.in_ok-self-inside.field-0 (c.as_ref.ensures.value ∙ c.take-current.ensures.value) can e (c.in_ok-self-inside.ensures.fewer e))
