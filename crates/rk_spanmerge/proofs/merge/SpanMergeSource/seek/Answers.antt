use Rattle.std.proofs.Common.{◌≡◌, ◌∙◌, map, Some, refl}
use Rattle.std.proofs.lemmas.List.{with_items_is}
use Rattle.rk_model.specs.Cuts.{cut_copied, count_before}
use Rattle.rk_model.specs.Items.{span_takes}
use Rattle.rk_spanmerge.specs.Merges.{united}
use Rattle.rk_spanmerge.proofs.Pools.{if_told}
use Rattle.rk_spanmerge.proofs.Found.{same_length}
use Rattle.rk_spanmerge.proofs.Gaps.{found_merging, found_leads}
use Rattle.rk_spanmerge.proofs.merge.SpanMergeSource.seek.Goals as goal

pub invariant_of-self-2 : goal.invariant_of-self-2
invariant_of-self-2 g c =
    let back = with_items_is c.self.inside.sources c.find_at.new.sources (same_length g.S.Sorted.listing c.find_at.new.sources c.deref_mut.result.now c.find_at.ensures.same ∙ c.deref_mut.ensures.len) in
    found_merging g.S.Sorted.listing g.S.Sorted.standing c.self.inside.sources.items c.deref_mut.result.now c.find_at.new.sources _ c.deref_mut.ensures.value back
    c.in_ok-self-inside.field-0 c.args.forward (span_takes c.args.forward (cut_copied c.args.cut)) c.find_at.ensures.same c.in_ok-self-inside.ensures.found c.in_ok-self-inside.ensures.arrives

pub returns-clause-leads : goal.returns-clause-leads
returns-clause-leads g c =
    let t = span_takes c.args.forward (cut_copied c.args.cut) in
    let back = with_items_is c.self.inside.sources c.find_at.new.sources (same_length g.S.Sorted.listing c.find_at.new.sources c.deref_mut.result.now c.find_at.ensures.same ∙ c.deref_mut.ensures.len) in
    rw (← c.self.view_is) (found_leads g.S.Sorted.listing g.S.Sorted.standing c.self.inside.sources.items c.deref_mut.result.now c.find_at.new.sources _ c.deref_mut.ensures.value back
    c.in_ok-self-inside.field-0 c.args.forward t (λ xs. Some (count_before t xs)) c.find_at.ensures.same c.in_ok-self-inside.ensures.found (if_told {P = λ xs. Some (count_before t xs) ≡ Some (count_before t xs)} (united (map g.S.Sorted.listing c.self.inside.sources.items)) (λ xs u. refl)))
