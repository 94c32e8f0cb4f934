use Rattle.std.proofs.Common.{◌≡◌, ◌∙◌, ◌∷◌, Some, refl, ap, arith, map, drop, length}
use Rattle.std.proofs.lemmas.List.{take_at}
use Rattle.std.proofs.lemmas.Option.{slice_get_read}
use Rattle.std.specs.List.{flat_map, slice_get}
use Rattle.rk_model.specs.Spans.{op_ends}
use Rattle.rk_fragment.specs.Fragments.{written}
use Rattle.rk_fragment.specs.Intervals.{with_entry, ArePlaces}
use Rattle.rk_fragment.proofs.Parts.{painted_more, starts_of}
use Rattle.rk_fragment.proofs.Rising.{sorted_rises}
use Rattle.rk_fragment.proofs.intervals.intervals_of.Goals as goal

pub push_entry-requires : goal.push_entry-requires
push_entry-requires c =
    let es = c.args.entries.now in
    rw (c.deref_mut.ensures.value, c.loop-rank.invariant.0, starts_of es c.loop-rank.yielded (written es)) (sorted_rises (flat_map (λ e. op_ends e.op) es))

pub loop-rank-preserved : goal.loop-rank-preserved
loop-rank-preserved c =
    let es = c.args.entries.now in
    let e = c.index-entries-rank.result in
    let new = c.push_entry.new.intervals in
    let n : length new ≡ c.loop-rank.intervals.len = omega arith in
    let left : ArePlaces es (c.in-Some.rank ∷ c.next.new.self) = rw c.in-Some.ensures.steps at c.loop-rank.invariant.1 in
    let found : slice_get es c.in-Some.rank.1 ≡ Some e = slice_get_read es (length es) c.in-Some.rank.1 e refl left.0 c.index-entries-rank.is in (
      take_at new (drop (length new) c.loop-rank.intervals.items) c.loop-rank.intervals.len n
          ∙ c.in_ok-push_entry.ensures
          ∙ ap (map (with_entry e)) (c.deref_mut.ensures.value ∙ c.loop-rank.invariant.0)
          ∙ painted_more es c.loop-rank.yielded c.in-Some.rank e (written es) found,
      left.1,
    )
