use Rattle.std.proofs.Common.{◌∙◌, sym, ap, [], ◌++◌, take, arith}
use Rattle.std.specs.List.{filter_map, cons_option}
use Rattle.std.proofs.lemmas.List.{take_all, append-nil}
use Rattle.rk_model.specs.Covers.{by_suffix}
use Rattle.rk_coalesce.specs.Places.{pair_of}
use Rattle.rk_coalesce.specs.Numbers.{newest_at}
use Rattle.rk_coalesce.proofs.Standing.{pairs_more, cover_is}
use Rattle.rk_coalesce.proofs.cover.coalesce.Goals as goal
use Rattle.rk_coalesce.proofs.cover.coalesce.Goals.{in-Some+in_ok-push, in_default}

pub loop-key-preserved : goal.loop-key-preserved
loop-key-preserved c =
    let g = pair_of (newest_at c.in_ok-newest.newest) c.args.n in
    let keys = c.as_slice-keys.result.now in
    let more = pairs_more g keys c.loop-key.key-index c.key-item.result (omega arith) c.key-item.is in
    elim c.match-branch-3.branch [
      | in-Some+in_ok-push w ↦
          ap (λ v. v.items) w.pairs-is
          ∙ w.in_ok-push.ensures.items
          ∙ (λ i. c.loop-key.invariant i ++ cons_option ((sym w.in-Some.is ∙ c.in_ok-pair.ensures) i) [])
          ∙ sym more
      | in_default w ↦
          ap (λ v. v.items) w.pairs-is
          ∙ c.loop-key.invariant
          ∙ sym (append-nil (filter_map g (take c.loop-key.key-index keys)))
          ∙ (λ i. filter_map g (take c.loop-key.key-index keys) ++ cons_option ((sym w.in_default.is ∙ c.in_ok-pair.ensures) i) [])
          ∙ sym more
    ]

pub returns : goal.returns
returns c =
    let newest = newest_at c.in_ok-newest.newest in
    c.in_ok-sort.ensures
    ∙ ap by_suffix c.loop-key.invariant
    ∙ ap (λ ks. by_suffix (filter_map (pair_of newest c.args.n) ks)) (take_all c.loop-key.key-index c.as_slice-keys.result.now (omega arith) ∙ c.as_slice-keys.ensures)
    ∙ cover_is c.args.span.now c.args.n newest (rw c.as_slice-keys.ensures at c.in_ok-newest.ensures)
