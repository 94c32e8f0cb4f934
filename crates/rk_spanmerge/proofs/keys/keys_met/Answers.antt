use Rattle.std.proofs.Common.{◌≡◌, List, [], ◌∷◌, ◌++◌, refl, arith, ◌∙◌, sym, ap}
use Rattle.std.specs.List.{flat_map}
use Rattle.rk_fragment.specs.Fragments.{newest_first}
use Rattle.rk_model.proofs.Walks.{drop_before}
use Rattle.rk_model.specs.declared.span.RangeKey.{RangeKey}
use Rattle.rk_spanmerge.specs.Moves.{keys_met, insert_all}
use Rattle.rk_spanmerge.proofs.keys.keys_met.Goals as goal

newest_append : (ks js : List RangeKey) → newest_first (ks ++ js) ≡ insert_all ks (newest_first js)
newest_append [] js = refl
newest_append (k ∷ ks) js = rw (newest_append ks js) refl

pub loop-i-preserved : goal.loop-i-preserved
loop-i-preserved g c =
    let ss = c.args.sources.now in
    let e = c.index-sources-i.result in
    let keys = λ (s : g.row.S.Denot). keys_met c.args.forward c.args.key.now (g.S.Sorted.standing s).here in
    let cut = drop_before ss c.loop-i.i e (omega arith) (omega arith) c.index-sources-i.is in
    c.in_ok-insert_shown.ensures ∙ ap (insert_all (keys e)) c.loop-i.invariant ∙ sym (newest_append (keys e) _) ∙ ap (λ r. newest_first (flat_map keys r)) (sym cut)
