use Rattle.std.proofs.Common.{◌≡◌, ℕ, ◌+◌, [], ◌∷◌, ◌++◌, take, drop, ap, ◌∙◌, arith}
use Rattle.std.specs.Ordering.{is_lt}
use Rattle.rk_model.specs.Cuts.{count_before}
use Rattle.rk_model.specs.Sources.{entry_cmp}
use Rattle.rk_mem.proofs.Merging.{merge, same_merge, merge_in_order, merge_turn, merge_end}
use Rattle.rk_mem.proofs.merge.merged.Goals as goal

pub loop-point-preserved : goal.loop-point-preserved
loop-point-preserved c =
    let points = c.loop-point.points.items in
    let rest = c.loop-point.rest.now in
    let x = c.point-item.result in
    let count : ℕ = count_before (λ y. is_lt (entry_cmp y x)) rest in
    let turn : ((points ++ take count rest) ++ x ∷ []) ++ merge (drop (c.loop-point.point-index + 1) c.args.older.now) (drop count rest) ≡ merge c.args.older.now c.args.newer.now =
    merge_turn points c.args.older.now c.args.newer.now rest c.loop-point.point-index x (omega arith) c.point-item.is c.loop-point.invariant in
    let counted : c.count_before.result ≡ count = rw c.entry.ensures at c.count_before.ensures.count in
    let front : c.split_at.result.0.now ≡ take count rest = c.split_at.ensures.front ∙ ap (λ n. take n rest) counted in
    let back : c.split_at.result.1.now ≡ drop count rest = c.split_at.ensures.back ∙ ap (λ n. drop n rest) counted in
    let all : c.share_all.new.all.items ≡ points ++ take count rest = c.in_ok-share_all.ensures ∙ ap (λ l. points ++ l) front in
    let now : c.push.new.self.items ≡ (points ++ take count rest) ++ x ∷ [] = c.in_ok-push.ensures.items ∙ ap (λ e. c.share_all.new.all.items ++ e ∷ []) c.in_ok-share.ensures ∙ ap (λ l. l ++ x ∷ []) all in
    rw (now, back) turn

pub returns-clause-same : goal.returns-clause-same
returns-clause-same c =
    let e : c.share_all-2.new.all.items ≡ merge c.args.older.now c.args.newer.now =
    c.in_ok-share_all-2.ensures ∙ merge_end c.loop-point.points.items c.args.older.now c.args.newer.now c.loop-point.rest.now c.loop-point.point-index (omega arith) c.loop-point.invariant in
    rw e (same_merge c.args.older.now c.args.newer.now)

pub returns-clause-in_order : goal.returns-clause-in_order
returns-clause-in_order c =
    let e : c.share_all-2.new.all.items ≡ merge c.args.older.now c.args.newer.now =
    c.in_ok-share_all-2.ensures ∙ merge_end c.loop-point.points.items c.args.older.now c.args.newer.now c.loop-point.rest.now c.loop-point.point-index (omega arith) c.loop-point.invariant in
    rw e (merge_in_order c.args.older.now c.args.newer.now c.requires.older c.requires.newer c.requires.apart)
