use Rattle.std.proofs.Common.{◌≡◌, ◌*◌, ◌≤◌, List, [], ◌∷◌, ◌++◌, map, length, sym, ap, subst, ◌∙◌, arith}
use Rattle.std.specs.Arc.{arc_value}
use Rattle.std.specs.List.Sorted.{IsPermutation}
use Rattle.std.proofs.lemmas.List.{map-append}
use Rattle.std.proofs.lemmas.Result.{IfOk-weaker}
use Rattle.rk_model.specs.declared.op.Entry.{Entry}
use Rattle.rk_mem.specs.Chunks.{AreNewer, IsChunkOf}
use Rattle.rk_mem.specs.Memory.{entries_of}
use Rattle.rk_mem.specs.Towers.{IsTower, IsNewest}
use Rattle.rk_mem.proofs.Towers.{Pile, set_on_longer, entries_more, last_is_older, merged_pile}
use Rattle.rk_mem.proofs.tower.piled.Goals as goal

pub returns-then-len-clause-tower : goal.returns-then-len-clause-tower
returns-then-len-clause-tower c =
    let below : List (List Entry) = map arc_value c.pop.new.self.items in
    let older : List Entry = arc_value c.in-Some.older in
    let newest : List Entry = c.loop-older.newest in
    let popped : map arc_value c.loop-older.chunks.items ≡ below ++ older ∷ [] = ap (λ s. map arc_value s) c.in-Some.ensures.items ∙ map-append arc_value c.pop.new.self.items (c.in-Some.older ∷ []) in
    let pushed : map arc_value c.push.new.self.items ≡ below ++ older ∷ [] = ap (λ s. map arc_value s) c.in_ok-push.ensures.items ∙ map-append arc_value c.pop.new.self.items (c.in-Some.older ∷ []) in
    let pile : Pile (map arc_value c.args.chunks.items) c.args.newest (below ++ older ∷ []) newest = subst (λ cs. Pile (map arc_value c.args.chunks.items) c.args.newest cs newest) popped c.loop-older.invariant in
    let len : length c.deref.result.now ≡ length older = ap (λ l. length l) c.deref.ensures in
    let long : 2 * length newest ≤ length older = omega arith in
    let tower : IsTower ((below ++ older ∷ []) ++ newest ∷ []) = set_on_longer below older newest pile.tower pile.new long in
    IfOk-weaker c.topped.result (λ v. map arc_value v.items ≡ map arc_value c.push.new.self.items ++ newest ∷ []) (λ v. IsTower (map arc_value v.items))
    (λ v e. subst IsTower (sym (e ∙ ap (λ cs. cs ++ newest ∷ []) pushed)) tower) c.topped.ensures

pub returns-then-len-clause-same : goal.returns-then-len-clause-same
returns-then-len-clause-same c =
    let start : List Entry = entries_of (map arc_value c.args.chunks.items) ++ c.args.newest in
    let newest : List Entry = c.loop-older.newest in
    let popped : map arc_value c.loop-older.chunks.items ≡ map arc_value c.push.new.self.items = ap (λ s. map arc_value s) (c.in-Some.ensures.items ∙ sym c.in_ok-push.ensures.items) in
    let entries : entries_of (map arc_value c.loop-older.chunks.items) ++ newest ≡ entries_of (map arc_value c.push.new.self.items ++ newest ∷ []) = ap (λ cs. entries_of cs ++ newest) popped ∙ sym (entries_more (map arc_value c.push.new.self.items) newest) in
    let same : IsPermutation start (entries_of (map arc_value c.push.new.self.items ++ newest ∷ [])) = subst (IsPermutation start) entries c.loop-older.invariant.same in
    IfOk-weaker c.topped.result (λ v. map arc_value v.items ≡ map arc_value c.push.new.self.items ++ newest ∷ []) (λ v. IsPermutation start (entries_of (map arc_value v.items)))
    (λ v e. subst (λ cs. IsPermutation start (entries_of cs)) (sym e) same) c.topped.ensures

pub merged-requires : goal.merged-requires
merged-requires c =
    let below : List (List Entry) = map arc_value c.pop.new.self.items in
    let older : List Entry = arc_value c.in-Some.older in
    let popped : map arc_value c.loop-older.chunks.items ≡ below ++ older ∷ [] = ap (λ s. map arc_value s) c.in-Some.ensures.items ∙ map-append arc_value c.pop.new.self.items (c.in-Some.older ∷ []) in
    let new : IsNewest (below ++ older ∷ []) c.loop-older.newest = subst (λ cs. IsNewest cs c.loop-older.newest) popped c.loop-older.invariant.new in
    let newer : AreNewer older c.loop-older.newest = last_is_older below older c.loop-older.newest new in
    subst (λ old. AreNewer old c.loop-older.newest) (sym c.deref-in-Some.ensures) newer

pub loop-older-preserved : goal.loop-older-preserved
loop-older-preserved c =
    let start : List (List Entry) = map arc_value c.args.chunks.items in
    let below : List (List Entry) = map arc_value c.pop.new.self.items in
    let older : List Entry = arc_value c.in-Some.older in
    let popped : map arc_value c.loop-older.chunks.items ≡ below ++ older ∷ [] = ap (λ s. map arc_value s) c.in-Some.ensures.items ∙ map-append arc_value c.pop.new.self.items (c.in-Some.older ∷ []) in
    let pile : Pile start c.args.newest (below ++ older ∷ []) c.loop-older.newest = subst (λ cs. Pile start c.args.newest cs c.loop-older.newest) popped c.loop-older.invariant in
    let is : IsChunkOf (older ++ c.loop-older.newest) c.in_ok-newest.newest = subst (λ old. IsChunkOf (old ++ c.loop-older.newest) c.in_ok-newest.newest) c.deref-in-Some.ensures c.in_ok-newest.ensures in
    merged_pile start c.args.newest below older c.loop-older.newest c.in_ok-newest.newest pile is
