use Rattle.std.proofs.Common.{◌≡◌, ℕ, ◌+◌, ◌<◌, List, [], ◌∷◌, ◌++◌, length, get_or, take, sym, ap, ◌∙◌, length-append, arith}
use Rattle.std.proofs.lemmas.List.{take_more}
use Rattle.rk_model.specs.declared.op.Op.{Op}
use Rattle.rk_model.specs.Operations.{operations}
use Rattle.rk_log.proofs.group.Group.end.Goals as goal

length-operations : (bs : List (List Op)) (b : List Op) → length (operations (bs ++ b ∷ [])) ≡ length (operations bs) + length b
length-operations [] b = omega (arith, length-append b [])
length-operations (x ∷ bs) b =
    omega (arith, length-append x (operations (bs ++ b ∷ [])), length-append x (operations bs), length-operations bs b)

-- one batch more
more : (bs : List (List Op)) (i : ℕ) (b : List Op) → i < length bs → b ≡ get_or bs i b
    → length (operations (take (i + 1) bs)) ≡ length (operations (take i bs)) + length b
more bs i b less is =
    ap (λ (t : List (List Op)). length (operations t)) (take_more bs i b less ∙ ap (λ (x : List Op). take i bs ++ x ∷ []) (sym is))
    ∙ length-operations (take i bs) b

pub loop-batch-preserved : goal.loop-batch-preserved
loop-batch-preserved c =
    let one = more c.deref-batch-items.result.now c.loop-batch.batch-index c.batch-item.result c.loop-batch-test.true c.batch-item.is in
    (omega (arith, c.loop-batch.invariant.0, one, c.count.ensures, c.from-end-in-loop-batch.ensures), omega (arith, c.loop-batch.invariant.1, c.from-end-in-loop-batch.ensures, c.count.type_inv))
