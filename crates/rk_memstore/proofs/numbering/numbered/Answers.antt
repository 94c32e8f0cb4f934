use Rattle.std.proofs.Common.{◌≡◌, ◌+◌, List, [], ◌∷◌, ◌++◌, take, ap, ◌∙◌, sym, arith}
use Rattle.rk_model.specs.Operations.{numbered}
use Rattle.rk_model.specs.declared.op.Entry.{Entry}
use Rattle.rk_memstore.proofs.Numberings.{numbered_more, keyed_more}
use Rattle.rk_memstore.proofs.numbering.numbered.Goals as goal

pub loop-op-preserved : goal.loop-op-preserved
loop-op-preserved c =
    let (so_far, seq, keyed) = c.loop-op.invariant in
    let es : List Entry = c.loop-op.entries.items in
    let e : Entry = record { op = c.in_ok-copy.field-0; seq = c.loop-op.seq + 1 } in
    let more : numbered (c.args.last + 1) (take (c.loop-op.op-index + 1) c.args.ops.now) ≡ es ++ e ∷ [] =
    numbered_more (c.args.last + 1) c.args.ops.now c.loop-op.op-index c.in_ok-copy.field-0 c.op-item.result c.loop-op-test.true (c.in_ok-copy.ensures.value ∙ c.op-item.is)
    ∙ ap (λ l. l ++ record { op = c.in_ok-copy.field-0; seq = (c.args.last + 1) + c.loop-op.op-index } ∷ []) (sym so_far)
    ∙ ap (λ k. es ++ record { op = c.in_ok-copy.field-0; seq = k } ∷ []) (omega (arith, seq)) in
    (c.in_ok-push.ensures.items ∙ sym more, omega (arith, seq), rw c.in_ok-push.ensures.items (keyed_more es e keyed c.in_ok-copy.ensures.keys))
