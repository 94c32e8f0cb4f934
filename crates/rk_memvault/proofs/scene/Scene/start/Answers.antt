use Rattle.std.proofs.Common.{sym, ap, ◌∙◌}
use Rattle.rk_memvault.specs.Records.{files_of}
use Rattle.rk_memvault.specs.Images.{trace_at, start_trace, settled_trace}
use Rattle.rk_memvault.proofs.ByTraces.{one_before, none_behind, all_behind, with_front}
use Rattle.rk_memvault.proofs.scene.Scene.start.Goals as goal

pub loop-i-init : goal.loop-i-init
loop-i-init c = λ f. ap (λ m. trace_at m f) c.new-scene.ensures ∙ ap (λ files. start_trace (files_of files f)) (sym (none_behind c.args.origin.now))

pub loop-i-preserved : goal.loop-i-preserved
loop-i-preserved c =
    let files = c.args.origin.now in
    let file = c.index-origin-origin.result in
    λ f.
    with_front (λ b. start_trace b) (trace_at c.put.new.self) (trace_at c.loop-i.scene) file _ (c.in_ok-put.ensures.this ∙ ap settled_trace c.bytes.ensures) c.in_ok-put.ensures.others c.loop-i.invariant f
    ∙ ap (λ files. start_trace (files_of files f)) (sym (one_before files c.loop-i.i file c.loop-i-test.true c.index-origin-origin.is))

pub returns : goal.returns
returns c = λ f. c.loop-i.invariant f ∙ ap (λ files. start_trace (files_of files f)) (all_behind c.args.origin.now c.loop-i.i c.loop-i-test.false)
