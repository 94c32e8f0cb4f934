use Rattle.std.proofs.Common.{sym, ap, ◌∙◌, Some}
use Rattle.rk_memvault.specs.Records.{files_of}
use Rattle.rk_memvault.specs.Slots.{files_in}
use Rattle.rk_memvault.proofs.ByTraces.{one_before, none_behind, all_behind, with_front}
use Rattle.rk_memvault.proofs.slots.Slots.of.Goals as goal

pub loop-i-init : goal.loop-i-init
loop-i-init c = λ f. ap (λ m. files_in m f) c.new-slots.ensures ∙ ap (λ files. (files_of files f)) (sym (none_behind c.args.files.now))

pub loop-i-preserved : goal.loop-i-preserved
loop-i-preserved c =
    let files = c.args.files.now in
    let file = c.index-files-files.result in
    λ f.
    with_front (λ b. b) (files_in c.put.new.self) (files_in c.loop-i.slots) file _ (c.in_ok-put.ensures.this ∙ ap Some c.bytes.ensures) c.in_ok-put.ensures.others c.loop-i.invariant f
    ∙ ap (λ files. (files_of files f)) (sym (one_before files c.loop-i.i file c.loop-i-test.true c.index-files-files.is))

pub returns : goal.returns
returns c = λ f. c.loop-i.invariant f ∙ ap (λ files. (files_of files f)) (all_behind c.args.files.now c.loop-i.i c.loop-i-test.false)
