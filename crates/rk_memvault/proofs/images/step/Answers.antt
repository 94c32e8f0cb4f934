use Rattle.std.proofs.Common.{sym, subst}
use Rattle.rk_memvault.specs.Records.{disk_after}
use Rattle.rk_memvault.specs.Images.{AreTracesOf}
use Rattle.rk_memvault.proofs.Scenes.{scene_edited}
use Rattle.rk_memvault.proofs.images.step.Goals as goal

pub returns-in_ok-edit-in-Edited-clause-traces : goal.returns-in_ok-edit-in-Edited-clause-traces
returns-in_ok-edit-in-Edited-clause-traces c = λ d are.
    subst (λ call. AreTracesOf c.args.fill (disk_after call c.args.noted.now.ok d) c.edit.new.self) (sym c.in-Edited.is)
    (scene_edited c.args.fill c.in-Edited.file c.in-Edited.edit c.args.noted.now.ok d c.args.scene.now c.edit.new.self are c.in_ok-edit-in-Edited.ensures)
