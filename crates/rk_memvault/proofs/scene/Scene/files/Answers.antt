use Rattle.std.proofs.Common.{ℕ, ◌≡◌, subst}
use Rattle.std.specs.Prelude.{IfOk}
use Rattle.rk_memvault.specs.Records.{files_of}
use Rattle.rk_memvault.specs.Images.{image_by, trace_at}
use Rattle.rk_memvault.proofs.ByTraces.{imaged}
use Rattle.rk_memvault.proofs.scene.Scene.files.Goals as goal

pub returns : goal.returns
returns c =
    subst (λ traces. IfOk c.files_of_image.result (λ files. (f : ℕ) → files_of files.items f ≡ image_by c.args.free c.args.there (trace_at traces f))) c.self.view_is
    (imaged (λ files. files.items) c.args.free c.args.there c.self.inside.traces.entries c.files_of_image.result c.files_of_image.ensures.files c.files_of_image.ensures.ordered)
