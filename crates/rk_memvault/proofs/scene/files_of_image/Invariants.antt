use Rattle.std.proofs.Common.{◌≡◌, ◌++◌}
use Rattle.rk_memvault.specs.Images.{image_files}
use Rattle.rk_memvault.proofs.scene.files_of_image.Given as goal

abbrev pub invariant-loop-file : goal.invariant-loop-file
invariant-loop-file l = l.files.items ++ image_files l.free l.there l.file-iterator ≡ image_files l.free l.there l.traces.entries
