use Rattle.std.proofs.Common.{◌≡◌, ◌+◌}
use Rattle.rk_outside.specs.Disks.{moment}
use Rattle.rk_memvault.specs.Images.{AreTracesOf, disk_upto}
use Rattle.rk_memvault.proofs.images.scene_at.Given as goal

abbrev pub invariant-loop-noted : goal.invariant-loop-noted
invariant-loop-noted l = record {
  at : moment (disk_upto l.noted-index l.origin l.entries) + l.left ≡ l.fn.moment;
  traces : AreTracesOf l.fill (disk_upto l.noted-index l.origin l.entries) l.scene;
}
