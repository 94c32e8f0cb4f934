use Rattle.std.proofs.Common.{◌≡◌, ℕ, ◌-◌, drop, length}
use Rattle.rk_memvault.specs.Records.{files_of}
use Rattle.rk_memvault.specs.Images.{trace_at, start_trace}
use Rattle.rk_memvault.proofs.scene.Scene.start.Given as goal

abbrev pub invariant-loop-i : goal.invariant-loop-i
invariant-loop-i l = (f : ℕ) → trace_at l.scene f ≡ start_trace (files_of (drop (length l.origin - l.i) l.origin) f)
