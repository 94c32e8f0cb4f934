use Rattle.std.proofs.Common.{◌≡◌, ℕ, ◌-◌, drop, length}
use Rattle.rk_memvault.specs.Records.{files_of}
use Rattle.rk_memvault.specs.Slots.{files_in}
use Rattle.rk_memvault.proofs.slots.Slots.of.Given as goal

abbrev pub invariant-loop-i : goal.invariant-loop-i
invariant-loop-i l = (f : ℕ) → files_in l.slots f ≡ files_of (drop (length l.files - l.i) l.files) f
