use Rattle.std.proofs.Common.{◌≡◌, drop, length}
use Rattle.rk_model.specs.Spans.{same_cover}
use Rattle.rk_model.proofs.plain.spans.is_same_cover.Given as goal

abbrev pub invariant-loop-i : goal.invariant-loop-i
invariant-loop-i l = (same_cover l.ps l.qs ≡ same_cover (drop l.i l.ps) (drop l.i l.qs)) × (length l.ps ≡ length l.qs)
