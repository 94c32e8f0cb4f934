use Rattle.std.proofs.Common.{◌≡◌, take, map}
use Rattle.rk_model.specs.Covers.{cover}
use Rattle.rk_model.proofs.plain.ends.with_covers.Given as goal

abbrev pub invariant-loop-key : goal.invariant-loop-key
invariant-loop-key l = l.ends.items ≡ map (λ a. record { key = a; cover = cover l.entries a }) (take l.key-index l.keys)
