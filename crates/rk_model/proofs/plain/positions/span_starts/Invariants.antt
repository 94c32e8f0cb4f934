use Rattle.std.proofs.Common.{◌≡◌, drop, map}
use Rattle.rk_model.specs.Spans.{sorted_keys}
use Rattle.rk_model.specs.Plain.{starts_among}
use Rattle.rk_model.proofs.plain.positions.span_starts.Given as goal

abbrev pub invariant-loop-i : goal.invariant-loop-i
invariant-loop-i l = l.keys.items ≡ sorted_keys (starts_among l.entries l.options (map (λ a. a.key) (drop l.i l.ends)))
