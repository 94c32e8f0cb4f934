use Rattle.std.proofs.Common.{◌≡◌, ◌++◌, length, option_map}
use Rattle.rk_script.specs.Words.{unescaped_bytes}
use Rattle.rk_script.proofs.escape.unescape.Given as goal

-- the bytes so far, and those of what is left
abbrev pub invariant-loop-byte : goal.invariant-loop-byte
invariant-loop-byte l = option_map (λ bs. l.bytes.items ++ bs) (unescaped_bytes l.rest) ≡ unescaped_bytes l.fn.word

abbrev pub decreases-loop-byte : goal.decreases-loop-byte
decreases-loop-byte l = length l.rest
