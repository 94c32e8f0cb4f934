use Rattle.std.proofs.Common.{◌≡◌, is_some, length}
use Rattle.rk_script.specs.Words.{unescaped_bytes}
use Rattle.rk_script.proofs.escape.are_escapes_whole.Given as goal

-- what is left stands for bytes where the word does
abbrev pub invariant-loop-after : goal.invariant-loop-after
invariant-loop-after l = is_some (unescaped_bytes l.rest) ≡ is_some (unescaped_bytes l.fn.word)

abbrev pub decreases-loop-after : goal.decreases-loop-after
decreases-loop-after l = length l.rest
