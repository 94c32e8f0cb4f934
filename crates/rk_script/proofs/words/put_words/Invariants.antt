use Rattle.std.proofs.Common.{◌≡◌}
use Rattle.rk_script.proofs.words.put_words.Given as goal

abbrev pub invariant-loop-word : goal.invariant-loop-word
invariant-loop-word l = l.list.items ≡ l.yielded
