use Rattle.std.proofs.Common.{◌≡◌, ◌++◌, take}
use Rattle.std.specs.List.{flat_map}
use Rattle.rk_program.specs.Replies.{pair_text}
use Rattle.rk_program.proofs.replies.push_pairs.Given as goal

-- the pairs before this one are printed
abbrev pub invariant-loop-pair : goal.invariant-loop-pair
invariant-loop-pair l = l.out.items ≡ l.initial.out.items ++ flat_map pair_text (take l.pair-index l.pairs)
