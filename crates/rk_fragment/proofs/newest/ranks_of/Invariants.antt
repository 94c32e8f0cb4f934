use Rattle.rk_fragment.proofs.Ranks.{AreRanks}
use Rattle.rk_fragment.proofs.newest.ranks_of.Given as goal

abbrev pub invariant-loop-i : goal.invariant-loop-i
invariant-loop-i l = AreRanks l.entries l.i l.ranks.keys
