use Rattle.rk_spanmerge.proofs.Cutting.{sorted_cuts_differ}
use Rattle.rk_spanmerge.proofs.laws.sorted_cuts_have_differing_keys.Goals as goal

pub returns : goal.returns
returns c = sorted_cuts_differ
