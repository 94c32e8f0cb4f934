use Rattle.rk_spanmerge.proofs.Cutting.{distinct_keys}
use Rattle.rk_spanmerge.proofs.laws.read_keys_are_distinct.Goals as goal

pub returns : goal.returns
returns c = distinct_keys
