use Rattle.rk_spanmerge.proofs.Cutting.{each_key}
use Rattle.rk_spanmerge.proofs.laws.each_key_has_its_range_keys.Goals as goal

pub returns : goal.returns
returns c = each_key
