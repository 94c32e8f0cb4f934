use Rattle.rk_fragment.proofs.Exact.{each_key}
use Rattle.rk_fragment.proofs.laws.each_key_has_its_range_keys.Goals as goal

pub returns : goal.returns
returns c = each_key
